-- Lemmas on discounted flows.
use Rattle.std.proofs.Common.{◌≡◌, ℕ, ◌+◌, ◌<◌, ◌≤◌, arith, refl, sym, ◌∙◌, ap, subst, Bool, true, false, ℤ, List, [], ◌∷◌, length, get_or, drop, drop_of_length-le}
use Rattle.std.specs.Prelude.{◌&&◌, ◌++◌, Result, Ok, Err}
use Rattle.curve_points.specs.Curve.{Curve}
use Rattle.flow_terms.specs.declared.flows.FlowTerm.{FlowTerm}
use Rattle.bond_yield.specs.Fixed.{is_known, are_known}
use Rattle.bond_yield.proofs.FlowLemmas.{here}
use Rattle.bond_spread.specs.declared.spreads.SpreadFault.{SpreadFault}
use Rattle.bond_spread.specs.Spread.{discounted_flow, then_flows, discounted}

-- these flows, and behind them others
abbrev pub behind : List FlowTerm → Result (List FlowTerm) SpreadFault → Result (List FlowTerm) SpreadFault
behind kept (Ok flows) = Ok (kept ++ flows)
behind kept (Err fault) = Err fault

one_more : (kept : List FlowTerm) (flow : FlowTerm) (flows : List FlowTerm) → (kept ++ flow ∷ []) ++ flows ≡ kept ++ flow ∷ flows
one_more [] flow flows = refl
one_more (first ∷ kept) flow flows = ap (λ (others : List FlowTerm). first ∷ others) (one_more kept flow flows)

none_more : (kept : List FlowTerm) → kept ++ [] ≡ kept
none_more [] = refl
none_more (first ∷ kept) = ap (λ (others : List FlowTerm). first ∷ others) (none_more kept)

behind_one : (kept : List FlowTerm) (flow : FlowTerm) (rest : Result (List FlowTerm) SpreadFault) → behind kept (then_flows (Ok flow) rest) ≡ behind (kept ++ flow ∷ []) rest
behind_one kept flow (Ok flows) = rw (one_more kept flow flows) refl
behind_one kept flow (Err fault) = refl

module _ (curve : Curve) (settle base : ℤ) (flows : List FlowTerm) (at : ℕ) (flow : FlowTerm) (kept : List FlowTerm) where
  -- the next flow is kept, or is the first that has a fault
  pub kept_on : (found : FlowTerm) → at < length flows → flow ≡ get_or flows at flow → discounted_flow curve settle base flow ≡ Ok found
      → behind kept (discounted curve settle base (drop at flows)) ≡ behind (kept ++ found ∷ []) (discounted curve settle base (drop (at + 1) flows))
  unfolding discounted
  kept_on found h is by = rw (here flows at flow h is, by) (behind_one kept found (discounted curve settle base (drop (at + 1) flows)))

  pub fault_on : (fault : SpreadFault) → at < length flows → flow ≡ get_or flows at flow → discounted_flow curve settle base flow ≡ Err fault
      → behind kept (discounted curve settle base (drop at flows)) ≡ Err fault
  unfolding discounted
  fault_on fault h is by = rw (here flows at flow h is, by) refl

-- behind the last flow all are kept
pub all_kept : (curve : Curve) (settle base : ℤ) (flows : List FlowTerm) (at : ℕ) (kept : List FlowTerm) → length flows ≤ at
    → behind kept (discounted curve settle base (drop at flows)) ≡ Ok kept
unfolding discounted
all_kept curve settle base flows at kept h = rw (drop_of_length-le flows h, none_more kept) refl

and_more : (a b c : Bool) → (b ≡ true → c ≡ true) → (a && b) ≡ true → (a && c) ≡ true
and_more true b c more both = more both
and_more false b c more both = both

-- known flows and one more
known_more : (kept : List FlowTerm) (flow : FlowTerm) → are_known kept ≡ true → is_known flow ≡ true → are_known (kept ++ flow ∷ []) ≡ true
known_more [] flow known is = rw is refl
known_more (first ∷ kept) flow known is =
    and_more (is_known first) (are_known kept) (are_known (kept ++ flow ∷ [])) (λ others. known_more kept flow others is) known

length_more : (kept : List FlowTerm) (flow : FlowTerm) → length (kept ++ flow ∷ []) ≡ length kept + 1
length_more [] flow = refl
length_more (first ∷ kept) flow = let rest = length_more kept flow in omega (arith, rest)

-- what is kept of flows before a place
pub record Keeps (curve : Curve) (settle base : ℤ) (flows : List FlowTerm) (at : ℕ) (kept : List FlowTerm) : Type 0 where
  pub value : discounted curve settle base flows ≡ behind kept (discounted curve settle base (drop at flows))
  pub known : are_known kept ≡ true
  pub count : length kept ≡ at
  pub within : at ≤ length flows

behind_none : (rest : Result (List FlowTerm) SpreadFault) → rest ≡ behind [] rest
behind_none (Ok flows) = refl
behind_none (Err fault) = refl

module _ (curve : Curve) (settle base : ℤ) (flows : List FlowTerm) where
  pub keeps_none : (kept : List FlowTerm) → kept ≡ [] → Keeps curve settle base flows 0 kept
  keeps_none kept none = rw (none) record {
    value = behind_none (discounted curve settle base flows);
    known = refl;
    count = refl;
    within = omega arith;
  }

  pub keeps_more : (at : ℕ) (flow found : FlowTerm) (kept more : List FlowTerm) → Keeps curve settle base flows at kept → at < length flows → flow ≡ get_or flows at flow
      → discounted_flow curve settle base flow ≡ Ok found → is_known found ≡ true → more ≡ kept ++ found ∷ [] → Keeps curve settle base flows (at + 1) more
  keeps_more at flow found kept more keeps h is by known all =
      let longer = length_more kept found in
      subst (λ (l : List FlowTerm). Keeps curve settle base flows (at + 1) l) (sym all) (record {
        value = keeps.value ∙ kept_on curve settle base flows at flow kept found h is by;
        known = known_more kept found keeps.known known;
        count = omega (arith, longer, keeps.count);
        within = omega (arith, h);
      })
