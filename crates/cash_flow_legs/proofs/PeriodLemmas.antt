-- Lemmas on the periods of rising days.
use Rattle.std.proofs.Common.{◌≡◌, ℕ, zero, suc, ◌+◌, ◌-◌, ◌<◌, ◌≤◌, arith, refl, sym, ap, subst, ◌∙◌, ℤ, pos, ◌<ℤ◌, List, [], ◌∷◌, ◌++◌, length, get_or, drop, drop_of_length-le, Option, Some, None}
use Rattle.std.proofs.lemmas.Int.{ints}
use Rattle.std.proofs.lemmas.List.{get_or_read_under}
use Rattle.std.proofs.Math.Seq.{drop-cons}
use Rattle.std.specs.declared.cmp.Ordering.{Ordering}
use Rattle.std.specs.declared.cmp.Ordering.TheVariants.{Less}
use Rattle.std.specs.Cmp.{int_ranks}
use Rattle.std.specs.Ordering.{MatchOrdering, int_cmp}
use Rattle.std.specs.List.Sorted.{IsStrictlySortedBy}
use Rattle.flow_terms.specs.declared.flows.FlowTerm.{FlowTerm}
use Rattle.cash_flow_legs.specs.Legs.{flow_and, periods_from, each_period}
use Rattle.cash_flow_legs.proofs.AppendLemmas.{behind, behind_more, behind_none, behind_all}

less_is : (a b : ℤ) → int_cmp a b ≡ Less → a <ℤ b
less_is a b h = subst (λ (r : Ordering). MatchOrdering r (a <ℤ b) (a ≡ b) (b <ℤ a)) h (int_ranks a b)

-- of rising days the next is after one
rising_step : (from : ℤ) (days : List ℤ) (k : ℕ) (p q : ℤ) → IsStrictlySortedBy int_cmp (from ∷ days) → k < length days → p ≡ get_or (from ∷ days) k p → q ≡ get_or days k q → p <ℤ q
unfolding IsStrictlySortedBy
rising_step from [] k p q sorted h ip iq = absurd (omega arith)
rising_step from (day ∷ days) zero p q sorted h ip iq = let less = less_is from day sorted.0.0 in omega (arith, ints, ip, iq, less)
rising_step from (day ∷ days) (suc k) p q sorted h ip iq = rising_step day days k p q sorted.1 (omega arith) ip iq

pub period_order : (days : List ℤ) (at : ℕ) (p q : ℤ) → IsStrictlySortedBy int_cmp days → 1 ≤ at → at < length days → p ≡ get_or days (at - 1) p → q ≡ get_or days at q → p <ℤ q
period_order [] at p q sorted low h ip iq = absurd (omega arith)
period_order (day ∷ days) zero p q sorted low h ip iq = absurd (omega arith)
period_order (day ∷ days) (suc k) p q sorted low h ip iq =
    let place : suc k - 1 ≡ k = omega arith in
    rising_step day days k p q sorted (omega arith) (rw place at ip) iq

-- the flows of the periods from a day on, by that of the next period
periods_step : (flow : ℤ → ℤ → Option FlowTerm) (days : List ℤ) (at : ℕ) (p q : ℤ) → at < length days → q ≡ get_or days at q
    → periods_from flow p (drop at days) ≡ flow_and (flow p q) (periods_from flow q (drop (at + 1) days))
unfolding periods_from
periods_step flow days at p q h iq =
    let here : drop at days ≡ q ∷ drop (suc at) days = drop-cons days at q h ∙ ap (λ (d : ℤ). d ∷ drop (suc at) days) (sym iq) in
    let next : suc at ≡ at + 1 = omega arith in
    rw (← next, here) refl

-- what is due behind flows that are done, by the day that the next period begins on
due_from : (flow : ℤ → ℤ → Option FlowTerm) (days : List ℤ) (at : ℕ) (p : ℤ) (done : List FlowTerm) (due : Option (List FlowTerm))
    → at < length days → p ≡ get_or days (at - 1) p → due ≡ behind done (periods_from flow (get_or days (at - 1) (pos 0)) (drop at days)) → due ≡ behind done (periods_from flow p (drop at days))
due_from flow days at p done due h ip is =
    is ∙ ap (λ (from : ℤ). behind done (periods_from flow from (drop at days))) (sym (get_or_read_under days (at - 1) (length days) p (pos 0) ip (omega arith) refl))

-- the next period's flow is there
pub periods_more : (flow : ℤ → ℤ → Option FlowTerm) (days : List ℤ) (at : ℕ) (p q : ℤ) (done : List FlowTerm) (found : FlowTerm) (due : Option (List FlowTerm))
    → at < length days → p ≡ get_or days (at - 1) p → q ≡ get_or days at q → due ≡ behind done (periods_from flow (get_or days (at - 1) (pos 0)) (drop at days)) → flow p q ≡ Some found
    → due ≡ behind (done ++ found ∷ []) (periods_from flow (get_or days (at + 1 - 1) (pos 0)) (drop (at + 1) days))
periods_more flow days at p q done found due h ip iq is there =
    let place : at + 1 - 1 ≡ at = omega arith in
    let to = get_or_read_under days at (length days) q (pos 0) iq h refl in
    rw (place, ← to) (due_from flow days at p done due h ip is
    ∙ (ap (behind done) (periods_step flow days at p q h iq ∙ ap (λ (f : Option FlowTerm). flow_and f (periods_from flow q (drop (at + 1) days))) there)
    ∙ behind_more done found (periods_from flow q (drop (at + 1) days))))

-- the next period's flow is not there
pub periods_none : (flow : ℤ → ℤ → Option FlowTerm) (days : List ℤ) (at : ℕ) (p q : ℤ) (done : List FlowTerm) (due : Option (List FlowTerm))
    → at < length days → p ≡ get_or days (at - 1) p → q ≡ get_or days at q → due ≡ behind done (periods_from flow (get_or days (at - 1) (pos 0)) (drop at days)) → flow p q ≡ None → due ≡ None
periods_none flow days at p q done due h ip iq is none =
    due_from flow days at p done due h ip is ∙ ap (behind done) (periods_step flow days at p q h iq ∙ ap (λ (f : Option FlowTerm). flow_and f (periods_from flow q (drop (at + 1) days))) none)

-- where no period is left
pub periods_done : (flow : ℤ → ℤ → Option FlowTerm) (days : List ℤ) (at : ℕ) (p : ℤ) (done : List FlowTerm) (due : Option (List FlowTerm))
    → length days ≤ at → due ≡ behind done (periods_from flow p (drop at days)) → due ≡ Some done
unfolding periods_from
periods_done flow days at p done due h is =
    is ∙ (ap (λ (ds : List ℤ). behind done (periods_from flow p ds)) (drop_of_length-le days h) ∙ behind_all done)

-- where no period is done
pub periods_begin : (flow : ℤ → ℤ → Option FlowTerm) (days : List ℤ) (d : ℤ) → 2 ≤ length days → each_period flow days ≡ behind [] (periods_from flow (get_or days 0 d) (drop 1 days))
periods_begin flow [] d h = absurd (omega arith)
periods_begin flow (day ∷ days) d h = sym (behind_none (periods_from flow day days))
