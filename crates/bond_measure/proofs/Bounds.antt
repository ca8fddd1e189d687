-- How much flows are worth at most.
use Rattle.std.proofs.Common.{◌≡◌, ℕ, ◌+◌, ◌*◌, ◌/◌, ◌≤◌, Bool, true, false, arith, ℤ, pos, ◌≤ℤ◌, ◌*ℤ◌, List, [], ◌∷◌, length, refl}
use Rattle.std.specs.Prelude.{◌&&◌, if◌then◌else◌}
use Rattle.std.proofs.lemmas.Int.{ints}
use Rattle.std.proofs.Math.Nat.{div-mul-le_self, mul-le-mul, mul-le-mul_left}
use Rattle.fixed_amount.proofs.Steps.{closest_from, closest_to}
use Rattle.year_parts.specs.declared.bases.Basis.TheVariants.{D365}
use Rattle.year_parts.specs.Basis.{parts_in_day}
use Rattle.flow_terms.specs.declared.limits.TheConstants.{MOST_AMOUNT, MOST_FLOWS}
use Rattle.flow_terms.specs.declared.flows.FlowTerm.{FlowTerm}
use Rattle.flow_terms.specs.declared.flows.FlowTerm.TheVariants.{Known, Float, Forward}
use Rattle.flow_terms.specs.Flows.{paid_on}
use Rattle.bond_yield.specs.Fixed.{is_known, are_known, are_in_order, is_fixed}
use Rattle.bond_yield.specs.Price.{one, whole, days_from, amount_of, factor_after, factors_from, worth, is_after, paid_after, worth_from, full_price}
use Rattle.bond_yield.proofs.FlowLemmas.{payment_is}

both : (a b : Bool) → (a && b) ≡ true → (a ≡ true) × (b ≡ true)
both true b e = (refl, e)
both false b e = absurd (let none : false ≡ true = e in cc)

-- no factor grows from one payment to the next
less : (y v days : ℕ) → factor_after y v days ≤ v
unfolding factor_after
less y v days =
    let grown = whole + y * (days * parts_in_day D365) in
    let within = div-mul-le_self (v * whole) grown in
    let more = mul-le-mul_left {m = whole} {n = grown} (v * whole / grown) (omega arith) in
    omega (arith, within, more)

amount_within : (flow : FlowTerm) → is_known flow ≡ true → amount_of flow ≤ MOST_AMOUNT
amount_within (Known paid amount period) known = (payment_is amount known).1
amount_within (Float paid notional spread parts fixing) known = omega arith
amount_within (Forward paid notional strike fixing) known = omega arith

-- one flow more, which is settled or not
module _ (y : ℕ) (settle day : ℤ) (factor : ℕ) (flow : FlowTerm) (flows : List FlowTerm) where
  next : ℕ
  next = factor_after y factor (days_from day (paid_on flow))

  flow_more : (after : Bool) → next ≤ one → amount_of flow ≤ MOST_AMOUNT
      → worth_from y (paid_on flow) next (paid_after settle flows) ≤ length flows * (MOST_AMOUNT * one)
      → worth_from y day factor (paid_after settle flows) ≤ length flows * (MOST_AMOUNT * one)
      → worth_from y day factor (if after then flow ∷ paid_after settle flows else paid_after settle flows)
      ≤ length (flow ∷ flows) * (MOST_AMOUNT * one)
  unfolding worth factors_from next
  flow_more true within most rest skipped =
      let first = mul-le-mul most within in
      omega (arith, first, rest)
  flow_more false within most rest skipped = omega (arith, skipped)

worth_within : (y : ℕ) (settle day : ℤ) (factor : ℕ) → factor ≤ one → (flows : List FlowTerm) → are_known flows ≡ true
    → worth_from y day factor (paid_after settle flows) ≤ length flows * (MOST_AMOUNT * one)
unfolding worth factors_from next
worth_within y settle day factor few [] known = omega arith
worth_within y settle day factor few (flow ∷ flows) known =
    let parts = both (is_known flow) (are_known flows) known in
    let small = less y factor (days_from day (paid_on flow)) in
    let within : factor_after y factor (days_from day (paid_on flow)) ≤ one = omega (arith, small, few) in
    flow_more y settle day factor flow flows (is_after settle flow) within (amount_within flow parts.0)
    (worth_within y settle (paid_on flow) (factor_after y factor (days_from day (paid_on flow))) within flows parts.1)
    (worth_within y settle day factor few flows parts.1)

-- the full price lies from 0 to the most that so many flows may be
pub price_low : (flows : List FlowTerm) (settle : ℤ) (y : ℕ) → pos 0 ≤ℤ full_price flows settle y
price_low flows settle y =
    closest_from (pos (worth_from y settle one (paid_after settle flows))) (pos 0) one (omega arith) (omega (arith, ints))

pub price_high : (flows : List FlowTerm) (settle : ℤ) (y : ℕ) → is_fixed flows ≡ true → length flows ≤ MOST_FLOWS
    → full_price flows settle y ≤ℤ pos (MOST_FLOWS * MOST_AMOUNT)
price_high flows settle y fixed count =
    let known = (both (are_known flows) (are_in_order flows) fixed).0 in
    let within = worth_within y settle settle one (omega arith) flows known in
    let most : worth_from y settle one (paid_after settle flows) ≤ MOST_FLOWS * MOST_AMOUNT * one = omega (arith, within, count) in
    let bound : pos (worth_from y settle one (paid_after settle flows)) ≤ℤ (pos (MOST_FLOWS * MOST_AMOUNT) *ℤ pos one) = omega (arith, ints, most) in
    closest_to (pos (worth_from y settle one (paid_after settle flows))) (pos (MOST_FLOWS * MOST_AMOUNT)) one (omega arith) bound
