-- Lemmas on flows from a place on.
use Rattle.std.proofs.Common.{◌≡◌, ℕ, suc, ◌+◌, ◌<◌, ◌≤◌, arith, refl, sym, ap, ◌∙◌, true, false, int_le, int_lt, nat_lt, int_cmp, is_lt, is_gt, ℤ, pos, ◌+ℤ◌, ◌*ℤ◌, ◌≤ℤ◌, unsigned_abs, ◌*◌, List, [], ◌∷◌, length, get_or, drop, drop_of_length-le}
use Rattle.std.proofs.Math.Seq.{drop-cons}
use Rattle.std.proofs.lemmas.Int.{ints}
use Rattle.flow_terms.specs.declared.flows.FlowTerm.{FlowTerm}
use Rattle.flow_terms.specs.Flows.{paid_on}
use Rattle.fixed_amount.specs.Rounding.{closest}
use Rattle.fixed_amount.proofs.Steps.{closest_to}
use Rattle.flow_terms.specs.declared.limits.TheConstants.{MOST_AMOUNT}
use Rattle.bond_yield.specs.Fixed.{is_payment, rise_from, are_in_order}
use Rattle.bond_yield.specs.Accrued.{accrued_of, accrued}

-- the flows from a place on
pub here : (flows : List FlowTerm) (at : ℕ) (flow : FlowTerm) → at < length flows → flow ≡ get_or flows at flow → drop at flows ≡ flow ∷ drop (at + 1) flows
here flows at flow h is =
    let next : suc at ≡ at + 1 = omega arith in
    rw (← next) (drop-cons flows at flow h ∙ ap (λ (f : FlowTerm). f ∷ drop (suc at) flows) (sym is))

int_le_self : (d : ℤ) → int_le d d ≡ true
int_le_self d = grind (arith, ints)

-- flows are in order where they rise from the day of the first
pub from_first : (flows : List FlowTerm) (first : FlowTerm) → 0 < length flows → first ≡ get_or flows 0 first → are_in_order flows ≡ rise_from (paid_on first) flows
unfolding rise_from
from_first [] first h is = absurd (omega arith)
from_first (flow ∷ flows) first h is = rw (is, int_le_self (paid_on flow)) refl

-- the next flow is not before the day
pub rise_on : (flows : List FlowTerm) (at : ℕ) (flow : FlowTerm) (day : ℤ) → at < length flows → flow ≡ get_or flows at flow → int_le day (paid_on flow) ≡ true
    → rise_from day (drop at flows) ≡ rise_from (paid_on flow) (drop (at + 1) flows)
unfolding rise_from
rise_on flows at flow day h is later = rw (here flows at flow h is, later) refl

-- the next flow is before the day
pub rise_not : (flows : List FlowTerm) (at : ℕ) (flow : FlowTerm) (day : ℤ) → at < length flows → flow ≡ get_or flows at flow → int_le day (paid_on flow) ≡ false
    → rise_from day (drop at flows) ≡ false
unfolding rise_from
rise_not flows at flow day h is before = rw (here flows at flow h is, before) refl

pub rise_end : (flows : List FlowTerm) (at : ℕ) (day : ℤ) → length flows ≤ at → rise_from day (drop at flows) ≡ true
unfolding rise_from
rise_end flows at day h = rw (drop_of_length-le flows h) refl

-- what has accrued of the next flow, and of those behind it
pub accrued_on : (flows : List FlowTerm) (at : ℕ) (flow : FlowTerm) (settle : ℤ) → at < length flows → flow ≡ get_or flows at flow
    → accrued (drop at flows) settle ≡ accrued_of flow settle +ℤ accrued (drop (at + 1) flows) settle
unfolding accrued
accrued_on flows at flow settle h is = rw (here flows at flow h is) refl

pub accrued_end : (flows : List FlowTerm) (at : ℕ) (settle : ℤ) → length flows ≤ at → accrued (drop at flows) settle ≡ pos 0
unfolding accrued
accrued_end flows at settle h = rw (drop_of_length-le flows h) refl

-- the bounds of a payment
pub payment_is : (amount : ℤ) → is_payment amount ≡ true → (pos 0 ≤ℤ amount) × (unsigned_abs amount ≤ MOST_AMOUNT)
payment_is amount is = grind (arith, ints)

-- a quotient rounded to the nearest is not above a whole number that the divisor times over reaches
pub nearest_within : (num high den result : ℕ) → 1 ≤ den → num ≤ high * den → pos result ≡ closest (pos num) den → result ≤ high
nearest_within num high den result low h is =
    let within : pos num ≤ℤ (pos high *ℤ pos den) = omega (arith, ints, h) in
    let bound = closest_to (pos num) (pos high) den low within in
    omega (arith, ints, is, bound)

-- a day before another is not on it or after it
pub before_not : (a b : ℤ) → is_lt (int_cmp a b) ≡ true → int_le b a ≡ false
before_not a b h = grind (arith, ints)

pub not_before : (a b : ℤ) → is_lt (int_cmp a b) ≡ false → int_le b a ≡ true
not_before a b h = grind (arith, ints)

-- what is paid later is after the day
pub later_is : (a b : ℤ) → is_gt (int_cmp a b) ≡ true → int_lt b a ≡ true
later_is a b h = grind (arith, ints)

pub later_not : (a b : ℤ) → is_gt (int_cmp a b) ≡ false → int_lt b a ≡ false
later_not a b h = grind (arith, ints)

-- a sum with the next number
pub sum_on : (sum next : ℕ) (x y z all : ℤ) → pos next ≡ x → y ≡ x +ℤ z → pos sum +ℤ y ≡ all → pos (sum + next) +ℤ z ≡ all
sum_on sum next x y z all ix iy ia = omega (arith, ints, ix, iy, ia)

pub some_there : (n : ℕ) → true ≡ nat_lt 0 n → 0 < n
some_there n h = grind arith
