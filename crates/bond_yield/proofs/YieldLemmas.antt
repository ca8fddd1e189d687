-- Lemmas on yields.
use Rattle.std.proofs.Common.{◌≡◌, ◌↔◌, ℕ, zero, suc, ◌+◌, ◌-◌, ◌<◌, ◌≤◌, arith, refl, sym, ap, subst, Bool, true, false, int_le, int_cmp, is_le, ℤ, pos, ◌≤ℤ◌, ◌<ℤ◌, unsigned_abs, List, Option, Some, None, Result, Ok, Err, IfOk, inl, inr}
use Rattle.std.proofs.lemmas.Bool.{cases_lt}
use Rattle.std.proofs.lemmas.Int.{ints}
use Rattle.flow_terms.specs.declared.flows.FlowTerm.{FlowTerm}
use Rattle.bond_yield.specs.Price.{full_price}
use Rattle.flow_terms.specs.Flows.{is_expired}
use Rattle.bond_yield.specs.Fixed.{is_fixed}
use Rattle.bond_yield.specs.declared.yields.TheConstants.{MOST_YIELD}
use Rattle.bond_yield.specs.declared.bonds.YieldFault.{YieldFault}
use Rattle.bond_yield.specs.Yield.{asked_price, price_fault, fault_of, least_from, least_yield, fault_or, yield_of, IsYield}
use Rattle.bond_yield.proofs.FactorLemmas.{price_falls}

-- what is above a price at one yield is so at each smaller one
pub above_below : (flows : List FlowTerm) (settle price : ℤ) (y z : ℕ) → y ≤ z → price <ℤ full_price flows settle z → price <ℤ full_price flows settle y
above_below flows settle price y z h above = let more = price_falls flows settle y z h in omega (arith, ints, above, more)

-- no yield of a price is less than another
not_less : (flows : List FlowTerm) (settle price y z : ℤ) → IsYield flows settle price y → IsYield flows settle price z → unsigned_abs z ≤ unsigned_abs y
not_less flows settle price y z one other = elim (cases_lt (unsigned_abs y) (unsigned_abs z)) [
  | inl less ↦ let above = other.least (unsigned_abs y) less in absurd (omega (arith, ints, above, one.meets))
  | inr same ↦ same
]

pub one_yield : (flows : List FlowTerm) (settle price y z : ℤ) → IsYield flows settle price y → IsYield flows settle price z → y ≡ z
one_yield flows settle price y z one other =
    let up = not_less flows settle price y z one other in
    let down = not_less flows settle price z y other one in
    omega (arith, ints, up, down, one.low, other.low)

pub unit_below : (flows : List FlowTerm) (settle price yield : ℤ) → IsYield flows settle price yield → 0 < unsigned_abs yield → price <ℤ full_price flows settle (unsigned_abs yield - 1)
unit_below flows settle price yield is h = is.least (unsigned_abs yield - 1) (omega (arith, h))

-- of a fixed bond with a flow to come the price decides
pub fault_at : (flows : List FlowTerm) (settle clean price : ℤ) → is_fixed flows ≡ true → is_expired flows settle ≡ false → price ≡ asked_price flows settle clean
    → fault_of flows settle clean ≡ price_fault flows settle price
fault_at flows settle clean price fixed due is = rw (fixed, due, is) refl

-- a price that is not within another is above it
pub above_is : (a b full : ℤ) → is_le (int_cmp a b) ≡ false → a ≡ full → b <ℤ full
above_is a b full h is = let above : b <ℤ a = grind (arith, ints) in omega (arith, ints, above, is)

-- the least number that passes is the one before which none does
least_is : (test : ℕ → Bool) (at more y : ℕ) → at ≤ y → y ≤ at + more → test y ≡ true → ((x : ℕ) → x < y → test x ≡ false) → least_from test at more ≡ y
unfolding least_from
least_is test at zero y low high is others = omega (arith, low, high)
least_is test at (suc more) y low high is others = elim (cases_lt at y) [
  | inl less ↦ rw (others at less) (least_is test (at + 1) more y (omega (arith, less)) (omega (arith, high)) is others)
  | inr same ↦ let here : at ≡ y = omega (arith, low, same) in rw (subst (λ (x : ℕ). test x ≡ true) (sym here) is) here
]

meets_is : (a b : ℤ) → a ≤ℤ b → int_le a b ≡ true
meets_is a b h = grind (arith, ints)

above_not : (a b : ℤ) → b <ℤ a → int_le a b ≡ false
above_not a b h = grind (arith, ints)

-- the yield of a price is the least
pub yield_is : (flows : List FlowTerm) (settle price yield : ℤ) → IsYield flows settle price yield → yield ≡ pos (least_yield flows settle price)
unfolding least_yield
yield_is flows settle price yield is =
    let test : ℕ → Bool = λ y. int_le (full_price flows settle y) price in
    let meets : test (unsigned_abs yield) ≡ true = meets_is (full_price flows settle (unsigned_abs yield)) price is.meets in
    let least = least_is test 0 MOST_YIELD (unsigned_abs yield) (omega arith) is.high meets (λ x below. above_not (full_price flows settle x) price (is.least x below)) in
    omega (arith, ints, is.low, least)

-- an answer whose faults are these and whose yield is this
answer_by : (found : Option YieldFault) (answer : Result ℤ YieldFault) (yield : ℕ) → ((fault : YieldFault) → (answer ≡ Err fault) ↔ (found ≡ Some fault)) → IfOk answer (λ y. y ≡ pos yield)
    → answer ≡ fault_or found yield
answer_by None (Ok y) yield faults is = ap (λ (y : ℤ). Ok y) is
answer_by None (Err fault) yield faults is = let none : None ≡ Some fault = (faults fault).0 refl in absurd cc
answer_by (Some fault) answer yield faults is = (faults fault).1 refl

least_ok : (flows : List FlowTerm) (settle price : ℤ) (answer : Result ℤ YieldFault) → IfOk answer (IsYield flows settle price) → IfOk answer (λ y. y ≡ pos (least_yield flows settle price))
least_ok flows settle price (Ok y) is = yield_is flows settle price y is
least_ok flows settle price (Err fault) is = tt

-- an answer at a full price
pub answer_at : (flows : List FlowTerm) (settle price : ℤ) (answer : Result ℤ YieldFault) → ((fault : YieldFault) → (answer ≡ Err fault) ↔ (price_fault flows settle price ≡ Some fault))
    → IfOk answer (IsYield flows settle price) → answer ≡ fault_or (price_fault flows settle price) (least_yield flows settle price)
answer_at flows settle price answer faults least =
    answer_by (price_fault flows settle price) answer (least_yield flows settle price) faults (least_ok flows settle price answer least)

pub answer_is : (flows : List FlowTerm) (settle clean : ℤ) (answer : Result ℤ YieldFault) → ((fault : YieldFault) → (answer ≡ Err fault) ↔ (fault_of flows settle clean ≡ Some fault))
    → IfOk answer (IsYield flows settle (asked_price flows settle clean)) → answer ≡ yield_of flows settle clean
answer_is flows settle clean answer faults least =
    answer_by (fault_of flows settle clean) answer (least_yield flows settle (asked_price flows settle clean)) faults (least_ok flows settle (asked_price flows settle clean) answer least)
