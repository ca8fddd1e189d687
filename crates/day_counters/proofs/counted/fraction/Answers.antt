use Rattle.std.proofs.Common.{arith, pos, ◌≡◌, ℕ, ◌+◌, ◌≤◌, ℤ, ◌+ℤ◌, ◌-ℤ◌, ◌≤ℤ◌, to_z, of_z, w64, neg_ℤ, unsigned_abs}
use Rattle.jiff_core.proofs.SignedLemmas.{signed_arith, unsigned_abs-parts, one_part}
use Rattle.year_parts.specs.Basis.{most_of_a_period}
use Rattle.day_counters.specs.CivilDate.{at_least_zero}
use Rattle.day_counters.specs.Counter.{frac}
use Rattle.day_counters.specs.Day.{act_act}
use Rattle.day_counters.proofs.CastLemmas.{cast_long}
use Rattle.day_counters.proofs.YearLemmas.{between, act_act_bound}
use Rattle.day_counters.proofs.counted.fraction.Goals as goal

-- the parts before a day of the range are few
few : (day : ℤ) → neg_ℤ (pos 25_202) ≤ℤ day → day ≤ℤ pos 84_005 → act_act (neg_ℤ (pos 25_202)) (unsigned_abs (day +ℤ pos 25_202)) ≤ most_of_a_period
few day low high =
    let parts = unsigned_abs-parts (day +ℤ pos 25_202) in
    let part = one_part (day +ℤ pos 25_202) in
    let count : unsigned_abs (day +ℤ pos 25_202) ≤ 109_207 = omega (arith, signed_arith) in
    omega (arith, act_act_bound (neg_ℤ (pos 25_202)) (unsigned_abs (day +ℤ pos 25_202)))

-- a difference of small numbers that are parts
apart : (a b : ℤ) (m n rest : ℕ) → a ≡ pos m → b ≡ pos n → m ≤ most_of_a_period → n ≤ most_of_a_period → m ≡ n + rest → to_z w64 (of_z w64 (to_z w64 (of_z w64 a) -ℤ to_z w64 (of_z w64 b))) ≡ pos rest
apart a b m n rest is other_is h k e =
    let one = cast_long a (omega (arith, signed_arith), omega (arith, signed_arith)) in
    let other = cast_long b (omega (arith, signed_arith), omega (arith, signed_arith)) in
    let gap = cast_long (a -ℤ b) (omega (arith, signed_arith), omega (arith, signed_arith)) in
    rw (one, other, gap) (omega (arith, signed_arith))

act_act_is : (c : goal.After-parts_before-in-ActAct) → to_z w64 (of_z w64 (to_z w64 (of_z w64 c.parts_before.result) -ℤ to_z w64 (of_z w64 c.parts_before-in-ActAct.result))) ≡ pos (act_act c.args.from (at_least_zero (c.args.to -ℤ c.args.from)))
act_act_is c =
    let to = c.parts_before.ensures.range in
    let from = c.parts_before-in-ActAct.ensures.range in
    apart c.parts_before.result c.parts_before-in-ActAct.result _ _ _ c.parts_before.ensures.value c.parts_before-in-ActAct.ensures.value (few c.args.to to.0 to.1) (few c.args.from from.0 from.1) (between c.args.from c.args.to from to c.requires)

pub invariant_of-result : goal.invariant_of-result
invariant_of-result c =
    let is = act_act_is c in
    let to = c.parts_before.ensures.range in
    let from = c.parts_before-in-ActAct.ensures.range in
    let some = few c.args.to to.0 to.1 in
    let sum = between c.args.from c.args.to from to c.requires in
    rw is (omega (arith, signed_arith), omega (arith, signed_arith))

pub returns-in-ActAct : goal.returns-in-ActAct
unfolding frac
returns-in-ActAct c =
    let is = act_act_is c in
    let to = c.parts_before.ensures.range in
    let from = c.parts_before-in-ActAct.ensures.range in
    let some = few c.args.to to.0 to.1 in
    let sum = between c.args.from c.args.to from to c.requires in
    record { value = rw c.in-ActAct.is is; high = rw is (omega (arith, signed_arith)) }
