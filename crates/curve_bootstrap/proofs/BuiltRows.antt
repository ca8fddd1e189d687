-- Curves of one deposit that are worked out by an independent model.
use Rattle.std.proofs.Common.{◌≡◌, ℕ, suc, ◌≤◌, ◌*◌, ◌^◌, arith, refl, sym, ap, ◌∙◌, ℤ, pos, neg_ℤ, ◌<ℤ◌, ◌≤ℤ◌, Bool, true, false, List, [], ◌∷◌, Some, Ok, nat_le, int_le}
use Rattle.std.proofs.lemmas.Int.{ints}
use Rattle.std.proofs.lemmas.List.Elements.{All-nil, All-cons}
use Rattle.jiff_core.specs.Calendar.{days_from_civil, day_count, days_of_years, days_of_months, weekday_number}
use Rattle.day_number.specs.declared.conventions.Convention.TheVariants.{ModifiedFollowing}
use Rattle.day_number.specs.Day.{civil_number, date_of, date_after, date_in_year}
use Rattle.holiday_calendars.specs.declared.bases.Base.TheVariants.{Target}
use Rattle.holiday_calendars.specs.declared.calendars.Calendar.TheVariants.{One}
use Rattle.holiday_calendars.specs.Calendar.{is_business_day}
use Rattle.holiday_calendars.specs.Easter.{moon_days, sunday_days, early_weeks, easter_place, easter_day}
use Rattle.holiday_calendars.specs.Target.{is_target_holiday}
use Rattle.day_shift.specs.Business.{first_from, next}
use Rattle.day_shift.specs.Advanced.{advanced, days_after}
use Rattle.curve_points.specs.declared.curves.CurveNode.{CurveNode}
use Rattle.curve_points.specs.Curve.{origin}
use Rattle.curve_points.specs.Point.{beyond}
use Rattle.curve_bootstrap.specs.declared.coupons.Coupon.{Coupon}
use Rattle.curve_bootstrap.specs.Coupon.{total, parts_of, AreCoupons}
use Rattle.curve_bootstrap.specs.Node.{excess, node_of, is_negative_sum}
use Rattle.curve_bootstrap.specs.Split.{IsRoot}
use Rattle.curve_bootstrap.specs.Built.{coupons_of, nodes_of, curve_of, reference_day, built_curve}
use Rattle.curve_bootstrap.specs.Examples.{paid, deposit, terms_of, curve_to}
use Rattle.curve_bootstrap.proofs.BuiltLemmas.{built_by}
use Rattle.curve_bootstrap.proofs.LawLemmas.{rises}
use Rattle.curve_bootstrap.proofs.NodeLemmas.{root_some, node_root}

-- one coupon after a day
one_coupon : (from day parts : ℕ) → suc from ≤ day → AreCoupons (pos from) (pos day) (paid (pos day) (pos parts) ∷ [])
one_coupon from day parts h = record {
  few = omega arith;
  ordered = (omega (arith, ints, h), tt);
  up_to = All-cons (λ (c : Coupon). c.day ≤ℤ pos day) (paid (pos day) (pos parts)) [] (omega (arith, ints)) (All-nil (λ (c : Coupon). c.day ≤ℤ pos day));
  after = λ runs. All-cons (λ (c : Coupon). pos from <ℤ c.day) (paid (pos day) (pos parts)) [] (omega (arith, ints, h)) (All-nil (λ (c : Coupon). pos from <ℤ c.day));
  parts = All-cons (λ (c : Coupon). pos 0 ≤ℤ c.parts) (paid (pos day) (pos parts)) [] (omega (arith, ints)) (All-nil (λ (c : Coupon). pos 0 ≤ℤ c.parts));
}

-- the node of one coupon on an empty curve, where the excess turns
pub node_there : (from day parts rate m : ℕ) → suc from ≤ day → nat_le rate (10 ^ 10) ≡ true
    → IsRoot (excess (origin (pos from)) [] (pos day) (pos rate) (paid (pos day) (pos parts) ∷ [])) (Some (pos (suc m)))
    → int_le (pos day) (pos from) ≡ false → is_negative_sum (pos rate) (total parts_of (paid (pos day) (pos parts) ∷ [])) ≡ false
    → node_of (origin (pos from)) [] (pos day) (pos rate) (paid (pos day) (pos parts) ∷ []) ≡ Ok (pos (suc m))
node_there from day parts rate m h few root later mild =
    let cs : List Coupon = paid (pos day) (pos parts) ∷ [] in
    let first : CurveNode = origin (pos from) in
    let found = root_some (excess first [] (pos day) (pos rate) cs) (pos (suc m))
    (λ x. rises first [] (pos day) (pos rate) cs tt (omega (arith, ints)) (one_coupon from day parts h) (omega (arith, ints, h)) mild x) root in
    sym (node_root first [] first (pos day) (pos rate) cs (Ok (pos (suc m))) refl later few mild found)

abbrev value_at : ℕ → ℕ → ℕ → ℤ → ℤ
value_at day parts rate x = excess (origin (pos 19_810)) [] (pos day) (pos rate) (paid (pos day) (pos parts) ∷ []) x

-- from the last business day of a month on TARGET, 2024-03-28, to that of the next, and to the same day of it
pub node_at_a_month_end : node_of (origin (pos 19_810)) [] (pos 19_843) (pos 36_000_000) (paid (pos 19_843) (pos 1_028_643) ∷ []) ≡ Ok (pos 996_710_854_182)
unfolding excess total beyond
node_at_a_month_end =
    let zero_is : value_at 19_843 1_028_643 36_000_000 (pos 0) ≡ neg_ℤ (pos 11221560000000000000000000000) = refl in
    let most_is : value_at 19_843 1_028_643 36_000_000 (pos (4 * 10 ^ 12)) ≡ pos 33812804592000000000000000000 = refl in
    let there : value_at 19_843 1_028_643 36_000_000 (pos 996_710_854_182) ≡ pos 8983980936000000 = refl in
    let below : value_at 19_843 1_028_643 36_000_000 (pos 996_710_854_181) ≡ neg_ℤ (pos 2274610212000000) = refl in
    node_there 19_810 19_843 1_028_643 36_000_000 996_710_854_181 (omega arith) refl
    (omega (arith, ints, zero_is), omega (arith, ints, most_is), omega (arith, ints), omega (arith, ints), omega (arith, ints, there), omega (arith, ints, below)) refl refl

pub node_by_the_day : node_of (origin (pos 19_810)) [] (pos 19_842) (pos 36_000_000) (paid (pos 19_842) (pos 997_472) ∷ []) ≡ Ok (pos 996_810_207_337)
unfolding excess total beyond
node_by_the_day =
    let zero_is : value_at 19_842 997_472 36_000_000 (pos 0) ≡ neg_ℤ (pos 11221560000000000000000000000) = refl in
    let most_is : value_at 19_842 997_472 36_000_000 (pos (4 * 10 ^ 12)) ≡ pos 33808315968000000000000000000 = refl in
    let there : value_at 19_842 997_472 36_000_000 (pos 996_810_207_337) ≡ pos 5368394304000000 = refl in
    let below : value_at 19_842 997_472 36_000_000 (pos 996_810_207_336) ≡ neg_ℤ (pos 5889074688000000) = refl in
    node_there 19_810 19_842 997_472 36_000_000 996_810_207_336 (omega arith) refl
    (omega (arith, ints, zero_is), omega (arith, ints, most_is), omega (arith, ints), omega (arith, ints), omega (arith, ints, there), omega (arith, ints, below)) refl refl

settled : (eom : Bool) → reference_day (terms_of (One Target) 1 (deposit ModifiedFollowing eom ∷ [])) (pos 19_809) ≡ Some (pos 19_810)
unfolding advanced days_after next first_from is_business_day is_target_holiday weekday_number date_of date_after date_in_year moon_days sunday_days early_weeks easter_place easter_day civil_number days_from_civil day_count days_of_years days_of_months
settled eom = refl

nodes_to : (day parts : ℕ) (eom : Bool) (factor : ℤ) → coupons_of (One Target) (pos 19_810) (deposit ModifiedFollowing eom) ≡ Ok (paid (pos day) (pos parts) ∷ [])
    → node_of (origin (pos 19_810)) [] (pos day) (pos 36_000_000) (paid (pos day) (pos parts) ∷ []) ≡ Ok factor
    → nodes_of (coupons_of (One Target) (pos 19_810)) (origin (pos 19_810)) 1 [] (deposit ModifiedFollowing eom ∷ []) (pos 36_000_000 ∷ [])
    ≡ Ok (record { day = pos day; factor = factor } ∷ [])
unfolding nodes_of
nodes_to day parts eom factor pays node = rw (pays, node) refl

-- the curve of a deposit on TARGET of which the coupon and the node are known
pub built_to : (day parts : ℕ) (eom : Bool) (factor : ℤ) → coupons_of (One Target) (pos 19_810) (deposit ModifiedFollowing eom) ≡ Ok (paid (pos day) (pos parts) ∷ [])
    → node_of (origin (pos 19_810)) [] (pos day) (pos 36_000_000) (paid (pos day) (pos parts) ∷ []) ≡ Ok factor
    → built_curve 1 (terms_of (One Target) 1 (deposit ModifiedFollowing eom ∷ [])) (pos 19_809) (pos 36_000_000 ∷ []) ≡ Ok (curve_to (pos day) factor)
built_to day parts eom factor pays node =
    built_by 1 (terms_of (One Target) 1 (deposit ModifiedFollowing eom ∷ [])) (pos 19_809) (pos 36_000_000 ∷ []) (pos 19_810) (settled eom)
    ∙ ap (curve_of 1 (pos 19_810)) (nodes_to day parts eom factor pays node)
