-- The laws of bootstrapped curves.
use Rattle.std.proofs.Common.{◌≡◌, ℕ, zero, suc, ◌*◌, ◌^◌, ◌<◌, ◌≤◌, arith, refl, sym, ap, subst, ◌∙◌, ℤ, pos, negsuc, ◌-ℤ◌, ◌≤ℤ◌, ◌<ℤ◌, int_le, int_lt, int_eq, nat_le, unsigned_abs, true, false, Bool, ◌||◌, List, [], ◌∷◌, ◌++◌, take, drop, Some, Result, Ok, Err, inl, inr, if◌then◌else◌}
use Rattle.std.proofs.lemmas.Bool.{cases_lt, true≢false}
use Rattle.std.proofs.lemmas.Int.{ints}
use Rattle.curve_points.specs.declared.curves.CurveNode.{CurveNode}
use Rattle.curve_points.specs.Curve.{origin}
use Rattle.curve_points.specs.Segment.{on_segment, most}
use Rattle.curve_points.specs.Point.{beyond}
use Rattle.curve_points.proofs.PointLemmas.{is_not_lt, discount_beyond, le_false}
use Rattle.curve_bootstrap.specs.declared.faults.HelperFault.{HelperFault}
use Rattle.curve_bootstrap.specs.declared.faults.HelperFault.TheVariants.{Pillar, RateRange, Negative, Discount}
use Rattle.curve_bootstrap.specs.Coupon.{total, parts_of}
use Rattle.curve_bootstrap.specs.Node.{node_of, excess, last_of, or_zero, trial, is_negative_sum, least_where, least_factor, root_or_fault}
use Rattle.curve_bootstrap.specs.Laws.{IsLeast, NodesAreLeast, ExcessRises, TrialIsTheDiscount}
use Rattle.curve_bootstrap.proofs.NodeLemmas.{excess_rises, parted_by}
use Rattle.curve_bootstrap.proofs.CouponLemmas.{part_at}

-- below the least number with a property none has it
least_before : (p : ℕ → Bool) (n k : ℕ) → k < least_where p n → p k ≡ false
unfolding least_where
least_before p zero k h = absurd (omega arith)
least_before p (suc n) zero h = by_first (p zero) refl h where
  by_first : (b : Bool) → p zero ≡ b → zero < (if b then zero else suc (least_where (λ (i : ℕ). p (suc i)) n)) → p zero ≡ false
  by_first true first less = absurd (omega arith)
  by_first false first less = first
least_before p (suc n) (suc k) h = by_first (p zero) h (λ less. least_before (λ (i : ℕ). p (suc i)) n k less) where
  by_first : (b : Bool) → suc k < (if b then zero else suc (least_where (λ (i : ℕ). p (suc i)) n)) → (k < least_where (λ (i : ℕ). p (suc i)) n → p (suc k) ≡ false) → p (suc k) ≡ false
  by_first true less next = absurd (omega arith)
  by_first false less next = next (omega arith)

least_most : (p : ℕ → Bool) (n : ℕ) → least_where p n ≤ n
unfolding least_where
least_most p zero = omega arith
least_most p (suc n) = by_first (p zero) (least_most (λ (i : ℕ). p (suc i)) n) where
  by_first : (b : Bool) → least_where (λ (i : ℕ). p (suc i)) n ≤ n → (if b then zero else suc (least_where (λ (i : ℕ). p (suc i)) n)) ≤ suc n
  by_first true h = omega arith
  by_first false h = omega arith

-- it has the property, or is the bound
least_there : (p : ℕ → Bool) (n : ℕ) → least_where p n < n → p (least_where p n) ≡ true
unfolding least_where
least_there p zero h = absurd (omega arith)
least_there p (suc n) h = by_first (p zero) refl h (λ less. least_there (λ (i : ℕ). p (suc i)) n less) where
  by_first : (b : Bool) → p zero ≡ b → (if b then zero else suc (least_where (λ (i : ℕ). p (suc i)) n)) < suc n → (least_where (λ (i : ℕ). p (suc i)) n < n → p (suc (least_where (λ (i : ℕ). p (suc i)) n)) ≡ true) → p (if b then zero else suc (least_where (λ (i : ℕ). p (suc i)) n)) ≡ true
  by_first true first less next = first
  by_first false first less next = next (omega arith)

lt_false : (z : ℤ) → int_lt z (pos 0) ≡ false → pos 0 ≤ℤ z
lt_false z h = grind (arith, ints)

le_true : (z : ℤ) → int_le (pos 0) z ≡ true → pos 0 ≤ℤ z
le_true z h = grind (arith, ints)

-- the least factor of a function that is negative at 0 and not at the greatest factor
least_is_least : (f : ℤ → ℤ) → int_le (pos 0) (f (pos 0)) ≡ false → int_lt (f most) (pos 0) ≡ false → IsLeast f (least_factor f)
least_is_least f zero_below most_there =
    let p : ℕ → Bool = λ k. int_le (pos 0) (f (pos k)) in
    let m = least_where p (4 * 10 ^ 12) in
    let within = least_most p (4 * 10 ^ 12) in
    let some : 1 ≤ m = elim (cases_lt 0 m) [
      | inl less ↦ less
      | inr none ↦ (let e : m ≡ 0 = omega arith in absurd (true≢false (sym (least_there p (4 * 10 ^ 12) (omega arith)) ∙ (ap p e ∙ zero_below))))
    ] in
    let before = λ (k : ℕ) (less : k < m). le_false (pos 0) (f (pos k)) (least_before p (4 * 10 ^ 12) k less) in
    record {
      low = omega (arith, ints, some);
      high = omega (arith, ints, within);
      there = elim (cases_lt m (4 * 10 ^ 12)) [
        | inl less ↦ le_true (f (pos m)) (least_there p (4 * 10 ^ 12) less)
        | inr more ↦ (let e : m ≡ 4 * 10 ^ 12 = omega arith in subst (λ (k : ℕ). pos 0 ≤ℤ f (pos k)) (sym e) (lt_false (f most) most_there))
      ];
      one_below = one_before f m some before;
      below = λ y. elim y as (λ v. pos 0 ≤ℤ v → v <ℤ pos m → f v <ℤ pos 0) [
        | pos k ↦ (λ low less. before k (omega (arith, ints, less)))
        | negsuc k ↦ (λ low less. absurd (omega (arith, ints, low)))
      ];
    }
  where
    one_before : (f : ℤ → ℤ) (m : ℕ) → 1 ≤ m → ((k : ℕ) → k < m → f (pos k) <ℤ pos 0) → f (pos m -ℤ pos 1) <ℤ pos 0
    one_before f zero some before = absurd (omega arith)
    one_before f (suc m) some before =
        let same : pos m ≡ pos (suc m) -ℤ pos 1 = omega (arith, ints) in
        subst (λ (z : ℤ). f z <ℤ pos 0) same (before m (omega arith))

-- a root that is there is the least
root_is_least : (f : ℤ → ℤ) (x : ℤ) → root_or_fault f ≡ Ok x → IsLeast f x
root_is_least f x is = by_tests (int_le (pos 0) (f (pos 0))) (int_lt (f most) (pos 0)) refl refl is where
  by_tests : (a b : Bool) → int_le (pos 0) (f (pos 0)) ≡ a → int_lt (f most) (pos 0) ≡ b → (if a || b then Err Discount else Ok (least_factor f)) ≡ Ok x → IsLeast f x
  by_tests true b first last e = absurd cc
  by_tests false true first last e = absurd cc
  by_tests false false first last e = let same : least_factor f ≡ x = cc in subst (IsLeast f) same (least_is_least f first last)

-- what is behind the tests of a node
behind_tests : (a b c : Bool) (r : Result ℤ HelperFault) (x : ℤ) → (if a then Err Pillar else if b then (if c then Err Negative else r) else Err RateRange) ≡ Ok x → r ≡ Ok x
behind_tests true b c r x is = absurd cc
behind_tests false true true r x is = absurd cc
behind_tests false true false r x is = is
behind_tests false false c r x is = absurd cc

pub nodes_are_least : NodesAreLeast
unfolding node_of
nodes_are_least from nodes end rate coupons x is =
    root_is_least (excess from nodes end rate coupons) x
    (behind_tests (int_le end (last_of from nodes).day) (nat_le (unsigned_abs rate) (10 ^ 10)) (is_negative_sum rate (total parts_of coupons)) (root_or_fault (excess from nodes end rate coupons)) x is)

pub rises : ExcessRises
rises from nodes end rate coupons rising factor are beyond_last mild x =
    let part = part_at coupons from.day (last_of from nodes).day are.ordered in
    let parted = parted_by from nodes (last_of from nodes) end coupons (take part.0 coupons) (drop part.0 coupons) part.0 rising refl are beyond_last part.1 refl refl part.2 part.3 in
    excess_rises from nodes end rate coupons (take part.0 coupons) (drop part.0 coupons) parted factor mild x

-- with a node at the end there is a factor up to it
there_is : (from : CurveNode) (nodes : List CurveNode) (e : CurveNode) (day : ℤ) → day ≤ℤ e.day → (v : ℤ) × (beyond from (nodes ++ e ∷ []) day ≡ Some v)
unfolding beyond
there_is from [] e day up = let test = is_not_lt e.day day up in (on_segment from e day, rw test refl)
there_is from (n ∷ nodes) e day up = by_test (int_lt n.day day) refl (there_is n nodes e day up) where
  by_test : (b : Bool) → int_lt n.day day ≡ b → (v : ℤ) × (beyond n (nodes ++ e ∷ []) day ≡ Some v) → (v : ℤ) × (beyond from ((n ∷ nodes) ++ e ∷ []) day ≡ Some v)
  by_test true t next = (next.0, rw t next.1)
  by_test false t next = (on_segment from n day, rw t refl)

later_day : (a b : ℤ) → b <ℤ a → (int_lt a b ≡ false) × (int_eq a b ≡ false)
later_day a b h = (grind (arith, ints), grind (arith, ints))

pub trial_is_discount : TrialIsTheDiscount
trial_is_discount curve end x day after up =
    let e : CurveNode = record { day = end; factor = x } in
    let found = there_is (origin curve.reference) curve.nodes e day up in
    let tests = later_day day curve.reference after in
    let value : found.0 ≡ trial (origin curve.reference) curve.nodes end x day = sym (ap or_zero found.1) in
    sym (discount_beyond (record curve { nodes = curve.nodes ++ e ∷ [] }) day (Some found.0) tests.0 tests.1 (sym found.1)) ∙ ap Ok value
