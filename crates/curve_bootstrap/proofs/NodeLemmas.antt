-- Lemmas on the excess of a helper and on its node.
use Rattle.std.proofs.Common.{◌≡◌, ℕ, zero, suc, ◌+◌, ◌*◌, ◌^◌, ◌<◌, ◌≤◌, arith, refl, sym, ap, subst, ◌∙◌, ℤ, pos, negsuc, neg_ℤ, ◌+ℤ◌, ◌-ℤ◌, ◌*ℤ◌, ◌≤ℤ◌, ◌<ℤ◌, int_le, int_lt, nat_le, true, false, Bool, ◌||◌, List, [], ◌∷◌, ◌++◌, Option, Some, None, Result, Ok, Err, inl, inr, if◌then◌else◌, unsigned_abs, length, take, drop, length-take, length-drop, get_or-take, get_or-drop, take-append-drop}
use Rattle.std.proofs.lemmas.Int.{ints, by_lt_z}
use Rattle.std.proofs.Math.Nat.{mul-le-mul_left}
use Rattle.std.proofs.Math.IntN.{suc_ℤ, suc_ℤ-*ℤ, *ℤ_comm, *ℤ-zero}
use Rattle.std.proofs.lemmas.Bool.{cases_lt}
use Rattle.std.specs.List.{All, AllWithin}
use Rattle.curve_points.specs.declared.curves.CurveNode.{CurveNode}
use Rattle.curve_points.specs.Curve.{IsRisingFrom}
use Rattle.curve_points.specs.Segment.{between, on_segment, one, most}
use Rattle.curve_points.specs.Point.{beyond}
use Rattle.curve_points.proofs.PointLemmas.{is_lt, is_not_lt}
use Rattle.curve_points.proofs.SegmentLemmas.{between_step, pos_abs}
use Rattle.curve_bootstrap.specs.declared.coupons.Coupon.{Coupon}
use Rattle.curve_bootstrap.specs.declared.faults.HelperFault.{HelperFault}
use Rattle.curve_bootstrap.specs.declared.faults.HelperFault.TheVariants.{Pillar, RateRange, Negative, Discount}
use Rattle.curve_bootstrap.specs.Coupon.{total, parts_of, AreAfter, AreUpTo, AreParts, AreCoupons}
use Rattle.curve_bootstrap.specs.Node.{excess, value_of, last_of, or_zero, whole, least_where, least_factor, root_or_fault, is_negative_sum, node_of}
use Rattle.curve_bootstrap.specs.Split.{settled_of, open_of, split_excess, IsRoot}
use Rattle.curve_bootstrap.proofs.SumLemmas.{total_both}

-- a day not after the last node keeps its factor when a node is added
beyond-settled : (from : CurveNode) (nodes : List CurveNode) (e : CurveNode) (day : ℤ) → from.day <ℤ day → day ≤ℤ (last_of from nodes).day → beyond from (nodes ++ e ∷ []) day ≡ beyond from nodes day
unfolding beyond
beyond-settled from [] e day after up = absurd (omega (arith, ints))
beyond-settled from (n ∷ nodes) e day after up =
    by_lt_z n.day day
    (λ less. let test = is_lt n.day day less in rw test (beyond-settled n nodes e day less up))
    (λ more. let test = is_not_lt n.day day more in rw test refl)

-- no node of rising ones is after the last
pub last-after : (from : CurveNode) (nodes : List CurveNode) → IsRisingFrom from.day nodes → from.day ≤ℤ (last_of from nodes).day
last-after from [] rising = omega (arith, ints)
last-after from (n ∷ nodes) rising = let next = last-after n nodes rising.1 in let here = rising.0 in omega (arith, ints, next, here)

-- a day after the last node lies on the added segment
beyond-open : (from : CurveNode) (nodes : List CurveNode) (e : CurveNode) (day : ℤ) → IsRisingFrom from.day nodes → (last_of from nodes).day <ℤ day → day ≤ℤ e.day → beyond from (nodes ++ e ∷ []) day ≡ Some (on_segment (last_of from nodes) e day)
unfolding beyond
beyond-open from [] e day rising after up = let test = is_not_lt e.day day up in rw test refl
beyond-open from (n ∷ nodes) e day rising after up =
    let last = last-after n nodes rising.1 in
    let test = is_lt n.day day (omega (arith, ints, last, after)) in
    rw test (beyond-open n nodes e day rising.1 after up)

-- the values of coupons that the nodes reach do not change with the factor at the end
settled_values : (from : CurveNode) (nodes : List CurveNode) (end x : ℤ) (cs : List Coupon) → AreAfter from.day cs → AreUpTo (last_of from nodes).day cs
    → total (value_of from nodes end x) cs ≡ total (settled_of from nodes) cs
unfolding total
settled_values from nodes end x [] after up = refl
settled_values from nodes end x (c ∷ cs) after up =
    let found = beyond-settled from nodes (record { day = end; factor = x }) c.day (after 0 c (omega arith)) (up 0 c (omega arith)) in
    let here : value_of from nodes end x c ≡ settled_of from nodes c = ap (λ (o : Option ℤ). c.parts *ℤ or_zero o) found in
    let next = settled_values from nodes end x cs (λ k d h. after (suc k) d (omega arith)) (λ k d h. up (suc k) d (omega arith)) in
    omega (arith, ints, here, next)

-- those of coupons behind the last node lie on the added segment
open_values : (from : CurveNode) (nodes : List CurveNode) (end x : ℤ) (cs : List Coupon) → IsRisingFrom from.day nodes → AreAfter (last_of from nodes).day cs → AreUpTo end cs
    → total (value_of from nodes end x) cs ≡ total (open_of (last_of from nodes) end x) cs
unfolding total
open_values from nodes end x [] rising after up = refl
open_values from nodes end x (c ∷ cs) rising after up =
    let found = beyond-open from nodes (record { day = end; factor = x }) c.day rising (after 0 c (omega arith)) (up 0 c (omega arith)) in
    let here : value_of from nodes end x c ≡ open_of (last_of from nodes) end x c = ap (λ (o : Option ℤ). c.parts *ℤ or_zero o) found in
    let next = open_values from nodes end x cs rising (λ k d h. after (suc k) d (omega arith)) (λ k d h. up (suc k) d (omega arith)) in
    omega (arith, ints, here, next)

-- coupons of a helper, those that the nodes reach and those behind the last
pub record Parted (from : CurveNode) (nodes : List CurveNode) (end : ℤ) (coupons reached rest : List Coupon) : Type 0 where
  pub whole : coupons ≡ reached ++ rest
  pub rising : IsRisingFrom from.day nodes
  pub reached_after : AreAfter from.day reached
  pub reached_up_to : AreUpTo (last_of from nodes).day reached
  pub open_after : AreAfter (last_of from nodes).day rest
  pub open_up_to : AreUpTo end rest
  pub reached_parts : AreParts reached
  pub open_parts : AreParts rest

-- law: the excess in two parts
pub excess_split : (from : CurveNode) (nodes : List CurveNode) (end rate x : ℤ) (cs reached rest : List Coupon) → Parted from nodes end cs reached rest
    → excess from nodes end rate cs x ≡ split_excess (last_of from nodes) end rate (total (settled_of from nodes) reached) rest x
unfolding excess split_excess
excess_split from nodes end rate x cs reached rest p =
    let sum : total (value_of from nodes end x) cs ≡ total (settled_of from nodes) reached +ℤ total (open_of (last_of from nodes) end x) rest =
    ap (total (value_of from nodes end x)) p.whole ∙ (total_both (value_of from nodes end x) reached rest
    ∙ (ap (λ (z : ℤ). z +ℤ total (value_of from nodes end x) rest) (settled_values from nodes end x reached p.reached_after p.reached_up_to)
    ∙ ap (λ (z : ℤ). total (settled_of from nodes) reached +ℤ z) (open_values from nodes end x rest p.rising p.open_after p.open_up_to))) in
    ap (λ (s : ℤ). (x *ℤ whole +ℤ rate *ℤ s) -ℤ one *ℤ whole) sum

-- no sum of parts is below zero
parts_total_low : (cs : List Coupon) → AreParts cs → pos 0 ≤ℤ total parts_of cs
unfolding total
parts_total_low [] parts = omega (arith, ints)
parts_total_low (c ∷ cs) parts =
    let here = parts 0 c (omega arith) in
    let next = parts_total_low cs (λ k d h. parts (suc k) d (omega arith)) in
    omega (arith, ints, here, next)

suc_is : (m : ℤ) → suc_ℤ m ≡ m +ℤ pos 1
suc_is (pos n) = omega (arith, ints)
suc_is (negsuc zero) = refl
suc_is (negsuc (suc n)) = omega (arith, ints)

-- a product with one more
mul_suc : (r m : ℤ) → r *ℤ (m +ℤ pos 1) ≡ r *ℤ m +ℤ r
mul_suc r m = ap (λ (z : ℤ). r *ℤ z) (sym (suc_is m)) ∙ (*ℤ_comm r (suc_ℤ m) ∙ (suc_ℤ-*ℤ m r ∙ ap (λ (z : ℤ). z +ℤ r) (*ℤ_comm m r)))

-- a product with a sum
mul_add : (r a : ℤ) (d : ℕ) → r *ℤ (a +ℤ pos d) ≡ r *ℤ a +ℤ r *ℤ pos d
mul_add r a zero = ap (λ (z : ℤ). r *ℤ z) (zero_last a) ∙ (zero_last' (r *ℤ a) ∙ ap (λ (z : ℤ). r *ℤ a +ℤ z) (sym (*ℤ-zero r)))
  where
    zero_last : (z : ℤ) → z +ℤ pos 0 ≡ z
    zero_last z = omega (arith, ints)

    zero_last' : (z : ℤ) → z ≡ z +ℤ pos 0
    zero_last' z = omega (arith, ints)
mul_add r a (suc d) =
    let next = mul_add r a d in
    let one_more : a +ℤ pos (suc d) ≡ (a +ℤ pos d) +ℤ pos 1 = omega (arith, ints) in
    let left = ap (λ (z : ℤ). r *ℤ z) one_more ∙ mul_suc r (a +ℤ pos d) in
    let same : pos (suc d) ≡ pos d +ℤ pos 1 = omega (arith, ints) in
    let right = ap (λ (z : ℤ). r *ℤ z) same ∙ mul_suc r (pos d) in
    omega (arith, ints, left, right, next)

-- the product with parts of a step of 0 or 1 is a step from 0 to the parts
step_times : (p a b : ℤ) → pos 0 ≤ℤ p → a ≤ℤ b → b ≤ℤ (a +ℤ pos 1) → ((p *ℤ a) ≤ℤ (p *ℤ b)) × ((p *ℤ b) ≤ℤ ((p *ℤ a) +ℤ p))
step_times p a b hp low high =
    by_lt_z a b
    (λ less.
    let e : b ≡ a +ℤ pos 1 = omega (arith, ints) in
    let m = mul_suc p a in
    rw e (omega (arith, ints, m), omega (arith, ints, m)))
    (λ more.
    let e : b ≡ a = omega (arith, ints) in
    rw e (omega (arith, ints), omega (arith, ints)))

-- one step of the factor at the end moves the value of a coupon by 0 to its parts
open_step : (last : CurveNode) (a : ℕ) (end : ℤ) (x : ℕ) (c : Coupon) → last.factor ≡ pos a → last.day <ℤ c.day → c.day ≤ℤ end → pos 0 ≤ℤ c.parts
    → (open_of last end (pos x) c ≤ℤ open_of last end (pos (suc x)) c) × (open_of last end (pos (suc x)) c ≤ℤ (open_of last end (pos x) c +ℤ c.parts))
open_step last a end x c factor after up parts =
    let step = between_step last.day end c.day a x after up in
    rw factor (step_times c.parts (between last.day (pos a) end (pos x) c.day) (between last.day (pos a) end (pos (suc x)) c.day) parts step.0 step.1)

-- one step of the factor at the end moves the value of coupons behind the last node by 0 to all their parts
open_steps : (last : CurveNode) (a : ℕ) (end : ℤ) (x : ℕ) (cs : List Coupon) → last.factor ≡ pos a → AreAfter last.day cs → AreUpTo end cs → AreParts cs
    → (total (open_of last end (pos x)) cs ≤ℤ total (open_of last end (pos (suc x))) cs)
    × (total (open_of last end (pos (suc x))) cs ≤ℤ (total (open_of last end (pos x)) cs +ℤ total parts_of cs))
unfolding total
open_steps last a end x [] factor after up parts = (omega (arith, ints), omega (arith, ints))
open_steps last a end x (c ∷ cs) factor after up parts =
    let here = open_step last a end x c factor (after 0 c (omega arith)) (up 0 c (omega arith)) (parts 0 c (omega arith)) in
    let next = open_steps last a end x cs factor (λ k d h. after (suc k) d (omega arith)) (λ k d h. up (suc k) d (omega arith)) (λ k d h. parts (suc k) d (omega arith)) in
    (omega (arith, ints, here.0, next.0), omega (arith, ints, here.1, next.1))

-- a function that rises with each step and is negative at a number is so before
pub stays_below : (f : ℕ → ℤ) → ((k : ℕ) → f k <ℤ f (suc k)) → (m k : ℕ) → k ≤ m → f m <ℤ pos 0 → f k <ℤ pos 0
stays_below f rises zero zero h below = below
stays_below f rises zero (suc k) h below = absurd (omega arith)
stays_below f rises (suc m) k h below =
    elim (cases_lt k (suc m)) [
      | inl less ↦ (let up = rises m in stays_below f rises m k (omega arith) (omega (arith, ints, up, below)))
      | inr more ↦ (let same : suc m ≡ k = omega arith in subst (λ (j : ℕ). f j <ℤ pos 0) same below)
    ]

-- and one that is not negative at a number is so nowhere behind
stays_above : (f : ℕ → ℤ) → ((k : ℕ) → f k <ℤ f (suc k)) → (k m : ℕ) → k ≤ m → pos 0 ≤ℤ f k → pos 0 ≤ℤ f m
stays_above f rises k m h above =
    by_lt_z (f m) (pos 0)
    (λ less. let under = stays_below f rises m k h less in absurd (omega (arith, ints, under, above)))
    (λ more. more)

-- law: where a rising function turns, it has its root
pub turned_root : (f : ℤ → ℤ) (r : ℤ) → ((x : ℕ) → f (pos x) <ℤ f (pos (suc x))) → pos 1 ≤ℤ r → r ≤ℤ most → pos 0 ≤ℤ f r → f (r -ℤ pos 1) <ℤ pos 0 → IsRoot f (Some r)
turned_root f (pos zero) rises low high above below = absurd (omega (arith, ints, low))
turned_root f (pos (suc m)) rises low high above below =
    let same : pos (suc m) -ℤ pos 1 ≡ pos m = omega (arith, ints) in
    let under = subst (λ (z : ℤ). f z <ℤ pos 0) same below in (
      stays_below (λ (j : ℕ). f (pos j)) rises m 0 (omega arith) under,
      stays_above (λ (j : ℕ). f (pos j)) rises (suc m) (4 * 10 ^ 12) (omega (arith, ints, high)) above,
      low,
      high,
      above,
      below,
    )
turned_root f (negsuc m) rises low high above below = absurd (omega (arith, ints, low))

-- the least number with a property
pub least_is : (p : ℕ → Bool) (n m : ℕ) → m ≤ n → p m ≡ true → ((k : ℕ) → k < m → p k ≡ false) → least_where p n ≡ m
unfolding least_where
least_is p zero m h there before = omega arith
least_is p (suc n) zero h there before = rw there refl
least_is p (suc n) (suc m) h there before =
    let first = before 0 (omega arith) in
    rw first (ap suc (least_is (λ (k : ℕ). p (suc k)) n m (omega arith) there (λ k less. before (suc k) (omega arith))))

not_le : (z : ℤ) → z <ℤ pos 0 → int_le (pos 0) z ≡ false
not_le z h = grind (arith, ints)

is_le_zero : (z : ℤ) → pos 0 ≤ℤ z → int_le (pos 0) z ≡ true
is_le_zero z h = grind (arith, ints)

not_lt : (z : ℤ) → pos 0 ≤ℤ z → int_lt z (pos 0) ≡ false
not_lt z h = grind (arith, ints)

is_lt_zero : (z : ℤ) → z <ℤ pos 0 → int_lt z (pos 0) ≡ true
is_lt_zero z h = grind (arith, ints)

-- law: where a rising function turns, there is its least number that is not negative
pub least_at : (f : ℤ → ℤ) (m : ℕ) → ((x : ℕ) → f (pos x) <ℤ f (pos (suc x))) → suc m ≤ 4 * 10 ^ 12 → pos 0 ≤ℤ f (pos (suc m)) → f (pos m) <ℤ pos 0 → least_factor f ≡ pos (suc m)
least_at f m rises high above below =
    ap pos (least_is (λ (x : ℕ). int_le (pos 0) (f (pos x))) (4 * 10 ^ 12) (suc m) high (is_le_zero (f (pos (suc m))) above) (λ k less. not_le (f (pos k)) (stays_below (λ (j : ℕ). f (pos j)) rises m k (omega arith) below)))

root_at : (f : ℤ → ℤ) (m : ℕ) → ((x : ℕ) → f (pos x) <ℤ f (pos (suc x))) → IsRoot f (Some (pos (suc m))) → f (pos m) <ℤ pos 0 → Ok (pos (suc m)) ≡ root_or_fault f
root_at f m rises root below =
    let low = not_le (f (pos 0)) root.0 in
    let high = not_lt (f most) root.1 in
    let least = least_at f m rises (omega (arith, ints, root.3)) root.4 below in
    rw (low, high) (ap Ok (sym least))

pub root_some : (f : ℤ → ℤ) (r : ℤ) → ((x : ℕ) → f (pos x) <ℤ f (pos (suc x))) → IsRoot f (Some r) → Ok r ≡ root_or_fault f
root_some f (pos zero) rises root = absurd (omega (arith, ints, root.2))
root_some f (pos (suc m)) rises root =
    let same : pos (suc m) -ℤ pos 1 ≡ pos m = omega (arith, ints) in
    root_at f m rises root (subst (λ (z : ℤ). f z <ℤ pos 0) same root.5)
root_some f (negsuc m) rises root = absurd (omega (arith, ints, root.2))

pub root_none : (f : ℤ → ℤ) → IsRoot f None → Err Discount ≡ root_or_fault f
root_none f (inl h) = let test = is_le_zero (f (pos 0)) h in rw test refl
root_none f (inr h) =
    let test = is_lt_zero (f most) h in
    elim (int_le (pos 0) (f (pos 0))) as (λ (b : Bool). Err Discount ≡ (if b || int_lt (f most) (pos 0) then Err Discount else Ok (least_factor f))) [ true ↦ refl | false ↦ rw test refl ]

-- a root of a function is one of the same function
pub root_moved : (f g : ℤ → ℤ) → ((x : ℤ) → f x ≡ g x) → (r : Option ℤ) → IsRoot f r → IsRoot g r
root_moved f g same (Some x) root = (
  subst (λ (z : ℤ). z <ℤ pos 0) (same (pos 0)) root.0,
  subst (λ (z : ℤ). pos 0 ≤ℤ z) (same most) root.1,
  root.2,
  root.3,
  subst (λ (z : ℤ). pos 0 ≤ℤ z) (same x) root.4,
  subst (λ (z : ℤ). z <ℤ pos 0) (same (x -ℤ pos 1)) root.5,
)
root_moved f g same None (inl h) = inl (subst (λ (z : ℤ). pos 0 ≤ℤ z) (same (pos 0)) h)
root_moved f g same None (inr h) = inr (subst (λ (z : ℤ). z <ℤ pos 0) (same most) h)

-- the node of a helper, test by test
pub node_pillar : (from : CurveNode) (nodes : List CurveNode) (last : CurveNode) (end rate : ℤ) (cs : List Coupon) → last ≡ last_of from nodes → int_le end last.day ≡ true → Err Pillar ≡ node_of from nodes end rate cs
unfolding node_of
node_pillar from nodes last end rate cs is test = let same = rw is at test in rw same refl

pub node_range : (from : CurveNode) (nodes : List CurveNode) (last : CurveNode) (end rate : ℤ) (cs : List Coupon) → last ≡ last_of from nodes → int_le end last.day ≡ false → nat_le (unsigned_abs rate) (10 ^ 10) ≡ false → Err RateRange ≡ node_of from nodes end rate cs
unfolding node_of
node_range from nodes last end rate cs is test wide = let same = rw is at test in rw (same, wide) refl

pub node_negative : (from : CurveNode) (nodes : List CurveNode) (last : CurveNode) (end rate : ℤ) (cs : List Coupon) → last ≡ last_of from nodes → int_le end last.day ≡ false → nat_le (unsigned_abs rate) (10 ^ 10) ≡ true → is_negative_sum rate (total parts_of cs) ≡ true → Err Negative ≡ node_of from nodes end rate cs
unfolding node_of
node_negative from nodes last end rate cs is test wide sum = let same = rw is at test in rw (same, wide, sum) refl

pub node_root : (from : CurveNode) (nodes : List CurveNode) (last : CurveNode) (end rate : ℤ) (cs : List Coupon) (found : Result ℤ HelperFault) → last ≡ last_of from nodes → int_le end last.day ≡ false → nat_le (unsigned_abs rate) (10 ^ 10) ≡ true → is_negative_sum rate (total parts_of cs) ≡ false → found ≡ root_or_fault (excess from nodes end rate cs) → found ≡ node_of from nodes end rate cs
unfolding node_of
node_root from nodes last end rate cs found is test wide sum root = let same = rw is at test in rw (same, wide, sum) root

-- a rate times a part of the parts takes less than the whole, where the rate times all of them does
rate_part : (rate : ℤ) (d p : ℕ) → d ≤ p → (rate <ℤ pos 0 → neg_ℤ whole <ℤ (rate *ℤ pos p)) → neg_ℤ whole <ℤ (rate *ℤ pos d)
rate_part (pos q) d p h mild = omega (arith, ints)
rate_part (negsuc q) d p h mild =
    let size : neg_ℤ whole <ℤ (negsuc q *ℤ pos p) = mild (omega (arith, ints)) in
    let less = mul-le-mul_left (suc q) h in
    omega (arith, ints, size, less)

whole_step : (x : ℕ) → pos (suc x) *ℤ whole ≡ pos x *ℤ whole +ℤ whole
whole_step x = omega (arith, ints)

-- law: the excess rises strictly with each step
pub split_rises : (last : CurveNode) (a : ℕ) (end rate settled bound : ℤ) (cs : List Coupon) → last.factor ≡ pos a → AreAfter last.day cs → AreUpTo end cs → AreParts cs
    → total parts_of cs ≤ℤ bound → (rate <ℤ pos 0 → neg_ℤ whole <ℤ (rate *ℤ bound)) → (x : ℕ)
    → split_excess last end rate settled cs (pos x) <ℤ split_excess last end rate settled cs (pos (suc x))
unfolding split_excess
split_rises last a end rate settled bound cs factor after up parts within mild x =
    let o = total (open_of last end (pos x)) cs in
    let more = total (open_of last end (pos (suc x))) cs in
    let steps = open_steps last a end x cs factor after up parts in
    let d = unsigned_abs (more -ℤ o) in
    let size = pos_abs (more -ℤ o) (omega (arith, ints, steps.0)) in
    let whole_bound = pos_abs bound (omega (arith, ints, steps.0, steps.1, within)) in
    let few : d ≤ unsigned_abs bound = omega (arith, ints, steps.0, steps.1, size, whole_bound, within) in
    let gain = rate_part rate d (unsigned_abs bound) few (λ h. subst (λ (z : ℤ). neg_ℤ whole <ℤ (rate *ℤ z)) whole_bound (mild h)) in
    let sum : settled +ℤ more ≡ (settled +ℤ o) +ℤ pos d = omega (arith, ints, size) in
    let product = ap (λ (z : ℤ). rate *ℤ z) sum ∙ mul_add rate (settled +ℤ o) d in
    let front = whole_step x in
    omega (arith, ints, gain, product, front)

past_le : (a b : ℤ) → int_le a b ≡ false → b <ℤ a
past_le a b h = grind (arith, ints)

-- a rate that is not too negative
mild_is : (rate p : ℤ) → is_negative_sum rate p ≡ false → rate <ℤ pos 0 → neg_ℤ whole <ℤ (rate *ℤ p)
mild_is rate p h below =
    let test = is_lt_zero rate below in
    let rest = rw test at h in
    past_le (rate *ℤ p) (neg_ℤ whole) rest

-- the rise of the excess itself
pub excess_rises : (from : CurveNode) (nodes : List CurveNode) (end rate : ℤ) (cs reached rest : List Coupon) → Parted from nodes end cs reached rest
    → pos 0 ≤ℤ (last_of from nodes).factor → is_negative_sum rate (total parts_of cs) ≡ false → (x : ℕ)
    → excess from nodes end rate cs (pos x) <ℤ excess from nodes end rate cs (pos (suc x))
excess_rises from nodes end rate cs reached rest p factor sum x =
    let low = parts_total_low reached p.reached_parts in
    let all = ap (total parts_of) p.whole ∙ total_both parts_of reached rest in
    rw (excess_split from nodes end rate (pos x) cs reached rest p, excess_split from nodes end rate (pos (suc x)) cs reached rest p)
    (split_rises (last_of from nodes) (unsigned_abs (last_of from nodes).factor) end rate (total (settled_of from nodes) reached) (total parts_of cs) rest
    (pos_abs (last_of from nodes).factor factor) p.open_after p.open_up_to p.open_parts (omega (arith, ints, low, all)) (mild_is rate (total parts_of cs) sum) x)

-- the rise of the excess in two parts
pub open_rises : (from : CurveNode) (nodes : List CurveNode) (last : CurveNode) (end rate settled : ℤ) (cs reached rest : List Coupon) → last ≡ last_of from nodes → Parted from nodes end cs reached rest
    → pos 0 ≤ℤ last.factor → is_negative_sum rate (total parts_of cs) ≡ false → (x : ℕ)
    → split_excess last end rate settled rest (pos x) <ℤ split_excess last end rate settled rest (pos (suc x))
open_rises from nodes last end rate settled cs reached rest is p factor sum x =
    let low = parts_total_low reached p.reached_parts in
    let all = ap (total parts_of) p.whole ∙ total_both parts_of reached rest in
    split_rises last (unsigned_abs last.factor) end rate settled (total parts_of cs) rest
    (pos_abs last.factor factor) (rw is p.open_after) p.open_up_to p.open_parts (omega (arith, ints, low, all)) (mild_is rate (total parts_of cs) sum) x

-- a node after the last keeps nodes rising
pub rising_push : (from : CurveNode) (nodes : List CurveNode) (e : CurveNode) → IsRisingFrom from.day nodes → (last_of from nodes).day <ℤ e.day → IsRisingFrom from.day (nodes ++ e ∷ [])
rising_push from [] e rising after = (after, tt)
rising_push from (n ∷ nodes) e rising after = (rising.0, rising_push n nodes e rising.1 after)

pub last_push : (from : CurveNode) (nodes : List CurveNode) (e : CurveNode) → e ≡ last_of from (nodes ++ e ∷ [])
last_push from [] e = refl
last_push from (n ∷ nodes) e = last_push n nodes e

-- what holds of each coupon holds of each of a front, and of each of what is behind
all_front : (P : Coupon → Type 0) (cs : List Coupon) (n : ℕ) → All P cs → All P (take n cs)
all_front P cs n all k d h =
    let less : k < n = omega (arith, length-take n cs, h) in
    rw (get_or-take n cs k d less) (all k d (omega (arith, length-take n cs, h)))

all_behind : (P : Coupon → Type 0) (cs : List Coupon) (n : ℕ) → All P cs → All P (drop n cs)
all_behind P cs n all k d h =
    rw (get_or-drop n cs k d) (all (n + k) d (omega (arith, length-drop n cs, h)))

-- coupons that are parted by a day
pub parted_by : (from : CurveNode) (nodes : List CurveNode) (last : CurveNode) (end : ℤ) (cs reached rest : List Coupon) (n : ℕ) → IsRisingFrom from.day nodes
    → last ≡ last_of from nodes → AreCoupons from.day end cs → last.day <ℤ end → n ≤ length cs → reached ≡ take n cs → rest ≡ drop n cs
    → AllWithin (λ (c : Coupon). c.day ≤ℤ last.day) cs 0 n → AllWithin (λ (c : Coupon). last.day <ℤ c.day) cs n (length cs)
    → Parted from nodes end cs reached rest
parted_by from nodes last end cs reached rest n rising is coupons beyond_last within front behind before after =
    let runs : from.day <ℤ end = (let low = last-after from nodes rising in let same = ap (λ (m : CurveNode). m.day) is in omega (arith, ints, low, same, beyond_last)) in
    record {
      whole = sym (ap (λ (xs : List Coupon). xs ++ rest) front ∙ (ap (λ (xs : List Coupon). take n cs ++ xs) behind ∙ take-append-drop n cs));
      rising = rising;
      reached_after = rw front (all_front (λ (c : Coupon). from.day <ℤ c.day) cs n (coupons.after runs));
      reached_up_to = rw (← is, front) (λ k d h.
          let less : k < n = omega (arith, length-take n cs, h) in
          rw (get_or-take n cs k d less) (before k d (omega arith) less));
      open_after = rw (← is, behind) (λ k d h.
          rw (get_or-drop n cs k d) (after (n + k) d (omega arith) (omega (arith, length-drop n cs, h))));
      open_up_to = rw behind (all_behind (λ (c : Coupon). c.day ≤ℤ end) cs n coupons.up_to);
      reached_parts = rw front (all_front (λ (c : Coupon). pos 0 ≤ℤ c.parts) cs n coupons.parts);
      open_parts = rw behind (all_behind (λ (c : Coupon). pos 0 ≤ℤ c.parts) cs n coupons.parts);
    }
