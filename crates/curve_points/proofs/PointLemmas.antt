-- Lemmas on the factor at a day.
use Rattle.std.proofs.Common.{◌≡◌, ℕ, zero, suc, ◌<◌, ◌≤◌, ℤ, ◌<ℤ◌, ◌≤ℤ◌, true, false, refl, sym, ap, subst, ◌∙◌, arith, int_lt, int_le, List, [], ◌∷◌, length, get_or, Option, Some, None, Ok, Err, int_eq}
use Rattle.std.proofs.lemmas.Int.{ints}
use Rattle.std.proofs.lemmas.List.{get_or_default}
use Rattle.std.specs.List.{AllWithin}
use Rattle.std.specs.List.Sorted.{IsPartitionedBy}
use Rattle.curve_points.specs.declared.curves.CurveNode.{CurveNode}
use Rattle.curve_points.specs.declared.points.PointFault.TheVariants.{Before}
use Rattle.curve_points.specs.Curve.{Curve, IsRisingFrom, origin}
use Rattle.curve_points.specs.Segment.{one, on_segment}
use Rattle.curve_points.specs.Point.{beyond, discount_at, or_past}

pub lt_true : (a b : ℤ) → int_lt a b ≡ true → a <ℤ b
lt_true a b h = grind (arith, ints)

pub lt_false : (a b : ℤ) → int_lt a b ≡ false → b ≤ℤ a
lt_false a b h = grind (arith, ints)

pub is_lt : (a b : ℤ) → a <ℤ b → int_lt a b ≡ true
is_lt a b h = grind (arith, ints)

pub is_not_lt : (a b : ℤ) → b ≤ℤ a → int_lt a b ≡ false
is_not_lt a b h = grind (arith, ints)

pub le_true : (a b : ℤ) → int_le a b ≡ true → a ≤ℤ b
le_true a b h = grind (arith, ints)

pub le_false : (a b : ℤ) → int_le a b ≡ false → b <ℤ a
le_false a b h = grind (arith, ints)

is_le : (a b : ℤ) → a ≤ℤ b → int_le a b ≡ true
is_le a b h = grind (arith, ints)

-- each node of rising ones is after the day that they rise from
pub later : (from : ℤ) (nodes : List CurveNode) (k : ℕ) (d : CurveNode) → IsRisingFrom from nodes → k < length nodes → from <ℤ (get_or nodes k d).day
later from [] k d rising h = absurd (omega arith)
later from (n ∷ nodes) zero d rising h = rising.0
later from (n ∷ nodes) (suc k) d rising h = let next = later n.day nodes k d rising.1 (omega arith) in let here = rising.0 in omega (arith, ints, next, here)

-- of two nodes of rising ones the later is not before the other
pub in_order : (from : ℤ) (nodes : List CurveNode) (i j : ℕ) (d : CurveNode) → IsRisingFrom from nodes → i ≤ j → j < length nodes → (get_or nodes i d).day ≤ℤ (get_or nodes j d).day
in_order from [] i j d rising h k = absurd (omega arith)
in_order from (n ∷ nodes) zero zero d rising h k = omega (arith, ints)
in_order from (n ∷ nodes) zero (suc j) d rising h k = let next = later n.day nodes j d rising.1 (omega arith) in omega (arith, ints, next)
in_order from (n ∷ nodes) (suc i) zero d rising h k = absurd (omega arith)
in_order from (n ∷ nodes) (suc i) (suc j) d rising h k = in_order n.day nodes i j d rising.1 (omega arith) (omega arith)

-- where the node at a place is before a day, so is each up to it
pub before_up_to : (from : ℤ) (nodes : List CurveNode) (day : ℤ) (last k : ℕ) (node d : CurveNode) → IsRisingFrom from nodes → last < length nodes → int_lt (get_or nodes last node).day day ≡ true → k ≤ last → (get_or nodes k d).day <ℤ day
before_up_to from nodes day last k node d rising within less le =
    let order = in_order from nodes k last d rising le within in
    let own : get_or nodes last d ≡ get_or nodes last node = get_or_default nodes last d node within in
    let here = subst (λ (n : CurveNode). (get_or nodes k d).day ≤ℤ n.day) own order in
    let under = lt_true (get_or nodes last node).day day less in
    omega (arith, ints, here, under)

-- where the node at a place is not before a day, none from it on is
pub after_from : (from : ℤ) (nodes : List CurveNode) (day : ℤ) (at k : ℕ) (node d : CurveNode) → IsRisingFrom from nodes → int_lt (get_or nodes at node).day day ≡ false → at ≤ k → k < length nodes → day ≤ℤ (get_or nodes k d).day
after_from from nodes day at k node d rising reached le within =
    let order = in_order from nodes at k d rising le within in
    let own : get_or nodes at d ≡ get_or nodes at node = get_or_default nodes at d node (omega (arith, le, within)) in
    let here = subst (λ (n : CurveNode). n.day ≤ℤ (get_or nodes k d).day) own order in
    let behind = lt_false (get_or nodes at node).day day reached in
    omega (arith, ints, here, behind)

-- where each node is before a day, the day is past the curve
pub beyond_none : (from : CurveNode) (nodes : List CurveNode) (day : ℤ) → AllWithin (λ (n : CurveNode). n.day <ℤ day) nodes 0 (length nodes) → beyond from nodes day ≡ None
unfolding beyond
beyond_none from [] day before = refl
beyond_none from (to ∷ nodes) day before =
    let first = is_lt to.day day (before 0 to (omega arith) (omega arith)) in
    rw first (beyond_none to nodes day (λ k d low high. before (suc k) d (omega arith) (omega arith)))

-- a node begins the segment up to the place
abbrev pub IsStart : CurveNode → List CurveNode → ℕ → CurveNode → Type 0
IsStart from nodes zero start = start ≡ from
IsStart from nodes (suc k) start = start ≡ get_or nodes k start

start_on : (from to : CurveNode) (nodes : List CurveNode) (at : ℕ) (start : CurveNode) → IsStart from (to ∷ nodes) (suc at) start → IsStart to nodes at start
start_on from to nodes zero start is = is
start_on from to nodes (suc at) start is = is

-- a start by its place
pub start_at : (from : CurveNode) (nodes : List CurveNode) (at k : ℕ) (start : CurveNode) → at ≡ suc k → start ≡ get_or nodes k start → IsStart from nodes at start
start_at from nodes at k start e is = rw e is

-- the factor on the segment up to the first node that is not before a day
pub beyond_some : (from : CurveNode) (nodes : List CurveNode) (day : ℤ) (at : ℕ) (start end : CurveNode) → at < length nodes → IsStart from nodes at start → end ≡ get_or nodes at end → AllWithin (λ (n : CurveNode). n.day <ℤ day) nodes 0 at → day ≤ℤ end.day → beyond from nodes day ≡ Some (on_segment start end day)
unfolding beyond
beyond_some from [] day at start end within begins is before after = absurd (omega arith)
beyond_some from (to ∷ nodes) day zero start end within begins is before after =
    let first : int_lt to.day day ≡ false = is_not_lt to.day day (subst (λ (n : CurveNode). day ≤ℤ n.day) is after) in
    rw first (ap (λ (n : CurveNode). Some (on_segment from n day)) (sym is) ∙ ap (λ (n : CurveNode). Some (on_segment n end day)) (sym begins))
beyond_some from (to ∷ nodes) day (suc at) start end within begins is before after =
    let first = is_lt to.day day (before 0 to (omega arith) (omega arith)) in
    rw first (beyond_some to nodes day at start end (omega arith) (start_on from to nodes at start begins) is (λ k d low high. before (suc k) d (omega arith) (omega arith)) after)

-- the first node that is not before a day is not before it
pub end_after : (nodes : List CurveNode) (day : ℤ) (at : ℕ) (end : CurveNode) → at < length nodes → end ≡ get_or nodes at end → AllWithin (λ (n : CurveNode). day ≤ℤ n.day) nodes at (length nodes) → day ≤ℤ end.day
end_after nodes day at end within is after = subst (λ (n : CurveNode). day ≤ℤ n.day) (sym is) (after at end (omega arith) within)

-- rising nodes are parted by a day
pub is_parted : (from : ℤ) (nodes : List CurveNode) (day : ℤ) → IsRisingFrom from nodes → IsPartitionedBy (λ (n : CurveNode). int_lt n.day day) nodes
is_parted from nodes day rising i j d le lt up =
    let order = in_order from nodes i j d rising le lt in
    let less = lt_true (get_or nodes j d).day day up in
    is_lt (get_or nodes i d).day day (omega (arith, ints, order, less))

pub is_parted_after : (from : ℤ) (nodes : List CurveNode) (day : ℤ) → IsRisingFrom from nodes → IsPartitionedBy (λ (n : CurveNode). int_le n.day day) nodes
is_parted_after from nodes day rising i j d le lt up =
    let order = in_order from nodes i j d rising le lt in
    let less = le_true (get_or nodes j d).day day up in
    is_le (get_or nodes i d).day day (omega (arith, ints, order, less))

-- the discount factor by the three places of a day
pub discount_before : (curve : Curve) (day : ℤ) → int_lt day curve.reference ≡ true → Err Before ≡ discount_at curve day
unfolding discount_at
discount_before curve day h = rw h refl

pub discount_there : (curve : Curve) (day : ℤ) → int_lt day curve.reference ≡ false → int_eq day curve.reference ≡ true → Ok one ≡ discount_at curve day
unfolding discount_at
discount_there curve day h k = let same = rw h at k in rw (h, same) refl

pub discount_beyond : (curve : Curve) (day : ℤ) (found : Option ℤ) → int_lt day curve.reference ≡ false → int_eq day curve.reference ≡ false → found ≡ beyond (origin curve.reference) curve.nodes day → or_past found ≡ discount_at curve day
unfolding discount_at
discount_beyond curve day found h k is = let same = rw h at k in rw (h, same) (ap or_past is)
