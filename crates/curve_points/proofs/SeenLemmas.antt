-- Lemmas on curves that are seen from a later day.
use Rattle.std.proofs.Common.{◌≡◌, ℕ, zero, suc, ◌+◌, ◌^◌, ◌<◌, ◌≤◌, ℤ, pos, ◌+ℤ◌, ◌<ℤ◌, ◌≤ℤ◌, Bool, true, false, refl, sym, ap, subst, ◌∙◌, arith, int_lt, int_eq, List, [], ◌∷◌, ◌++◌, length, get_or, take, drop, filter, Option, Some, None, Result, Ok, Err, IfErr}
use Rattle.std.specs.List.{All, AllWithin, position_from}
use Rattle.std.proofs.lemmas.Int.{ints}
use Rattle.std.proofs.lemmas.List.{map_more, take-append-drop, map-append, length-map, length-take-le}
use Rattle.std.proofs.Math.Seq.{drop-cons}
use Rattle.curve_points.specs.declared.curves.CurveNode.{CurveNode}
use Rattle.curve_points.specs.declared.points.PointFault.{PointFault}
use Rattle.curve_points.specs.declared.seen.ImpliedFault.{ImpliedFault}
use Rattle.curve_points.specs.declared.seen.ImpliedFault.TheVariants.{Before, Past, Node, NoMemory}
use Rattle.curve_points.specs.Curve.{Curve, IsRisingFrom}
use Rattle.curve_points.specs.Segment.{one, most}
use Rattle.curve_points.specs.Point.{discount_at}
use Rattle.curve_points.specs.Implied.{seen_from, all_seen, is_outside, unless_outside, within_range, nodes_after, seen_nodes, curve_of, implied_curve, refusal, Gives}
use Rattle.curve_points.specs.Laws.{SeenFromItsStartIsTheCurve}
use Rattle.curve_points.proofs.PointLemmas.{is_lt, is_not_lt, later, discount_there}
use Rattle.curve_points.proofs.SegmentLemmas.{closest_exact}

-- the nodes that pass a test, where those from a place on do and none before
pub filter_is_drop : (p : CurveNode → Bool) (nodes : List CurveNode) (at : ℕ) → at ≤ length nodes
    → AllWithin (λ (n : CurveNode). p n ≡ false) nodes 0 at → AllWithin (λ (n : CurveNode). p n ≡ true) nodes at (length nodes)
    → filter p nodes ≡ drop at nodes
filter_is_drop p [] zero h before after = refl
filter_is_drop p [] (suc at) h before after = absurd (omega arith)
filter_is_drop p (n ∷ nodes) zero h before after =
    let test = after 0 n (omega arith) (omega arith) in
    rw test (ap (λ (ns : List CurveNode). n ∷ ns) (filter_is_drop p nodes 0 (omega arith) (λ k d low high. absurd (omega arith)) (λ k d low high. after (suc k) d (omega arith) (omega arith))))
filter_is_drop p (n ∷ nodes) (suc at) h before after =
    let test = before 0 n (omega arith) (omega arith) in
    rw test (filter_is_drop p nodes at (omega arith) (λ k d low high. before (suc k) d (omega arith) (omega arith)) (λ k d low high. after (suc k) d (omega arith) (omega arith)))

-- the nodes after a day rise from it
pub rising_drop : (from day : ℤ) (nodes : List CurveNode) (at : ℕ) → IsRisingFrom from nodes
    → AllWithin (λ (n : CurveNode). day <ℤ n.day) nodes at (length nodes) → IsRisingFrom day (drop at nodes)
rising_drop from day [] zero rising after = tt
rising_drop from day [] (suc at) rising after = tt
rising_drop from day (n ∷ nodes) zero rising after = (after 0 n (omega arith) (omega arith), rising.1)
rising_drop from day (n ∷ nodes) (suc at) rising after = rising_drop n.day day nodes at rising.1 (λ k d low high. after (suc k) d (omega arith) (omega arith))

-- nodes as they are seen keep their days
pub rising_seen : (factor day : ℤ) (nodes : List CurveNode) → IsRisingFrom day nodes → IsRisingFrom day (all_seen factor nodes)
rising_seen factor day [] rising = tt
rising_seen factor day (n ∷ nodes) rising = (rising.0, rising_seen factor n.day nodes rising.1)

-- nodes that rise are as many days later as they are numbered
pub later_by : (from : ℤ) (nodes : List CurveNode) (k : ℕ) (d : CurveNode) → IsRisingFrom from nodes → k < length nodes
    → (from +ℤ pos k) <ℤ (get_or nodes k d).day
later_by from [] k d rising h = absurd (omega arith)
later_by from (n ∷ nodes) zero d rising h = let here = rising.0 in omega (arith, ints, here)
later_by from (n ∷ nodes) (suc k) d rising h =
    let next = later_by n.day nodes k d rising.1 (omega arith) in
    let here = rising.0 in
    omega (arith, ints, here, next)

-- the first that passes, behind those that do not
pub position_hit : (p : CurveNode → Bool) (k : ℕ) (xs ys : List CurveNode) (y : CurveNode) → position_from p k xs ≡ None → p y ≡ true
    → position_from p k (xs ++ y ∷ ys) ≡ Some (k + length xs)
position_hit p k [] ys y none hit = rw hit (ap Some (omega arith))
position_hit p k (x ∷ xs) ys y none hit = by_test (p x) refl none (λ h. position_hit p (k + 1) xs ys y h hit) where
  by_test : (b : Bool) → p x ≡ b → position_from p k (x ∷ xs) ≡ None → (position_from p (k + 1) xs ≡ None → position_from p (k + 1) (xs ++ y ∷ ys) ≡ Some (k + 1 + length xs))
      → position_from p k ((x ∷ xs) ++ y ∷ ys) ≡ Some (k + length (x ∷ xs))
  by_test true e all next = absurd (let some : Some k ≡ None = rw e at all in cc)
  by_test false e all next = rw e (next (rw e at all) ∙ ap Some (omega arith))

-- and none, where one more does not pass
pub position_push : (p : CurveNode → Bool) (k : ℕ) (xs : List CurveNode) (y : CurveNode) → position_from p k xs ≡ None → p y ≡ false
    → position_from p k (xs ++ y ∷ []) ≡ None
position_push p k [] y none miss = rw miss refl
position_push p k (x ∷ xs) y none miss = by_test (p x) refl none (λ h. position_push p (k + 1) xs y h miss) where
  by_test : (b : Bool) → p x ≡ b → position_from p k (x ∷ xs) ≡ None → (position_from p (k + 1) xs ≡ None → position_from p (k + 1) (xs ++ y ∷ []) ≡ None)
      → position_from p k ((x ∷ xs) ++ y ∷ []) ≡ None
  by_test true e all next = absurd (let some : Some k ≡ None = rw e at all in cc)
  by_test false e all next = rw e (next (rw e at all))

-- none passes
position_none : (p : CurveNode → Bool) (k : ℕ) (nodes : List CurveNode) → All (λ (n : CurveNode). p n ≡ false) nodes → position_from p k nodes ≡ None
position_none p k [] all = refl
position_none p k (n ∷ nodes) all =
    let test = all 0 n (omega arith) in
    rw test (position_none p (k + 1) nodes (λ i d h. all (suc i) d (omega arith)))

-- nodes in range are what is kept of them
pub kept_are : (nodes kept : List CurveNode) → within_range nodes ≡ Ok kept → kept ≡ nodes
kept_are nodes kept is = by_found (position_from is_outside 1 nodes) is where
  by_found : (found : Option ℕ) → unless_outside nodes found ≡ Ok kept → kept ≡ nodes
  by_found None e = cc
  by_found (Some k) e = absurd cc

-- seen with the factor 1 nodes stay as they are
seen_with_one : (nodes : List CurveNode) → all_seen one nodes ≡ nodes
seen_with_one [] = refl
seen_with_one (n ∷ nodes) =
    let here : seen_from one n ≡ n = ap (λ (f : ℤ). record { day = n.day; factor = f }) (closest_exact n.factor (10 ^ 12) (omega arith)) in
    ap (λ (m : CurveNode). m ∷ all_seen one nodes) here ∙ ap (λ (ms : List CurveNode). n ∷ ms) (seen_with_one nodes)

in_range : (n : CurveNode) → pos 1 ≤ℤ n.factor → n.factor ≤ℤ most → is_outside n ≡ false
in_range n low high =
    let below = is_not_lt n.factor (pos 1) low in
    let above = is_not_lt most n.factor high in
    rw (below, above) refl

here_is_there : (day : ℤ) → (int_lt day day ≡ false) × (int_eq day day ≡ true)
here_is_there day = (grind (arith, ints), grind (arith, ints))

-- a curve seen from its own reference day
pub seen_there : SeenFromItsStartIsTheCurve
unfolding implied_curve
seen_there curve owner rising factors =
    let tests = here_is_there curve.reference in
    let there = sym (discount_there curve curve.reference tests.0 tests.1) in
    let all : nodes_after curve.reference curve.nodes ≡ curve.nodes =
    filter_is_drop (λ (n : CurveNode). int_lt curve.reference n.day) curve.nodes 0 (omega arith) (λ k d low high. absurd (omega arith))
    (λ k d low high. is_lt curve.reference (get_or curve.nodes k d).day (later curve.reference curve.nodes k d rising high)) in
    let none = position_none is_outside 1 curve.nodes (λ k d h. in_range (get_or curve.nodes k d) (factors k d h).0 (factors k d h).1) in
    rw (there, all, seen_with_one curve.nodes, none) refl

-- a fault of the nodes is one of the curve
pub gives_fault : (owner : ℕ) (reference : ℤ) (nodes : Result (List CurveNode) ImpliedFault) (fault : ImpliedFault) → Gives nodes (Err fault)
    → Gives (curve_of owner reference nodes) (Err fault)
gives_fault owner reference nodes Before is = ap (curve_of owner reference) is
gives_fault owner reference nodes Past is = ap (curve_of owner reference) is
gives_fault owner reference nodes (Node k) is = ap (curve_of owner reference) is
gives_fault owner reference nodes NoMemory is = tt

-- the implied curve, by the factor at its reference day
pub implied_by : (curve : Curve) (owner : ℕ) (reference factor : ℤ) → Ok factor ≡ discount_at curve reference
    → implied_curve curve owner reference ≡ curve_of owner reference (seen_nodes factor reference curve.nodes)
unfolding implied_curve
implied_by curve owner reference factor is = rw (sym is) refl

pub implied_outside : (curve : Curve) (owner : ℕ) (reference : ℤ) (fault : PointFault) → Err fault ≡ discount_at curve reference
    → implied_curve curve owner reference ≡ Err (refusal fault)
unfolding implied_curve
implied_outside curve owner reference fault is = rw (sym is) refl

-- where none is outside, no node is
pub none_at : (factor : ℤ) (k : ℕ) (nodes : List CurveNode) (at : ℕ) (node : CurveNode) → position_from is_outside k (all_seen factor nodes) ≡ None
    → at < length nodes → node ≡ get_or nodes at node → is_outside (seen_from factor node) ≡ false
none_at factor k [] at node none h is = absurd (omega arith)
none_at factor k (n ∷ nodes) zero node none h is = rw is (by_test (is_outside (seen_from factor n)) refl none) where
  by_test : (b : Bool) → is_outside (seen_from factor n) ≡ b → position_from is_outside k (all_seen factor (n ∷ nodes)) ≡ None → is_outside (seen_from factor n) ≡ false
  by_test true e all = absurd (let some : Some k ≡ None = rw e at all in cc)
  by_test false e all = e
none_at factor k (n ∷ nodes) (suc at) node none h is =
    by_test (is_outside (seen_from factor n)) refl none (λ rest. none_at factor (k + 1) nodes at node rest (omega arith) is) where
      by_test : (b : Bool) → is_outside (seen_from factor n) ≡ b → position_from is_outside k (all_seen factor (n ∷ nodes)) ≡ None
          → (position_from is_outside (k + 1) (all_seen factor nodes) ≡ None → is_outside (seen_from factor node) ≡ false) → is_outside (seen_from factor node) ≡ false
      by_test true e all next = absurd (let some : Some k ≡ None = rw e at all in cc)
      by_test false e all next = next (rw e at all)

-- nodes none of which is outside
pub within_none : (nodes : List CurveNode) → position_from is_outside 1 nodes ≡ None → within_range nodes ≡ Ok nodes
within_none nodes none = ap (unless_outside nodes) none

-- the number of a node that is outside is the first's
pub number_at : (factor : ℤ) (nodes : List CurveNode) (at number : ℕ) (node : CurveNode) → at < length nodes → node ≡ get_or nodes at node
    → position_from is_outside 1 (all_seen factor (take at nodes)) ≡ None → is_outside (seen_from factor node) ≡ true → number ≡ at + 1
    → Some number ≡ position_from is_outside 1 (all_seen factor nodes)
number_at factor nodes at number node less is none hit numbered =
    let parts : nodes ≡ take at nodes ++ node ∷ drop (suc at) nodes =
    sym (take-append-drop at nodes) ∙ ap (λ (xs : List CurveNode). take at nodes ++ xs) (drop-cons nodes at node less ∙ ap (λ (n : CurveNode). n ∷ drop (suc at) nodes) (sym is)) in
    let all : all_seen factor nodes ≡ all_seen factor (take at nodes) ++ seen_from factor node ∷ all_seen factor (drop (suc at) nodes) =
    ap (all_seen factor) parts ∙ map-append (seen_from factor) (take at nodes) (node ∷ drop (suc at) nodes) in
    let size : length (all_seen factor (take at nodes)) ≡ at = length-map (take at nodes) (seen_from factor) ∙ length-take-le at nodes (omega arith) in
    let found = position_hit is_outside 1 (all_seen factor (take at nodes)) (all_seen factor (drop (suc at) nodes)) (seen_from factor node) none hit in
    rw (all, found) (ap Some (omega (arith, size, numbered)))

-- one node more, which is not outside
pub seen_more : (factor : ℤ) (nodes : List CurveNode) (at : ℕ) (node : CurveNode) → at < length nodes → node ≡ get_or nodes at node
    → all_seen factor (take (at + 1) nodes) ≡ all_seen factor (take at nodes) ++ seen_from factor node ∷ []
seen_more factor nodes at node less is =
    map_more (seen_from factor) nodes at node less ∙ ap (λ (n : CurveNode). all_seen factor (take at nodes) ++ seen_from factor n ∷ []) (sym is)

pub none_more : (factor : ℤ) (nodes : List CurveNode) (at : ℕ) (node : CurveNode) → at < length nodes → node ≡ get_or nodes at node
    → position_from is_outside 1 (all_seen factor (take at nodes)) ≡ None → is_outside (seen_from factor node) ≡ false
    → position_from is_outside 1 (all_seen factor (take (at + 1) nodes)) ≡ None
none_more factor nodes at node less is none miss =
    rw (seen_more factor nodes at node less is) (position_push is_outside 1 (all_seen factor (take at nodes)) (seen_from factor node) none miss)

-- the nodes after a day, from the place of the first on
pub after_is_drop : (nodes : List CurveNode) (day : ℤ) (at : ℕ) → at ≤ length nodes → AllWithin (λ (n : CurveNode). n.day ≤ℤ day) nodes 0 at
    → AllWithin (λ (n : CurveNode). day <ℤ n.day) nodes at (length nodes) → drop at nodes ≡ nodes_after day nodes
after_is_drop nodes day at h before after = sym (filter_is_drop (λ (n : CurveNode). int_lt day n.day) nodes at h
    (λ k d low high. is_not_lt day (get_or nodes k d).day (before k d low high)) (λ k d low high. is_lt day (get_or nodes k d).day (after k d low high)))

-- the curve and the fault, by the nodes after its reference day
pub curve_from : (owner : ℕ) (reference factor : ℤ) (nodes rest kept : List CurveNode) → rest ≡ nodes_after reference nodes → within_range (all_seen factor rest) ≡ Ok kept
    → curve_of owner reference (seen_nodes factor reference nodes) ≡ Ok (record { owner = owner; reference = reference; nodes = kept })
curve_from owner reference factor nodes rest kept behind is =
    ap (λ (ns : List CurveNode). curve_of owner reference (within_range (all_seen factor ns))) (sym behind) ∙ ap (curve_of owner reference) is

pub fault_from : (owner : ℕ) (reference factor : ℤ) (nodes rest : List CurveNode) (fault : ImpliedFault) → rest ≡ nodes_after reference nodes
    → Gives (within_range (all_seen factor rest)) (Err fault) → Gives (curve_of owner reference (seen_nodes factor reference nodes)) (Err fault)
fault_from owner reference factor nodes rest fault behind is =
    gives_fault owner reference (seen_nodes factor reference nodes) fault (subst (λ (ns : List CurveNode). Gives (within_range (all_seen factor ns)) (Err fault)) behind is)

-- what answers with each fault of the nodes answers so with each of the curve
pub fault_kept : (X Y : Type 0) (owner : ℕ) (reference : ℤ) (nodes : Result (List CurveNode) ImpliedFault) (fault : ImpliedFault)
    → IfErr nodes (λ f. ◌≡◌ {A = Result X ImpliedFault} (Err fault) (Err f)) → IfErr (curve_of owner reference nodes) (λ f. ◌≡◌ {A = Result Y ImpliedFault} (Err fault) (Err f))
fault_kept X Y owner reference (Ok nodes) fault is = tt
fault_kept X Y owner reference (Err f) fault is = let same : fault ≡ f = cc in ap (λ (g : ImpliedFault). Err g) same

-- nodes that are there have no fault
pub no_fault : {X : Type 0} (due : Result Curve ImpliedFault) (curve : Curve) (r : Result X ImpliedFault) → due ≡ Ok curve → IfErr due (λ f. r ≡ Err f)
no_fault {X} (Ok c) curve r is = tt
no_fault {X} (Err f) curve r is = absurd cc
