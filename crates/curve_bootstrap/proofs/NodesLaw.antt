-- The nodes of a curve that is built are each the least of its helper.
use Rattle.std.proofs.Common.{◌≡◌, ℕ, suc, arith, refl, sym, subst, ◌∙◌, ℤ, List, [], ◌∷◌, ◌++◌, length, Option, Some, None, Result, Ok, Err, IfOk}
use Rattle.std.proofs.lemmas.List.{append_assoc, append-nil}
use Rattle.curve_terms.specs.declared.terms.Helper.{Helper}
use Rattle.curve_terms.specs.declared.terms.CurveTerms.{CurveTerms}
use Rattle.curve_points.specs.declared.curves.CurveNode.{CurveNode}
use Rattle.curve_points.specs.Curve.{Curve, origin}
use Rattle.curve_bootstrap.specs.declared.coupons.Coupon.{Coupon}
use Rattle.curve_bootstrap.specs.declared.faults.HelperFault.{HelperFault}
use Rattle.curve_bootstrap.specs.declared.faults.BuildFault.{BuildFault}
use Rattle.curve_bootstrap.specs.Node.{node_of}
use Rattle.curve_bootstrap.specs.Built.{nodes_of, node_by, node_at, go_on, end_of, coupons_of, curve_of, curve_from, reference_day, built_curve, Gives}
use Rattle.curve_bootstrap.specs.Laws.{IsNodeOf, AreNodesOf, IsBuilt}
use Rattle.curve_bootstrap.proofs.LawLemmas.{nodes_are_least}

-- the nodes behind others
record Behind (coupons : Helper → Result (List Coupon) HelperFault) (from : CurveNode) (before : List CurveNode) (helpers : List Helper) (rates : List ℤ) (all : List CurveNode) : Type 0 where
  more : List CurveNode
  is : all ≡ before ++ more
  are : AreNodesOf coupons from before helpers rates more

-- a node behind others, and those behind it
one_more : (coupons : Helper → Result (List Coupon) HelperFault) (from : CurveNode) (before : List CurveNode) (helper : Helper) (helpers : List Helper) (rate : ℤ) (rates : List ℤ) (all : List CurveNode) (node : CurveNode)
    → IsNodeOf (coupons helper) from before rate node → Behind coupons from (before ++ node ∷ []) helpers rates all
    → Behind coupons from before (helper ∷ helpers) (rate ∷ rates) all
one_more coupons from before helper helpers rate rates all node here rest = record {
  more = node ∷ rest.more;
  is = rest.is ∙ append_assoc before (node ∷ []) rest.more;
  are = (here, rest.are);
}

-- by the coupons of a helper, and what is behind it
by_coupons : (from : CurveNode) (before : List CurveNode) (k : ℕ) (rate : ℤ) (all : List CurveNode) (next : CurveNode → Result (List CurveNode) BuildFault) (P : CurveNode → Type 0) (Q : Type 0) (cs : Result (List Coupon) HelperFault)
    → go_on k (node_by from before rate cs) next ≡ Ok all
    → ((node : CurveNode) → next node ≡ Ok all → P node) → ((node : CurveNode) → IsNodeOf cs from before rate node → P node → Q) → Q
by_coupons from before k rate all next P Q (Err fault) is behind whole = absurd cc
by_coupons from before k rate all next P Q (Ok cs) is behind whole = by_factor (node_of from before (end_of from.day cs) rate cs) refl is where
  by_factor : (r : Result ℤ HelperFault) → node_of from before (end_of from.day cs) rate cs ≡ r → go_on k (node_at (end_of from.day cs) r) next ≡ Ok all → Q
  by_factor (Err fault) found e = absurd cc
  by_factor (Ok factor) found e =
      let node : CurveNode = record { day = end_of from.day cs; factor = factor } in
      whole node (refl, nodes_are_least from before (end_of from.day cs) rate cs factor found) (behind node e)

nodes_are : (coupons : Helper → Result (List Coupon) HelperFault) (from : CurveNode) (k : ℕ) (before : List CurveNode) (helpers : List Helper) (rates : List ℤ) (all : List CurveNode)
    → length rates ≡ length helpers → nodes_of coupons from k before helpers rates ≡ Ok all → Behind coupons from before helpers rates all
unfolding nodes_of
nodes_are coupons from k before [] rates all same is =
    let e : before ≡ all = cc in
    record { more = []; is = sym e ∙ sym (append-nil before); are = refl }
nodes_are coupons from k before (helper ∷ helpers) [] all same is = absurd (omega arith)
nodes_are coupons from k before (helper ∷ helpers) (rate ∷ rates) all same is =
    by_coupons from before k rate all (λ node. nodes_of coupons from (suc k) (before ++ node ∷ []) helpers rates)
    (λ node. Behind coupons from (before ++ node ∷ []) helpers rates all) (Behind coupons from before (helper ∷ helpers) (rate ∷ rates) all) (coupons helper) is
    (λ node e. nodes_are coupons from (suc k) (before ++ node ∷ []) helpers rates all (omega arith) e)
    (λ node here rest. one_more coupons from before helper helpers rate rates all node here rest)

curve_is : (owner : ℕ) (terms : CurveTerms) (today : ℤ) (rates : List ℤ) (curve : Curve) → length rates ≡ length terms.helpers
    → built_curve owner terms today rates ≡ Ok curve → IsBuilt terms today rates curve
unfolding built_curve
curve_is owner terms today rates curve same is = by_reference (reference_day terms today) refl is where
  by_nodes : (reference : ℤ) → reference_day terms today ≡ Some reference → (ns : Result (List CurveNode) BuildFault)
      → nodes_of (coupons_of terms.cal reference) (origin reference) 1 [] terms.helpers rates ≡ ns → curve_of owner reference ns ≡ Ok curve → IsBuilt terms today rates curve
  by_nodes reference there (Err fault) found e = absurd cc
  by_nodes reference there (Ok nodes) found e =
      let rest = nodes_are (coupons_of terms.cal reference) (origin reference) 1 [] terms.helpers rates nodes same found in
      let view : record { owner = owner; reference = reference; nodes = nodes } ≡ curve = cc in
      subst (IsBuilt terms today rates) view
      (there, subst (AreNodesOf (coupons_of terms.cal reference) (origin reference) [] terms.helpers rates) (sym rest.is) rest.are)

  by_reference : (o : Option ℤ) → reference_day terms today ≡ o → curve_from owner terms rates o ≡ Ok curve → IsBuilt terms today rates curve
  by_reference None there e = absurd cc
  by_reference (Some reference) there e =
      by_nodes reference there (nodes_of (coupons_of terms.cal reference) (origin reference) 1 [] terms.helpers rates) refl e

-- the same of what a call gives
pub built_is : (owner : ℕ) (terms : CurveTerms) (today : ℤ) (rates : List ℤ) (r : Result Curve BuildFault) → length rates ≡ length terms.helpers
    → Gives {X = Curve} (built_curve owner terms today rates) r → IfOk r (IsBuilt terms today rates)
built_is owner terms today rates (Ok curve) same given = curve_is owner terms today rates curve same given
built_is owner terms today rates (Err fault) same given = tt
