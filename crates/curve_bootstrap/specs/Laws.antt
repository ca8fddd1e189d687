-- Laws of bootstrapped curves, in the words of those who build them.
use Rattle.std.specs.Prelude.{◌≡◌, ℕ, suc, ℤ, pos, ◌-ℤ◌, ◌≤ℤ◌, ◌<ℤ◌, false, List, [], ◌∷◌, ◌++◌, Some, Result, Ok, Err}
use Rattle.curve_terms.specs.declared.terms.Helper.{Helper}
use Rattle.curve_terms.specs.declared.terms.CurveStart.TheVariants.{Fixed}
use Rattle.curve_terms.specs.declared.terms.CurveTerms.{CurveTerms}
use Rattle.curve_points.specs.declared.curves.CurveNode.{CurveNode}
use Rattle.curve_points.specs.Curve.{Curve, IsRisingFrom, origin}
use Rattle.curve_points.specs.Segment.{most}
use Rattle.curve_points.specs.Point.{discount_at}
use Rattle.curve_bootstrap.specs.declared.coupons.Coupon.{Coupon}
use Rattle.curve_bootstrap.specs.declared.faults.HelperFault.{HelperFault}
use Rattle.curve_bootstrap.specs.Built.{coupons_of, end_of, reference_day, built_curve}
use Rattle.curve_bootstrap.specs.Coupon.{total, parts_of, AreCoupons}
use Rattle.curve_bootstrap.specs.Node.{node_of, excess, last_of, is_negative_sum, trial}

-- a factor from one unit to the greatest at which a function is not negative, and below which it is
pub record IsLeast (f : ℤ → ℤ) (x : ℤ) : Type 0 where
  pub low : pos 1 ≤ℤ x
  pub high : x ≤ℤ most
  pub there : pos 0 ≤ℤ f x
  pub one_below : f (x -ℤ pos 1) <ℤ pos 0
  pub below : (y : ℤ) → pos 0 ≤ℤ y → y <ℤ x → f y <ℤ pos 0

-- law: a node is the least factor at which its helper is worth 1 or more
abbrev pub NodesAreLeast : Type 0
NodesAreLeast = (from : CurveNode) (nodes : List CurveNode) (end rate : ℤ) (coupons : List Coupon) (x : ℤ)
    → node_of from nodes end rate coupons ≡ Ok x → IsLeast (excess from nodes end rate coupons) x

-- law: what a helper is worth rises strictly with the factor at its end
abbrev pub ExcessRises : Type 0
ExcessRises = (from : CurveNode) (nodes : List CurveNode) (end rate : ℤ) (coupons : List Coupon)
    → IsRisingFrom from.day nodes → pos 0 ≤ℤ (last_of from nodes).factor → AreCoupons from.day end coupons
    → (last_of from nodes).day <ℤ end → is_negative_sum rate (total parts_of coupons) ≡ false
    → (x : ℕ) → excess from nodes end rate coupons (pos x) <ℤ excess from nodes end rate coupons (pos (suc x))

-- law: the factor at a day with a node tried at the end is the curve's with that node
abbrev pub TrialIsTheDiscount : Type 0
TrialIsTheDiscount = (curve : Curve) (end x day : ℤ)
    → curve.reference <ℤ day → day ≤ℤ end
    → discount_at (record curve { nodes = curve.nodes ++ record { day = end; factor = x } ∷ [] }) day
    ≡ Ok (trial (origin curve.reference) curve.nodes end x day)

-- a node of a helper's coupons on the nodes so far: on the day of the last coupon, with the least factor at which the helper is worth 1 or more
abbrev pub IsNodeOf : Result (List Coupon) HelperFault → CurveNode → List CurveNode → ℤ → CurveNode → Type 0
IsNodeOf (Ok coupons) from nodes rate node =
    (node.day ≡ end_of from.day coupons) × IsLeast (excess from nodes node.day rate coupons) node.factor
IsNodeOf (Err fault) from nodes rate node = ⊥

-- a node for each helper in their order, each on the nodes before it
abbrev pub AreNodesOf : (Helper → Result (List Coupon) HelperFault) → CurveNode → List CurveNode → List Helper → List ℤ → List CurveNode → Type 0
AreNodesOf coupons from before [] rates nodes = nodes ≡ []
AreNodesOf coupons from before (helper ∷ helpers) [] nodes = ⊥
AreNodesOf coupons from before (helper ∷ helpers) (rate ∷ rates) [] = ⊥
AreNodesOf coupons from before (helper ∷ helpers) (rate ∷ rates) (node ∷ nodes) =
    IsNodeOf (coupons helper) from before rate node × AreNodesOf coupons from (before ++ node ∷ []) helpers rates nodes

-- a curve from the reference day, with the node of each helper of the terms
abbrev pub IsBuilt : CurveTerms → ℤ → List ℤ → Curve → Type 0
IsBuilt terms today rates curve =
    (reference_day terms today ≡ Some curve.reference)
    × AreNodesOf (coupons_of terms.cal curve.reference) (origin curve.reference) [] terms.helpers rates curve.nodes

-- law: a curve that starts on a day of its own is the same on each evaluation date
abbrev pub FixedCurvesStay : Type 0
FixedCurvesStay = (owner : ℕ) (terms : CurveTerms) (day today other : ℤ) (rates : List ℤ)
    → terms.start ≡ Fixed day → built_curve owner terms today rates ≡ built_curve owner terms other rates
