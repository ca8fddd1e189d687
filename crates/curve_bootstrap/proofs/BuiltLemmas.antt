-- Lemmas on the nodes of helpers one after another.
use Rattle.std.proofs.Common.{◌≡◌, ℕ, suc, ◌+◌, ◌<◌, arith, ◌≤◌, refl, sym, ap, subst, ◌∙◌, ℤ, List, [], ◌∷◌, ◌++◌, length, get_or, drop, drop_of_length-le, Option, Some, None, Result, Ok, Err}
use Rattle.std.proofs.Math.Seq.{drop-cons}
use Rattle.curve_terms.specs.declared.terms.Helper.{Helper}
use Rattle.curve_points.specs.declared.curves.CurveNode.{CurveNode}
use Rattle.curve_bootstrap.specs.declared.coupons.Coupon.{Coupon}
use Rattle.curve_bootstrap.specs.declared.faults.HelperFault.{HelperFault}
use Rattle.curve_bootstrap.specs.declared.faults.HelperFault.TheVariants.{DateRange, Pillar, RateRange, Negative, Discount, NoMemory}
use Rattle.curve_bootstrap.specs.declared.faults.BuildFault.{BuildFault}
use Rattle.curve_bootstrap.specs.Built.{nodes_of, node_by, go_on, numbered, coupons_of, curve_of, curve_from, reference_day, built_curve, GivesHelper, Gives}
use Rattle.curve_bootstrap.specs.declared.faults.BuildFault.TheVariants as build
use Rattle.curve_points.specs.Curve.{origin}
use Rattle.curve_terms.specs.declared.terms.CurveTerms.{CurveTerms}
use Rattle.day_shift.specs.declared.faults.ShiftFault.{ShiftFault}
use Rattle.day_shift.specs.Adjusted.{day_or_fault}

-- the nodes from a helper on, by its own node
nodes_step : (coupons : Helper → Result (List Coupon) HelperFault) (from : CurveNode) (k : ℕ) (nodes : List CurveNode) (helpers : List Helper) (rates : List ℤ) (at : ℕ) (helper : Helper) (rate : ℤ)
    → at < length helpers → helper ≡ get_or helpers at helper → at < length rates → rate ≡ get_or rates at rate
    → nodes_of coupons from k nodes (drop at helpers) (drop at rates)
    ≡ go_on k (node_by from nodes rate (coupons helper)) (λ node. nodes_of coupons from (suc k) (nodes ++ node ∷ []) (drop (suc at) helpers) (drop (suc at) rates))
unfolding nodes_of
nodes_step coupons from k nodes helpers rates at helper rate h ih r ir =
    let hs : drop at helpers ≡ helper ∷ drop (suc at) helpers = drop-cons helpers at helper h ∙ ap (λ (x : Helper). x ∷ drop (suc at) helpers) (sym ih) in
    let rs : drop at rates ≡ rate ∷ drop (suc at) rates = drop-cons rates at rate r ∙ ap (λ (x : ℤ). x ∷ drop (suc at) rates) (sym ir) in
    rw (hs, rs) refl

-- a node more
pub nodes_more : (coupons : Helper → Result (List Coupon) HelperFault) (from : CurveNode) (nodes more : List CurveNode) (helpers : List Helper) (rates : List ℤ) (at : ℕ) (helper : Helper) (rate : ℤ) (node : CurveNode)
    → at < length helpers → helper ≡ get_or helpers at helper → at < length rates → rate ≡ get_or rates at rate → node_by from nodes rate (coupons helper) ≡ Ok node → more ≡ nodes ++ node ∷ []
    → nodes_of coupons from (at + 1) nodes (drop at helpers) (drop at rates) ≡ nodes_of coupons from (at + 1 + 1) more (drop (at + 1) helpers) (drop (at + 1) rates)
nodes_more coupons from nodes more helpers rates at helper rate node h ih r ir found pushed =
    let next : suc at ≡ at + 1 = omega arith in
    let number : suc (at + 1) ≡ at + 1 + 1 = omega arith in
    nodes_step coupons from (at + 1) nodes helpers rates at helper rate h ih r ir
    ∙ (ap (λ (n : Result CurveNode HelperFault). go_on (at + 1) n (λ node. nodes_of coupons from (suc (at + 1)) (nodes ++ node ∷ []) (drop (suc at) helpers) (drop (suc at) rates))) found
    ∙ rw (pushed, next, number) refl)

-- a fault with its number
gives_numbered : (k : ℕ) (due : Result CurveNode HelperFault) (next : CurveNode → Result (List CurveNode) BuildFault) (fault : HelperFault) → GivesHelper {X = CurveNode} {Y = CurveNode} (λ node. node) due (Err fault)
    → Gives {X = List CurveNode} (go_on k due next) (Err (numbered k fault))
gives_numbered k due next DateRange is = rw is refl
gives_numbered k due next Pillar is = rw is refl
gives_numbered k due next RateRange is = rw is refl
gives_numbered k due next Negative is = rw is refl
gives_numbered k due next Discount is = rw is refl
gives_numbered k due next NoMemory is = tt

pub nodes_fault : (coupons : Helper → Result (List Coupon) HelperFault) (from : CurveNode) (nodes : List CurveNode) (helpers : List Helper) (rates : List ℤ) (at : ℕ) (helper : Helper) (rate : ℤ) (fault : HelperFault) (found : BuildFault)
    (whole : Result (List CurveNode) BuildFault) → whole ≡ nodes_of coupons from (at + 1) nodes (drop at helpers) (drop at rates)
    → at < length helpers → helper ≡ get_or helpers at helper → at < length rates → rate ≡ get_or rates at rate → GivesHelper {X = CurveNode} {Y = CurveNode} (λ node. node) (node_by from nodes rate (coupons helper)) (Err fault)
    → found ≡ numbered (at + 1) fault → Gives {X = List CurveNode} whole (Err found)
nodes_fault coupons from nodes helpers rates at helper rate fault found whole is h ih r ir given numbered_so =
    let step = nodes_step coupons from (at + 1) nodes helpers rates at helper rate h ih r ir in
    let given_so = gives_numbered (at + 1) (node_by from nodes rate (coupons helper)) (λ node. nodes_of coupons from (suc (at + 1)) (nodes ++ node ∷ []) (drop (suc at) helpers) (drop (suc at) rates)) fault given in
    subst (λ (d : Result (List CurveNode) BuildFault). Gives {X = List CurveNode} d (Err found)) (sym (is ∙ step))
    (subst (λ (f : BuildFault). Gives {X = List CurveNode} (go_on (at + 1) (node_by from nodes rate (coupons helper)) (λ node. nodes_of coupons from (suc (at + 1)) (nodes ++ node ∷ []) (drop (suc at) helpers) (drop (suc at) rates))) (Err f)) (sym numbered_so) given_so)

-- all helpers are done
pub nodes_done : (coupons : Helper → Result (List Coupon) HelperFault) (from : CurveNode) (k : ℕ) (nodes : List CurveNode) (helpers : List Helper) (rates : List ℤ) (at : ℕ) → length helpers ≤ at
    → nodes_of coupons from k nodes (drop at helpers) (drop at rates) ≡ Ok nodes
unfolding nodes_of
nodes_done coupons from k nodes helpers rates at h = rw (drop_of_length-le helpers h) refl

-- the curve from its reference day
pub built_by : (owner : ℕ) (terms : CurveTerms) (today : ℤ) (rates : List ℤ) (reference : ℤ) → reference_day terms today ≡ Some reference
    → built_curve owner terms today rates ≡ curve_of owner reference (nodes_of (coupons_of terms.cal reference) (origin reference) 1 [] terms.helpers rates)
unfolding built_curve
built_by owner terms today rates reference is = ap (curve_from owner terms rates) is

pub built_nowhere : (owner : ℕ) (terms : CurveTerms) (today : ℤ) (rates : List ℤ) → reference_day terms today ≡ None → built_curve owner terms today rates ≡ Err build.DateRange
unfolding built_curve
built_nowhere owner terms today rates is = ap (curve_from owner terms rates) is

-- what gives one curve gives another that it equals
pub gives_same : {X : Type 0} (a b : Result X BuildFault) (r : Result X BuildFault) → a ≡ b → Gives a r → Gives b r
gives_same {X} a b r same given = subst (λ (d : Result X BuildFault). Gives d r) same given

-- a fault of an advance is no day
pub no_day : (o : Option ℤ) (fault : ShiftFault) → Err fault ≡ day_or_fault o → o ≡ None
no_day (Some d) fault is = absurd cc
no_day None fault is = refl
