-- Lemmas on nodes for which no memory is taken.
use Rattle.std.proofs.Common.{◌≡◌, ℕ, ◌+◌, ◌<◌, arith, refl, sym, ap, subst, ◌∙◌, ℤ, Bool, false, List, [], ◌∷◌, length, get_or, Option, Some, None, is_some, Result, Ok, Err, is_ok, IfNone}
use Rattle.day_number.specs.declared.tenors.Tenor.{Tenor}
use Rattle.year_parts.specs.declared.counters.Counter.{Counter}
use Rattle.holiday_calendars.specs.declared.calendars.Calendar.{Calendar}
use Rattle.curve_terms.specs.declared.terms.Helper.{Helper}
use Rattle.curve_points.specs.declared.curves.CurveNode.{CurveNode}
use Rattle.curve_points.specs.Curve.{origin}
use Rattle.curve_bootstrap.specs.declared.faults.HelperFault.{HelperFault}
use Rattle.curve_bootstrap.specs.declared.faults.HelperFault.TheVariants.{DateRange, Pillar, RateRange, Negative, Discount, NoMemory}
use Rattle.curve_bootstrap.specs.declared.faults.BuildFault.{BuildFault}
use Rattle.curve_bootstrap.specs.Built.{coupons_of, deposit_to, led_by, led_to, node_by, nodes_of, numbered, takes_for, first_takes, GivesHelper}

-- what is answered exactly is given
pub gives_exact : (due r : Result CurveNode HelperFault) → r ≡ due → GivesHelper {X = CurveNode} {Y = CurveNode} (λ node. node) due r
gives_exact due (Ok node) is = sym is
gives_exact due (Err DateRange) is = sym is
gives_exact due (Err Pillar) is = sym is
gives_exact due (Err RateRange) is = sym is
gives_exact due (Err Negative) is = sym is
gives_exact due (Err Discount) is = sym is
gives_exact due (Err NoMemory) is = tt

-- a deposit that ends on no day is refused for that
pub deposit_day : (o : Option ℤ) (counter : Counter) (business : ℤ → Bool) (from : CurveNode) (nodes : List CurveNode) (rate : ℤ) (r : Result CurveNode HelperFault)
    → r ≡ node_by from nodes rate (deposit_to counter business from.day o) → IfNone o (r ≡ Err DateRange)
deposit_day (Some day) counter business from nodes rate r is = tt
deposit_day None counter business from nodes rate r is = is

-- and so is a swap, exactly
pub swap_exact : (o : Option ℤ) (due r : Result CurveNode HelperFault) → is_some o ≡ false → IfNone o (r ≡ Err DateRange)
    → GivesHelper {X = CurveNode} {Y = CurveNode} (λ node. node) due r → r ≡ due
swap_exact (Some day) due r none is given = absurd cc
swap_exact None due r none is given =
    let due_so : due ≡ Err DateRange = subst (λ (r : Result CurveNode HelperFault). GivesHelper {X = CurveNode} {Y = CurveNode} (λ node. node) due r) is given in
    is ∙ sym due_so

-- with a node memory was taken
took_for : (calendar : Calendar) (from : CurveNode) (nodes : List CurveNode) (rate : ℤ) (helper : Helper) (found : CurveNode) (every : Option Tenor)
    → takes_for calendar from nodes rate helper every ≡ false
    → IfNone (led_by calendar from.day helper every) (◌≡◌ {A = Result CurveNode HelperFault} (Ok found) (Err DateRange))
    → Ok found ≡ node_by from nodes rate (coupons_of calendar from.day helper) → ⊥
took_for calendar from nodes rate helper found None none led is =
    let no : is_ok {T = CurveNode} {E = HelperFault} (Ok found) ≡ false = ap (λ (r : Result CurveNode HelperFault). is_ok r) is ∙ none in cc
took_for calendar from nodes rate helper found (Some every) none led is = by_end (led_by calendar from.day helper (Some every)) none led where
  by_end : (o : Option ℤ) → is_some o ≡ false → IfNone o (◌≡◌ {A = Result CurveNode HelperFault} (Ok found) (Err DateRange)) → ⊥
  by_end (Some day) none led = cc
  by_end None none led = cc

first_is : {X : Type 0} (first x : X) (xs : List X) (at : ℕ) → x ≡ get_or (first ∷ xs) at x → at ≡ 0 → x ≡ first
first_is first x xs at is none = subst (λ (n : ℕ). x ≡ get_or (first ∷ xs) n x) none is

-- what the first of helpers takes is what the helper at hand takes behind no node
takes_same : (calendar : Calendar) (reference : ℤ) (helpers : List Helper) (rates : List ℤ) (at : ℕ) (nodes : List CurveNode) (helper : Helper) (rate : ℤ)
    → at < length helpers → helper ≡ get_or helpers at helper → at < length rates → rate ≡ get_or rates at rate → at ≡ 0 → nodes ≡ []
    → first_takes calendar reference helpers rates ≡ takes_for calendar (origin reference) nodes rate helper helper.every
takes_same calendar reference [] rates at nodes helper rate h ih r ir none empty = absurd (omega arith)
takes_same calendar reference (first ∷ helpers) [] at nodes helper rate h ih r ir none empty = absurd (omega arith)
takes_same calendar reference (first ∷ helpers) (paid ∷ rates) at nodes helper rate h ih r ir none empty =
    let helper_is = first_is first helper helpers at ih none in
    let rate_is = first_is paid rate rates at ir none in
    ap (λ (ns : List CurveNode). takes_for calendar (origin reference) ns paid first first.every) (sym empty)
    ∙ (ap (λ (x : ℤ). takes_for calendar (origin reference) nodes x first first.every) (sym rate_is)
    ∙ ap (λ (x : Helper). takes_for calendar (origin reference) nodes rate x x.every) (sym helper_is))

-- behind the first node memory was taken
pub took_first : (calendar : Calendar) (reference : ℤ) (helpers : List Helper) (rates : List ℤ) (at : ℕ) (nodes given : List CurveNode) (helper : Helper) (rate : ℤ) (found : CurveNode)
    → at < length helpers → helper ≡ get_or helpers at helper → at < length rates → rate ≡ get_or rates at rate → given ≡ nodes
    → IfNone (led_to calendar reference helper) (◌≡◌ {A = Result CurveNode HelperFault} (Ok found) (Err DateRange))
    → (takes_for calendar (origin reference) given rate helper helper.every ≡ false → Ok found ≡ node_by (origin reference) given rate (coupons_of calendar reference helper))
    → (first_takes calendar reference helpers rates ≡ false → (at ≡ 0) × (nodes ≡ [])) → first_takes calendar reference helpers rates ≡ false → ⊥
took_first calendar reference helpers rates at nodes given helper rate found h ih r ir same led exact start none =
    let same_takes = takes_same calendar reference helpers rates at given helper rate h ih r ir (start none).0 (same ∙ (start none).1) in
    let none_here = sym same_takes ∙ none in
    took_for calendar (origin reference) given rate helper found helper.every none_here led (exact none_here)

-- the fault of the first helper is the answer
pub first_fault : (calendar : Calendar) (reference : ℤ) (helpers : List Helper) (rates : List ℤ) (at : ℕ) (nodes given : List CurveNode) (helper : Helper) (rate : ℤ) (fault : HelperFault) (found : BuildFault)
    → at < length helpers → helper ≡ get_or helpers at helper → at < length rates → rate ≡ get_or rates at rate → given ≡ nodes
    → (takes_for calendar (origin reference) given rate helper helper.every ≡ false → Err fault ≡ node_by (origin reference) given rate (coupons_of calendar reference helper))
    → (first_takes calendar reference helpers rates ≡ false → (at ≡ 0) × (nodes ≡ [])) → found ≡ numbered (at + 1) fault → first_takes calendar reference helpers rates ≡ false
    → Err found ≡ nodes_of (coupons_of calendar reference) (origin reference) 1 [] helpers rates
unfolding nodes_of
first_fault calendar reference [] rates at nodes given helper rate fault found h ih r ir same exact start numbered_so none = absurd (omega arith)
first_fault calendar reference (first ∷ helpers) [] at nodes given helper rate fault found h ih r ir same exact start numbered_so none = absurd (omega arith)
first_fault calendar reference (first ∷ helpers) (paid ∷ rates) at nodes given helper rate fault found h ih r ir same exact start numbered_so none =
    let empty = same ∙ (start none).1 in
    let same_takes = takes_same calendar reference (first ∷ helpers) (paid ∷ rates) at given helper rate h ih r ir (start none).0 empty in
    let is = exact (sym same_takes ∙ none) in
    let helper_is = first_is first helper helpers at ih (start none).0 in
    let rate_is = first_is paid rate rates at ir (start none).0 in
    let number : found ≡ numbered 1 fault = numbered_so ∙ ap (λ (n : ℕ). numbered (n + 1) fault) (start none).0 in
    let here : Err fault ≡ node_by (origin reference) [] paid (coupons_of calendar reference first) =
    is ∙ (ap (λ (ns : List CurveNode). node_by (origin reference) ns rate (coupons_of calendar reference helper)) empty
    ∙ (ap (λ (x : ℤ). node_by (origin reference) [] x (coupons_of calendar reference helper)) rate_is
    ∙ ap (λ (x : Helper). node_by (origin reference) [] paid (coupons_of calendar reference x)) helper_is)) in
    rw (number, ← here) refl
