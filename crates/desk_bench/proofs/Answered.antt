-- What a bench answers where curves are built and seen.
use Rattle.std.proofs.Common.{◌≡◌, ◌∙◌, ℕ, suc, ℤ, List, [], ◌∷◌, length, Option, Some, None, Result, Ok, Err, IfErr, IsOk, refl, ap, sym}
use Rattle.std.specs.Prelude.{if◌then◌else◌}
use Rattle.std.specs.List.{position_from}
use Rattle.curve_terms.specs.declared.terms.CurveStart.{CurveStart}
use Rattle.curve_terms.specs.declared.terms.CurveStart.TheVariants as start
use Rattle.curve_terms.specs.declared.terms.CurveTerms.{CurveTerms}
use Rattle.curve_terms.specs.declared.terms.Helper.{Helper}
use Rattle.curve_points.specs.declared.points.PointFault.{PointFault}
use Rattle.curve_points.specs.declared.points.PointFault.TheVariants as point
use Rattle.curve_points.specs.declared.curves.CurveNode.{CurveNode}
use Rattle.curve_points.specs.Curve.{Curve as CurveView}
use Rattle.curve_points.specs.Point.{discount_at}
use Rattle.curve_points.specs.Implied as see
use Rattle.curve_points.specs.declared.seen.ImpliedFault.{ImpliedFault}
use Rattle.curve_points.specs.declared.seen.ImpliedFault.TheVariants as implied
use Rattle.curve_bootstrap.specs.Built as due
use Rattle.curve_bootstrap.specs.Built.{built_curve}
use Rattle.curve_bootstrap.specs.declared.faults.BuildFault.{BuildFault}
use Rattle.curve_bootstrap.specs.declared.faults.BuildFault.TheVariants as build
use Rattle.desk_terms.specs.declared.value.Input as input
use Rattle.desk_terms.specs.Bench.{Answers}
use Rattle.desk_terms.specs.declared.terms.Terms.TheVariants.{Curve}
use Rattle.desk_terms.specs.Reading.{Outcome, AreRates, day_read}
use Rattle.desk_terms.specs.Terms.{moves}
use Rattle.desk_terms.specs.declared.value.Value.{Value}
use Rattle.discount_engines.specs.declared.faults.PriceFault.{PriceFault}
use Rattle.discount_engines.specs.Price.{answer_of}
use Rattle.desk_bench.specs.Pricing.{rates_of, own_day, curve_price, built, built_answer, seen, seen_answer, priced_answer, WantsOnly}

-- as many rates as helpers
pub rates_long : (helpers : List Helper) (inputs : List input.Input) → AreRates helpers inputs → length (rates_of inputs) ≡ length helpers
rates_long [] [] are = refl
rates_long [] (i ∷ inputs) are = absurd are
rates_long (helper ∷ helpers) [] are = absurd are
rates_long (helper ∷ helpers) (input.TheVariants.Rate rate ∷ inputs) are = ap suc (rates_long helpers inputs are)
rates_long (helper ∷ helpers) (input.TheVariants.Money amount ∷ inputs) are = absurd are
rates_long (helper ∷ helpers) (input.TheVariants.Curve curve ∷ inputs) are = absurd are

pub gives_built : (o : ℕ) (is : Result CurveView BuildFault) (r : Result CurveView BuildFault) → due.Gives is r
    → Answers (built o is) (built_answer o r)
gives_built o is (Ok curve) gives = ap (built o) gives
gives_built o is (Err (build.Pillar k)) gives = ap (built o) gives
gives_built o is (Err (build.Discount k)) gives = ap (built o) gives
gives_built o is (Err (build.Negative k)) gives = ap (built o) gives
gives_built o is (Err build.RateRange) gives = ap (built o) gives
gives_built o is (Err build.DateRange) gives = ap (built o) gives
gives_built o is (Err build.NoMemory) gives = tt

-- a curve that starts on a day of its own is priced without the evaluation date, and another by it
pub price_by : (o : ℕ) (terms : CurveTerms) (today : ℤ) (inputs : List input.Input)
    → built o (built_curve o terms today (rates_of inputs)) ≡ curve_price o terms (day_read (Curve terms) today) inputs
unfolding built_curve
price_by o terms today inputs = by_start terms.start refl
  where
    from : Option ℤ → Outcome
    from reference = built o (due.curve_from o terms (rates_of inputs) reference)

    by_start : (start : CurveStart) → terms.start ≡ start → from (due.reference_day terms today) ≡ curve_price o terms (if moves start then Some today else None) inputs
    by_start (start.Moving settlement) is = refl
    by_start (start.Fixed day) is = ap from (ap (due.started_on _ today) is) ∙ ap (λ (s : CurveStart). from (own_day s)) (sym is)

pub gives_seen : (o base : ℕ) (day : ℤ) (is : Result CurveView ImpliedFault) (r : Result CurveView ImpliedFault) → see.Gives is r
    → Answers (seen o base day is) (seen_answer o base day r)
gives_seen o base day is (Ok curve) gives = ap (seen o base day) gives
gives_seen o base day is (Err implied.Before) gives = ap (seen o base day) gives
gives_seen o base day is (Err implied.Past) gives = ap (seen o base day) gives
gives_seen o base day is (Err (implied.Node k)) gives = ap (seen o base day) gives
gives_seen o base day is (Err implied.NoMemory) gives = tt

-- an instrument that is priced, or is refused
pub gives_priced : (is : Outcome) (r : Result Value PriceFault) → r ≡ answer_of is → Answers is (priced_answer r)
gives_priced (Ok value) r gives = rw gives refl
gives_priced (Err cause) r gives = rw gives refl

-- no definition of a curve that is seen gives want of memory
never_within : (o : ℕ) (day : ℤ) (nodes : List CurveNode) (found : Option ℕ) → see.curve_of o day (see.unless_outside nodes found) ≡ Err implied.NoMemory → ⊥
never_within o day nodes None is = absurd cc
never_within o day nodes (Some k) is = absurd cc

never_at : (o : ℕ) (day : ℤ) (nodes : List CurveNode) (d : Result ℤ PointFault) → see.curve_of o day (see.seen_at d day nodes) ≡ Err implied.NoMemory → ⊥
never_at o day nodes (Ok factor) is =
    never_within o day (see.all_seen factor (see.nodes_after day nodes)) (position_from see.is_outside 1 (see.all_seen factor (see.nodes_after day nodes))) is
never_at o day nodes (Err point.Before) is = absurd cc
never_at o day nodes (Err point.Past) is = absurd cc

never_memory : (curve : CurveView) (o : ℕ) (day : ℤ) → see.implied_curve curve o day ≡ Err implied.NoMemory → ⊥
unfolding see.implied_curve
never_memory curve o day is = never_at o day curve.nodes (discount_at curve day) is

-- want of memory comes only where there is a curve to be seen
wants_by : (o base : ℕ) (day : ℤ) (is r : Result CurveView ImpliedFault) → (is ≡ Err implied.NoMemory → ⊥) → IfErr is (λ fault. r ≡ Err fault)
    → WantsOnly (IsOk is) (seen_answer o base day r)
wants_by o base day (Ok curve) (Ok found) never same = tt
wants_by o base day (Ok curve) (Err implied.Before) never same = tt
wants_by o base day (Ok curve) (Err implied.Past) never same = tt
wants_by o base day (Ok curve) (Err (implied.Node k)) never same = tt
wants_by o base day (Ok curve) (Err implied.NoMemory) never same = refl
wants_by o base day (Err implied.Before) r never same = rw same tt
wants_by o base day (Err implied.Past) r never same = rw same tt
wants_by o base day (Err (implied.Node k)) r never same = rw same tt
wants_by o base day (Err implied.NoMemory) r never same = absurd (never refl)

pub wants_seen : (curve : CurveView) (o base : ℕ) (day : ℤ) (r : Result CurveView ImpliedFault) → IfErr (see.implied_curve curve o day) (λ fault. r ≡ Err fault)
    → WantsOnly (IsOk (see.implied_curve curve o day)) (seen_answer o base day r)
wants_seen curve o base day r same = wants_by o base day (see.implied_curve curve o day) r (never_memory curve o day) same

-- and never of an instrument
pub wants_none : (is : Outcome) (r : Result Value PriceFault) → r ≡ answer_of is → WantsOnly ⊥ (priced_answer r)
wants_none (Ok value) r gives = rw gives tt
wants_none (Err cause) r gives = rw gives tt
