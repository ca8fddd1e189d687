use Rattle.std.proofs.Common.{◌≡◌, ◌∙◌, ap, subst, length, ℤ, List}
use Rattle.curve_bootstrap.specs.Built.{built_curve}
use Rattle.curve_bootstrap.specs.Built as due
use Rattle.desk_terms.specs.Bench.{Answers}
use Rattle.desk_terms.specs.Reading.{Outcome}
use Rattle.desk_bench.specs.Pricing.{rates_of}
use Rattle.desk_bench.proofs.Answered.{rates_long, price_by, gives_built}
use Rattle.desk_bench.proofs.curves.curve_price.Goals as goal

pub build_by-curve-requires-clause-rates : goal.build_by-curve-requires-clause-rates
build_by-curve-requires-clause-rates c = ap length (c.as_slice.ensures.value ∙ c.in_ok-rates.ensures) ∙ rates_long c.args.terms.now.helpers c.args.inputs.now c.requires.rates

pub returns : goal.returns
returns c =
    let gives = subst (λ (rates : List ℤ). due.Gives (built_curve c.args.object c.args.terms.now c.args.today rates) c.build_by-curve.result) (c.as_slice.ensures.value ∙ c.in_ok-rates.ensures) c.build_by-curve.ensures.curve in
    subst (λ (o : Outcome). Answers o c.built_answer.result) (price_by c.args.object c.args.terms.now c.args.today c.args.inputs.now)
    (rw c.built_answer.ensures (gives_built c.args.object _ c.build_by-curve.result gives))
