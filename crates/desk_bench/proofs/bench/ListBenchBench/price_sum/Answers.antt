use Rattle.std.proofs.Common.{◌∙◌, subst, to_z-of_z, Ok, Err}
use Rattle.desk_terms.specs.Bench.{Answers}
use Rattle.desk_terms.specs.Sums.{composite_reading}
use Rattle.desk_terms.specs.declared.value.Value.TheVariants.{Money}
use Rattle.desk_terms.specs.declared.bench.BenchFault.{BenchFault}
use Rattle.desk_bench.specs.Pricing.{desk_calc}
use Rattle.desk_bench.proofs.Summed.{sum_answers}
use Rattle.desk_bench.proofs.bench.ListBenchBench.price_sum.Goals as goal

pub returns-in_ok-push-in-Ok-clause-answer : goal.returns-in_ok-push-in-Ok-clause-answer
returns-in_ok-push-in-Ok-clause-answer c parts inputs formed is =
    sum_answers c.args.object parts inputs _ (Ok (Money c.in-Ok.amount)) formed (to_z-of_z c.ranges.units ∙ is) c.in-Ok.ensures.price

pub returns-in_ok-push-in-Err-Refused-clause-answer : goal.returns-in_ok-push-in-Err-Refused-clause-answer
returns-in_ok-push-in-Err-Refused-clause-answer c parts inputs formed is =
    let fault = c.in-Err-Refused.field-0 in
    subst (λ (f : BenchFault). Answers (desk_calc (composite_reading c.args.object parts inputs)) (Err f)) c.in-Err-Refused.field-0-is
    (sum_answers c.args.object parts inputs _ (Err fault) formed (to_z-of_z c.ranges.units ∙ is) c.in-Err-Refused.ensures.price)
