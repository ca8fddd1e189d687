use Rattle.std.proofs.Common.{◌∙◌, to_z-of_z}
use Rattle.desk_terms.specs.Sums.{money_answer}
use Rattle.desk_bench.proofs.Summed.{sum_answers}
use Rattle.desk_bench.proofs.bench.DeskBenchBench.price_sum.Goals as goal

pub returns-clause-answer : goal.returns-clause-answer
returns-clause-answer c parts inputs formed is =
    sum_answers c.args.object parts inputs _ (money_answer c.sum_answer.result) formed (to_z-of_z c.ranges.units ∙ is) c.sum_answer.ensures.price
