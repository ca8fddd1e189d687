use Rattle.std.proofs.Common.{refl}
use Rattle.desk_model.specs.Uses.{input_by, input_at}
use Rattle.desk_model.specs.Fresh.{answer_by, fresh}
use Rattle.desk_model.specs.Effect.{made}
use Rattle.bump_model.specs.Moves.{with_values}
use Rattle.tool_risk.proofs.figure_rows.a_bent_price_is_worked_through.Goals as goal

pub returns : goal.returns
unfolding input_by input_at answer_by fresh made with_values
returns c = record {
  base = refl;
  delta = refl;
  gamma = refl;
  beside = refl;
  together = refl;
  singles = refl;
  others = refl;
}
