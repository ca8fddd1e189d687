use Rattle.std.proofs.Common.{refl}
use Rattle.desk_model.specs.Uses.{input_by, input_at}
use Rattle.desk_model.specs.Fresh.{answer_by, fresh}
use Rattle.desk_model.specs.Effect.{made}
use Rattle.bump_model.specs.Moves.{with_values}
use Rattle.tool_risk.proofs.figure_rows.missing_sides_are_worked_through.Goals as goal

pub returns : goal.returns
unfolding input_by input_at answer_by fresh made with_values
returns c = record {
  stock = refl;
  unset = refl;
  limit = refl;
  refused = refl;
  down = refl;
  first = refl;
  nothing_added = refl;
  no_sum = refl;
  none_beyond = refl;
  no_sum_below = refl;
  both_limits = refl;
  both = refl;
  both_gammas = refl;
  both_sides = refl;
  unset_sides = refl;
}
