use Rattle.std.proofs.Common.{refl}
use Rattle.tool_risk.proofs.figure_rows.halves_are_worked_through.Goals as goal

pub returns : goal.returns
returns c = record {
  even = refl;
  above = refl;
  below = refl;
  least = refl;
  across = refl;
  none = refl;
  figure = refl;
  summed = refl;
  beyond_it = refl;
}
