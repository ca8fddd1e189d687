use Rattle.std.proofs.Common.{refl}
use Rattle.desk_names.specs.Names.{has_text, place_of}
use Rattle.tool_script.specs.Shape.{scenarios_shape, steps_shape}
use Rattle.tool_script.proofs.shape_rows.shapes_are_worked_through.Goals as goal

pub returns : goal.returns
unfolding has_text place_of scenarios_shape steps_shape
returns c = record {
  nothing = refl;
  moved = refl;
  command = refl;
  discount = refl;
  block = refl;
  frozen = refl;
  made = refl;
  name = refl;
  second = refl;
  many = refl;
  most = refl;
  total = refl;
  step = refl;
  base_step = refl;
  many_steps = refl;
  moved_steps = refl;
}
