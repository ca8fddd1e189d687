use Rattle.std.proofs.Common.{refl}
use Rattle.desk_names.specs.Names.{place_of}
use Rattle.session_model.specs.Standing.{with_objects}
use Rattle.session_model.proofs.room_rows.beginnings_are_worked_through.Goals as goal

pub returns : goal.returns
unfolding place_of with_objects
returns c = record {
  actions = refl;
  names = refl;
  objects = refl;
  stopped = refl;
}
