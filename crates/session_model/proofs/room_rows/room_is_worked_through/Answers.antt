use Rattle.session_model.proofs.Rooms.{full_live, full_free, full_dropped}
use Rattle.session_model.proofs.room_rows.room_is_worked_through.Goals as goal

pub returns : goal.returns
returns c = record {
  live = full_live 4095;
  one_less = full_live 4094;
  dropped = full_dropped 4094;
  one_more = full_dropped 4095;
  numbers = full_free 65_535;
  one_number_less = full_free 65_534;
}
