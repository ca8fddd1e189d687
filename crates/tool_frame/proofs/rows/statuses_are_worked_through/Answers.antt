use Rattle.std.proofs.Common.{refl}
use Rattle.std.specs.Fmt.{digits}
use Rattle.tool_frame.proofs.rows.statuses_are_worked_through.Goals as goal

pub returns : goal.returns
unfolding digits
returns c = record {
  done = (refl, refl);
  usage = (refl, refl);
  market = (refl, refl);
  read_fault = (refl, refl);
  write_fault = (refl, refl);
  no_memory = (refl, refl);
  absent = (refl, refl);
}
