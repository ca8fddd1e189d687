use Rattle.std.proofs.Common.{refl}
use Rattle.tool_front.specs.Note.{fault_tail}
use Rattle.tool_front.specs.Table.{row_of}
use Rattle.tool_front.proofs.rows.lines_are_noted.Goals as goal

pub returns : goal.returns
unfolding row_of fault_tail
returns c = record {
  done = refl;
  usage = refl;
  market = refl;
  script = refl;
  joined = refl;
  no_script = refl;
  one_path = refl;
  absent = refl;
  wrong_name = refl;
}
