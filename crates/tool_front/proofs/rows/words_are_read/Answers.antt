use Rattle.std.proofs.Common.{refl}
use Rattle.tool_front.specs.Table.{row_of, command_of}
use Rattle.tool_front.proofs.rows.words_are_read.Goals as goal

pub returns : goal.returns
unfolding row_of command_of
returns c = record {
  nothing = refl;
  long_help = refl;
  short_help = refl;
  help = refl;
  help_of_help = refl;
  help_of_command = refl;
  help_of_none = refl;
  version = refl;
  short_version = refl;
  unknown = refl;
  option = refl;
  wins = refl;
  a_file_named_help = refl;
  bare = refl;
}
