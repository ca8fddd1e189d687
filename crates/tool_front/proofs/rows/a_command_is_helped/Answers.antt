use Rattle.std.proofs.Common.{refl}
use Rattle.tool_front.specs.Help.{example_head}
use Rattle.tool_front.specs.Table.{row_of}
use Rattle.tool_front.proofs.rows.a_command_is_helped.Goals as goal

pub returns : goal.returns
unfolding row_of example_head
returns c = record { measure = refl; versions = refl }
