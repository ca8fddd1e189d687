-- Commands that are done though memory is short.
use Rattle.std.specs.Prelude.{◌≡◌, true, []}
use Rattle.session_commands.specs.declared.command.Command.{Command}
use Rattle.session_core.specs.Steps.{is_without_memory}
use Rattle.session_model.specs.Resolve.{resolve}
use Rattle.session_model.specs.Course.{Running, Meaning, course_of}

-- the command is not refused and takes no memory, its notices make no watcher due, and none of them writes a line
pub record IsQuiet (P : Type 0) (m : Meaning P) (r : Running P) (c : Command) : Type 0 where
  pub free : is_without_memory (resolve r.standing c) ≡ true
  pub silent : (course_of m r c).lines ≡ []
  pub idle : (course_of m r c).next.round.due ≡ []
