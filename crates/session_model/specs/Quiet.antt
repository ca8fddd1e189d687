-- Which commands are quiet (this project's profile): the command says it, whatever its names stand for.
use Rattle.std.specs.Prelude.{Bool, true, false}
use Rattle.session_commands.specs.declared.command.Command.{Command}
use Rattle.session_commands.specs.declared.command.Command.TheVariants as command
use Rattle.session_model.specs.declared.act.Act.{Act}
use Rattle.session_model.specs.declared.act.Act.TheVariants as act

-- QUIET: a command that changes what is there. It computes nothing, makes nothing, stores nothing beside what is there,
-- and writes a line only where it is refused.
abbrev pub is_quiet : Command → Bool
is_quiet (command.Quote name value) = false
is_quiet (command.Sum name a b) = false
is_quiet (command.Difference name a b) = false
is_quiet (command.Handle name is_curve) = false
is_quiet (command.Stock name q) = false
is_quiet (command.Composite name) = false
is_quiet (command.Member k i weight) = false
is_quiet (command.Set q value) = true
is_quiet (command.Unset q) = true
is_quiet (command.Link h t) = true
is_quiet (command.Unlink h) = true
is_quiet (command.Engine i e) = true
is_quiet (command.Today day) = true
is_quiet (command.Fixing x day rate) = false
is_quiet (command.Freeze o) = true
is_quiet (command.Thaw o) = true
is_quiet (command.Recalc o) = false
is_quiet (command.Forward o is_on) = true
is_quiet command.Defer = true
is_quiet command.Resume = true
is_quiet (command.Watch w action) = false
is_quiet (command.Register w o) = false
is_quiet (command.Unregister w o) = true
is_quiet (command.Drop o) = true
is_quiet (command.Ask o) = false
is_quiet (command.Df c day) = false

-- the same of what a command resolves to
abbrev pub is_quiet_act : Act → Bool
is_quiet_act (act.Make name terms) = false
is_quiet_act (act.Watch name action) = false
is_quiet_act (act.Quiet change) = true
is_quiet_act (act.Grow growth) = false
is_quiet_act (act.Price name object how) = false
