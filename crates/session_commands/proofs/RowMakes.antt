-- Fields of a row's sorts make a command.
use Rattle.std.proofs.Common.{◌≡◌, Some, refl}
use Rattle.session_commands.specs.declared.table.Verb.{Verb}
use Rattle.session_commands.specs.declared.table.Verb.TheVariants as verb
use Rattle.session_commands.specs.declared.field.Field.{Field}
use Rattle.session_commands.specs.declared.command.Command.{Command}
use Rattle.session_commands.specs.declared.command.Command.TheVariants as command
use Rattle.session_commands.specs.Table.{row_of}
use Rattle.session_commands.specs.Parts.{command_of, together}
use Rattle.session_commands.specs.Sorts.{IsOf}

-- fields of a row's sorts make a command
pub row_makes : (v : Verb) (a b c : Field) → IsOf (row_of v).first a → IsOf (row_of v).second b → IsOf (row_of v).third c → (made : Command) × (command_of (together v a b c) ≡ Some made)
unfolding row_of command_of
row_makes verb.Quote a b c ha hb hc = (command.Quote ha.0 hb.0, rw (ha.1, hb.1) refl)
row_makes verb.Sum a b c ha hb hc = (command.Sum ha.0 hb.0 hc.0, rw (ha.1, hb.1, hc.1) refl)
row_makes verb.Difference a b c ha hb hc = (command.Difference ha.0 hb.0 hc.0, rw (ha.1, hb.1, hc.1) refl)
row_makes verb.Handle a b c ha hb hc = (command.Handle ha.0 hb.0, rw (ha.1, hb.1) refl)
row_makes verb.Stock a b c ha hb hc = (command.Stock ha.0 hb.0, rw (ha.1, hb.1) refl)
row_makes verb.Composite a b c ha hb hc = (command.Composite ha.0, rw (ha.1) refl)
row_makes verb.Member a b c ha hb hc = (command.Member ha.0 hb.0 hc.0, rw (ha.1, hb.1, hc.1) refl)
row_makes verb.Set a b c ha hb hc = (command.Set ha.0 hb.0, rw (ha.1, hb.1) refl)
row_makes verb.Unset a b c ha hb hc = (command.Unset ha.0, rw (ha.1) refl)
row_makes verb.Link a b c ha hb hc = (command.Link ha.0 hb.0, rw (ha.1, hb.1) refl)
row_makes verb.Unlink a b c ha hb hc = (command.Unlink ha.0, rw (ha.1) refl)
row_makes verb.Engine a b c ha hb hc = (command.Engine ha.0 hb.0, rw (ha.1, hb.1) refl)
row_makes verb.Today a b c ha hb hc = (command.Today ha.0, rw (ha.1) refl)
row_makes verb.Fixing a b c ha hb hc = (command.Fixing ha.0 hb.0 hc.0, rw (ha.1, hb.1, hc.1) refl)
row_makes verb.Freeze a b c ha hb hc = (command.Freeze ha.0, rw (ha.1) refl)
row_makes verb.Thaw a b c ha hb hc = (command.Thaw ha.0, rw (ha.1) refl)
row_makes verb.Recalc a b c ha hb hc = (command.Recalc ha.0, rw (ha.1) refl)
row_makes verb.Forward a b c ha hb hc = (command.Forward ha.0 hb.0, rw (ha.1, hb.1) refl)
row_makes verb.Defer a b c ha hb hc = (command.Defer, refl)
row_makes verb.Resume a b c ha hb hc = (command.Resume, refl)
row_makes verb.Watch a b c ha hb hc = (command.Watch ha.0 hb.0, rw (ha.1, hb.1) refl)
row_makes verb.Register a b c ha hb hc = (command.Register ha.0 hb.0, rw (ha.1, hb.1) refl)
row_makes verb.Unregister a b c ha hb hc = (command.Unregister ha.0 hb.0, rw (ha.1, hb.1) refl)
row_makes verb.Drop a b c ha hb hc = (command.Drop ha.0, rw (ha.1) refl)
row_makes verb.Ask a b c ha hb hc = (command.Ask ha.0, rw (ha.1) refl)
row_makes verb.Df a b c ha hb hc = (command.Df ha.0 hb.0, rw (ha.1, hb.1) refl)
