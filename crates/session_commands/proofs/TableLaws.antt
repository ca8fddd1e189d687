-- The table of commands, row by row.
use Rattle.std.proofs.Common.{◌≡◌, Some, refl}
use Rattle.session_commands.specs.declared.table.Verb.{Verb}
use Rattle.session_commands.specs.declared.table.Verb.TheVariants as verb
use Rattle.session_commands.specs.declared.command.Command.{Command}
use Rattle.session_commands.specs.declared.command.Command.TheVariants as command
use Rattle.session_commands.specs.Table.{row_of, verb_of}
use Rattle.session_commands.specs.Parts.{command_of, parts_of}

-- a row's first word finds the row
pub word_found : (v : Verb) → verb_of (row_of v).word ≡ Some v
unfolding verb_of row_of
word_found verb.Quote = refl
word_found verb.Sum = refl
word_found verb.Difference = refl
word_found verb.Handle = refl
word_found verb.Stock = refl
word_found verb.Composite = refl
word_found verb.Member = refl
word_found verb.Set = refl
word_found verb.Unset = refl
word_found verb.Link = refl
word_found verb.Unlink = refl
word_found verb.Engine = refl
word_found verb.Today = refl
word_found verb.Fixing = refl
word_found verb.Freeze = refl
word_found verb.Thaw = refl
word_found verb.Recalc = refl
word_found verb.Forward = refl
word_found verb.Defer = refl
word_found verb.Resume = refl
word_found verb.Watch = refl
word_found verb.Register = refl
word_found verb.Unregister = refl
word_found verb.Drop = refl
word_found verb.Ask = refl
word_found verb.Df = refl

-- the parts of a command make it again
pub parts_made : (c : Command) → command_of (parts_of c) ≡ Some c
unfolding command_of parts_of
parts_made (command.Quote a b) = refl
parts_made (command.Sum a b c) = refl
parts_made (command.Difference a b c) = refl
parts_made (command.Handle a b) = refl
parts_made (command.Stock a b) = refl
parts_made (command.Composite a) = refl
parts_made (command.Member a b c) = refl
parts_made (command.Set a b) = refl
parts_made (command.Unset a) = refl
parts_made (command.Link a b) = refl
parts_made (command.Unlink a) = refl
parts_made (command.Engine a b) = refl
parts_made (command.Today a) = refl
parts_made (command.Fixing a b c) = refl
parts_made (command.Freeze a) = refl
parts_made (command.Thaw a) = refl
parts_made (command.Recalc a) = refl
parts_made (command.Forward a b) = refl
parts_made command.Defer = refl
parts_made command.Resume = refl
parts_made (command.Watch a b) = refl
parts_made (command.Register a b) = refl
parts_made (command.Unregister a b) = refl
parts_made (command.Drop a) = refl
parts_made (command.Ask a) = refl
parts_made (command.Df a b) = refl
