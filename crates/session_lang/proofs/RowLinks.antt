-- The table of commands, row by row: the parts of a command that was made, and the links of a command that was read.
use Rattle.std.proofs.Common.{◌≡◌, ℕ, ◌≤◌, Option, Some, None, refl, arith}
use Rattle.session_commands.specs.declared.table.Verb.{Verb}
use Rattle.session_commands.specs.declared.table.Verb.TheVariants as verb
use Rattle.session_commands.specs.declared.table.Kind.{Kind}
use Rattle.session_commands.specs.declared.field.Field.{Field}
use Rattle.session_commands.specs.declared.field.Field.TheVariants.{Nothing, Name, Value, Number, Day, Weight, Engine, Flag, Action}
use Rattle.session_commands.specs.declared.command.Command.{Command}
use Rattle.session_commands.specs.declared.command.Command.TheVariants as command
use Rattle.session_lang.specs.declared.statement.Statement.TheVariants.{Run}
use Rattle.session_commands.specs.Table.{row_of}
use Rattle.session_commands.specs.Parts.{command_of, together, parts_of}
use Rattle.session_commands.specs.Sorts.{IsOf}
use Rattle.session_lang.specs.Statement.{Known}
use Rattle.session_lang.specs.Reading.{text_of, lacks, linked}
use Rattle.session_commands.specs.Whole.{IsEngine, Fits, IsCommand}
use Rattle.desk_names.specs.Names.{has_text}
use Rattle.desk_names.proofs.NameLaws.{place_of-lt}
use Rattle.std.proofs.Common.{Bool, true, false, cond, length}

-- fields of a row's sorts make a command, of which they are the parts
pub row_parts : (v : Verb) (a b c : Field) → IsOf (row_of v).first a → IsOf (row_of v).second b → IsOf (row_of v).third c → (made : Command) × (command_of (together v a b c) ≡ Some made) × (parts_of made ≡ together v a b c)
unfolding row_of command_of parts_of
row_parts verb.Quote a b c ha hb hc = (command.Quote ha.0 hb.0, rw (ha.1, hb.1) refl, rw (ha.1, hb.1, hc) refl)
row_parts verb.Sum a b c ha hb hc = (command.Sum ha.0 hb.0 hc.0, rw (ha.1, hb.1, hc.1) refl, rw (ha.1, hb.1, hc.1) refl)
row_parts verb.Difference a b c ha hb hc = (command.Difference ha.0 hb.0 hc.0, rw (ha.1, hb.1, hc.1) refl, rw (ha.1, hb.1, hc.1) refl)
row_parts verb.Handle a b c ha hb hc = (command.Handle ha.0 hb.0, rw (ha.1, hb.1) refl, rw (ha.1, hb.1, hc) refl)
row_parts verb.Stock a b c ha hb hc = (command.Stock ha.0 hb.0, rw (ha.1, hb.1) refl, rw (ha.1, hb.1, hc) refl)
row_parts verb.Composite a b c ha hb hc = (command.Composite ha.0, rw (ha.1) refl, rw (ha.1, hb, hc) refl)
row_parts verb.Member a b c ha hb hc = (command.Member ha.0 hb.0 hc.0, rw (ha.1, hb.1, hc.1) refl, rw (ha.1, hb.1, hc.1) refl)
row_parts verb.Set a b c ha hb hc = (command.Set ha.0 hb.0, rw (ha.1, hb.1) refl, rw (ha.1, hb.1, hc) refl)
row_parts verb.Unset a b c ha hb hc = (command.Unset ha.0, rw (ha.1) refl, rw (ha.1, hb, hc) refl)
row_parts verb.Link a b c ha hb hc = (command.Link ha.0 hb.0, rw (ha.1, hb.1) refl, rw (ha.1, hb.1, hc) refl)
row_parts verb.Unlink a b c ha hb hc = (command.Unlink ha.0, rw (ha.1) refl, rw (ha.1, hb, hc) refl)
row_parts verb.Engine a b c ha hb hc = (command.Engine ha.0 hb.0, rw (ha.1, hb.1) refl, rw (ha.1, hb.1, hc) refl)
row_parts verb.Today a b c ha hb hc = (command.Today ha.0, rw (ha.1) refl, rw (ha.1, hb, hc) refl)
row_parts verb.Fixing a b c ha hb hc = (command.Fixing ha.0 hb.0 hc.0, rw (ha.1, hb.1, hc.1) refl, rw (ha.1, hb.1, hc.1) refl)
row_parts verb.Freeze a b c ha hb hc = (command.Freeze ha.0, rw (ha.1) refl, rw (ha.1, hb, hc) refl)
row_parts verb.Thaw a b c ha hb hc = (command.Thaw ha.0, rw (ha.1) refl, rw (ha.1, hb, hc) refl)
row_parts verb.Recalc a b c ha hb hc = (command.Recalc ha.0, rw (ha.1) refl, rw (ha.1, hb, hc) refl)
row_parts verb.Forward a b c ha hb hc = (command.Forward ha.0 hb.0, rw (ha.1, hb.1) refl, rw (ha.1, hb.1, hc) refl)
row_parts verb.Defer a b c ha hb hc = (command.Defer, refl, rw (ha, hb, hc) refl)
row_parts verb.Resume a b c ha hb hc = (command.Resume, refl, rw (ha, hb, hc) refl)
row_parts verb.Watch a b c ha hb hc = (command.Watch ha.0 hb.0, rw (ha.1, hb.1) refl, rw (ha.1, hb.1, hc) refl)
row_parts verb.Register a b c ha hb hc = (command.Register ha.0 hb.0, rw (ha.1, hb.1) refl, rw (ha.1, hb.1, hc) refl)
row_parts verb.Unregister a b c ha hb hc = (command.Unregister ha.0 hb.0, rw (ha.1, hb.1) refl, rw (ha.1, hb.1, hc) refl)
row_parts verb.Drop a b c ha hb hc = (command.Drop ha.0, rw (ha.1) refl, rw (ha.1, hb, hc) refl)
row_parts verb.Ask a b c ha hb hc = (command.Ask ha.0, rw (ha.1) refl, rw (ha.1, hb, hc) refl)
row_parts verb.Df a b c ha hb hc = (command.Df ha.0 hb.0, rw (ha.1, hb.1) refl, rw (ha.1, hb.1, hc) refl)

engine_more : (m n : ℕ) → m ≤ n → (engine : Option ℕ) → IsEngine m engine → IsEngine n engine
engine_more m n le None h = tt
engine_more m n le (Some name) h = omega arith

-- what fits fits more names
pub fits_more : (m n : ℕ) → m ≤ n → (k : Kind) (f : Field) → Fits m m k f → Fits n n k f
fits_more m n le k Nothing h = h
fits_more m n le k (Name name) h = omega arith
fits_more m n le k (Value value) h = h
fits_more m n le k (Number units) h = h
fits_more m n le k (Day day) h = h
fits_more m n le k (Weight weight) h = h
fits_more m n le k (Engine engine) h = engine_more m n le engine h
fits_more m n le k (Flag flag) h = h
fits_more m n le k (Action action) h = omega arith

-- a command stays one of more names
pub command_more : (m n : ℕ) → m ≤ n → (c : Command) → IsCommand m m c → IsCommand n n c
unfolding IsCommand
command_more m n le c fit = record {
  first = fits_more m n le (row_of (parts_of c).verb).first (parts_of c).first fit.first;
  second = fits_more m n le (row_of (parts_of c).verb).second (parts_of c).second fit.second;
  third = fits_more m n le (row_of (parts_of c).verb).third (parts_of c).third fit.third;
}

not_lacking : (b : Bool) → cond b false true ≡ false → b ≡ true
not_lacking true h = refl
not_lacking false h = absurd (cc)

-- a command that was read is linked to an action that is there
pub linked_fits : (K : Known) (m : ℕ) (c : Command) → IsCommand m m c → lacks K (Run c) ≡ false → IsCommand m (length K.begun) (linked K c)
unfolding IsCommand row_of parts_of
linked_fits K m (command.Watch a b) fit there = record { first = fit.first; second = place_of-lt K.begun (text_of K b) (not_lacking (has_text K.begun (text_of K b)) there); third = fit.third }
linked_fits K m c fit there = record { first = fit.first; second = fit.second; third = fit.third }
