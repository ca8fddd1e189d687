-- The table of commands, row by row: what a row and the parts of a command are for the reader of a printed line.
use Rattle.std.proofs.Common.{◌≡◌, ℕ, false, List, length, slice_index_or, Some, codes, refl, lit<}
use Rattle.std.specs.Str.{bytes_eq}
use Rattle.session_commands.specs.declared.table.Verb.{Verb}
use Rattle.session_commands.specs.declared.table.Verb.TheVariants as verb
use Rattle.session_commands.specs.declared.table.Kind.TheVariants as kind
use Rattle.session_commands.specs.declared.command.Command.{Command}
use Rattle.session_commands.specs.declared.command.Command.TheVariants as command
use Rattle.session_commands.specs.Table.{Row, row_of, words_at}
use Rattle.session_commands.specs.Parts.{command_of, together, parts_of}
use Rattle.session_commands.specs.Sorts.{Sorted}
use Rattle.script_words.proofs.WordBytes.{IsWord}
use Rattle.script_words.proofs.Fields.{as_read}

-- how many words stand behind a first word
pub data Count : Type 0 where
  none : Count
  one : Count
  two : Count
  three : Count

-- they stand at the row's first kinds
abbrev pub Stands : Count → Row → Type 0
Stands none r = (r.first ≡ kind.Nothing) × (r.second ≡ kind.Nothing) × (r.third ≡ kind.Nothing)
Stands one r = (words_at r.first ≡ 1) × (r.second ≡ kind.Nothing) × (r.third ≡ kind.Nothing)
Stands two r = (words_at r.first ≡ 1) × (words_at r.second ≡ 1) × (r.third ≡ kind.Nothing)
Stands three r = (words_at r.first ≡ 1) × (words_at r.second ≡ 1) × (words_at r.third ≡ 1)

-- a row has its words first, and its first word is that of a command alone
pub record RowIs (r : Row) : Type 0 where
  pub count : Count
  pub stands : Stands count r
  pub word : IsWord r.word
  pub no_action : bytes_eq r.word (codes "action") ≡ false
  pub no_end : bytes_eq r.word (codes "end") ≡ false

pub row_is : (v : Verb) → RowIs (row_of v)
unfolding row_of
row_is verb.Quote = record { count = two; stands = (refl, refl, refl); word = record { some = lit< tt; bytes = refl }; no_action = refl; no_end = refl }
row_is verb.Sum = record { count = three; stands = (refl, refl, refl); word = record { some = lit< tt; bytes = refl }; no_action = refl; no_end = refl }
row_is verb.Difference = record { count = three; stands = (refl, refl, refl); word = record { some = lit< tt; bytes = refl }; no_action = refl; no_end = refl }
row_is verb.Handle = record { count = two; stands = (refl, refl, refl); word = record { some = lit< tt; bytes = refl }; no_action = refl; no_end = refl }
row_is verb.Stock = record { count = two; stands = (refl, refl, refl); word = record { some = lit< tt; bytes = refl }; no_action = refl; no_end = refl }
row_is verb.Composite = record { count = one; stands = (refl, refl, refl); word = record { some = lit< tt; bytes = refl }; no_action = refl; no_end = refl }
row_is verb.Member = record { count = three; stands = (refl, refl, refl); word = record { some = lit< tt; bytes = refl }; no_action = refl; no_end = refl }
row_is verb.Set = record { count = two; stands = (refl, refl, refl); word = record { some = lit< tt; bytes = refl }; no_action = refl; no_end = refl }
row_is verb.Unset = record { count = one; stands = (refl, refl, refl); word = record { some = lit< tt; bytes = refl }; no_action = refl; no_end = refl }
row_is verb.Link = record { count = two; stands = (refl, refl, refl); word = record { some = lit< tt; bytes = refl }; no_action = refl; no_end = refl }
row_is verb.Unlink = record { count = one; stands = (refl, refl, refl); word = record { some = lit< tt; bytes = refl }; no_action = refl; no_end = refl }
row_is verb.Engine = record { count = two; stands = (refl, refl, refl); word = record { some = lit< tt; bytes = refl }; no_action = refl; no_end = refl }
row_is verb.Today = record { count = one; stands = (refl, refl, refl); word = record { some = lit< tt; bytes = refl }; no_action = refl; no_end = refl }
row_is verb.Fixing = record { count = three; stands = (refl, refl, refl); word = record { some = lit< tt; bytes = refl }; no_action = refl; no_end = refl }
row_is verb.Freeze = record { count = one; stands = (refl, refl, refl); word = record { some = lit< tt; bytes = refl }; no_action = refl; no_end = refl }
row_is verb.Thaw = record { count = one; stands = (refl, refl, refl); word = record { some = lit< tt; bytes = refl }; no_action = refl; no_end = refl }
row_is verb.Recalc = record { count = one; stands = (refl, refl, refl); word = record { some = lit< tt; bytes = refl }; no_action = refl; no_end = refl }
row_is verb.Forward = record { count = two; stands = (refl, refl, refl); word = record { some = lit< tt; bytes = refl }; no_action = refl; no_end = refl }
row_is verb.Defer = record { count = none; stands = (refl, refl, refl); word = record { some = lit< tt; bytes = refl }; no_action = refl; no_end = refl }
row_is verb.Resume = record { count = none; stands = (refl, refl, refl); word = record { some = lit< tt; bytes = refl }; no_action = refl; no_end = refl }
row_is verb.Watch = record { count = two; stands = (refl, refl, refl); word = record { some = lit< tt; bytes = refl }; no_action = refl; no_end = refl }
row_is verb.Register = record { count = two; stands = (refl, refl, refl); word = record { some = lit< tt; bytes = refl }; no_action = refl; no_end = refl }
row_is verb.Unregister = record { count = two; stands = (refl, refl, refl); word = record { some = lit< tt; bytes = refl }; no_action = refl; no_end = refl }
row_is verb.Drop = record { count = one; stands = (refl, refl, refl); word = record { some = lit< tt; bytes = refl }; no_action = refl; no_end = refl }
row_is verb.Ask = record { count = one; stands = (refl, refl, refl); word = record { some = lit< tt; bytes = refl }; no_action = refl; no_end = refl }
row_is verb.Df = record { count = two; stands = (refl, refl, refl); word = record { some = lit< tt; bytes = refl }; no_action = refl; no_end = refl }

-- the fields of a command are of its row's sorts
pub parts_sorted : (c : Command) → Sorted (row_of (parts_of c).verb) (parts_of c)
unfolding row_of parts_of
parts_sorted (command.Quote a b) = record { first = (a, refl); second = (b, refl); third = refl }
parts_sorted (command.Sum a b c) = record { first = (a, refl); second = (b, refl); third = (c, refl) }
parts_sorted (command.Difference a b c) = record { first = (a, refl); second = (b, refl); third = (c, refl) }
parts_sorted (command.Handle a b) = record { first = (a, refl); second = (b, refl); third = refl }
parts_sorted (command.Stock a b) = record { first = (a, refl); second = (b, refl); third = refl }
parts_sorted (command.Composite a) = record { first = (a, refl); second = refl; third = refl }
parts_sorted (command.Member a b c) = record { first = (a, refl); second = (b, refl); third = (c, refl) }
parts_sorted (command.Set a b) = record { first = (a, refl); second = (b, refl); third = refl }
parts_sorted (command.Unset a) = record { first = (a, refl); second = refl; third = refl }
parts_sorted (command.Link a b) = record { first = (a, refl); second = (b, refl); third = refl }
parts_sorted (command.Unlink a) = record { first = (a, refl); second = refl; third = refl }
parts_sorted (command.Engine a b) = record { first = (a, refl); second = (b, refl); third = refl }
parts_sorted (command.Today a) = record { first = (a, refl); second = refl; third = refl }
parts_sorted (command.Fixing a b c) = record { first = (a, refl); second = (b, refl); third = (c, refl) }
parts_sorted (command.Freeze a) = record { first = (a, refl); second = refl; third = refl }
parts_sorted (command.Thaw a) = record { first = (a, refl); second = refl; third = refl }
parts_sorted (command.Recalc a) = record { first = (a, refl); second = refl; third = refl }
parts_sorted (command.Forward a b) = record { first = (a, refl); second = (b, refl); third = refl }
parts_sorted command.Defer = record { first = refl; second = refl; third = refl }
parts_sorted command.Resume = record { first = refl; second = refl; third = refl }
parts_sorted (command.Watch a b) = record { first = (a, refl); second = (b, refl); third = refl }
parts_sorted (command.Register a b) = record { first = (a, refl); second = (b, refl); third = refl }
parts_sorted (command.Unregister a b) = record { first = (a, refl); second = (b, refl); third = refl }
parts_sorted (command.Drop a) = record { first = (a, refl); second = refl; third = refl }
parts_sorted (command.Ask a) = record { first = (a, refl); second = refl; third = refl }
parts_sorted (command.Df a b) = record { first = (a, refl); second = (b, refl); third = refl }

-- a command as it is read: a watch names its action by the number of the action's name
abbrev pub command_as_read : List (List ℕ) → List ℕ → Command → Command
command_as_read names an (command.Watch watcher action) = command.Watch watcher (slice_index_or an action (length names))
command_as_read names an c = c

pub read_parts_made : (names : List (List ℕ)) (an : List ℕ) (c : Command) → command_of (together (parts_of c).verb (as_read names an (parts_of c).first) (as_read names an (parts_of c).second) (as_read names an (parts_of c).third)) ≡ Some (command_as_read names an c)
unfolding command_of parts_of
read_parts_made names an (command.Quote a b) = refl
read_parts_made names an (command.Sum a b c) = refl
read_parts_made names an (command.Difference a b c) = refl
read_parts_made names an (command.Handle a b) = refl
read_parts_made names an (command.Stock a b) = refl
read_parts_made names an (command.Composite a) = refl
read_parts_made names an (command.Member a b c) = refl
read_parts_made names an (command.Set a b) = refl
read_parts_made names an (command.Unset a) = refl
read_parts_made names an (command.Link a b) = refl
read_parts_made names an (command.Unlink a) = refl
read_parts_made names an (command.Engine a b) = refl
read_parts_made names an (command.Today a) = refl
read_parts_made names an (command.Fixing a b c) = refl
read_parts_made names an (command.Freeze a) = refl
read_parts_made names an (command.Thaw a) = refl
read_parts_made names an (command.Recalc a) = refl
read_parts_made names an (command.Forward a b) = refl
read_parts_made names an command.Defer = refl
read_parts_made names an command.Resume = refl
read_parts_made names an (command.Watch a b) = refl
read_parts_made names an (command.Register a b) = refl
read_parts_made names an (command.Unregister a b) = refl
read_parts_made names an (command.Drop a) = refl
read_parts_made names an (command.Ask a) = refl
read_parts_made names an (command.Df a b) = refl
