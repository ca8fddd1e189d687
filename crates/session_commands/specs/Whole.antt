-- A script that is whole: its numbers stand for names and actions that are there, and its values are in their limits.
use Rattle.std.specs.Prelude.{◌≡◌, ℕ, ◌<◌, ◌≤◌, List, [], length, map, slice_index_or, All, Option, Some, None, ℤ, unsigned_abs}
use Rattle.day_number.specs.Day.{IsDayNumber}
use Rattle.desk_names.specs.Names.{IsNames}
use Rattle.session_commands.specs.declared.table.Kind.{Kind}
use Rattle.session_commands.specs.declared.table.Kind.TheVariants as kind
use Rattle.session_commands.specs.declared.field.Field.{Field}
use Rattle.session_commands.specs.declared.field.Field.TheVariants.{Nothing, Name, Value, Number, Day, Weight, Engine, Flag, Action}
use Rattle.session_commands.specs.declared.command.Command.{Command}
use Rattle.session_commands.specs.declared.parts.Parts.{Parts}
use Rattle.session_commands.specs.declared.script.Script.{Script}
use Rattle.session_commands.specs.Table.{Row, row_of}
use Rattle.session_commands.specs.Parts.{parts_of}

-- the text of a name, by its number
abbrev pub name_text : List (List ℕ) → ℕ → List ℕ
name_text names name = slice_index_or names name []

-- the greatest magnitude of a decimal, in units of 10^-9: 10 for a rate, else 10^9 (this project's profile)
abbrev pub most_units : Kind → ℕ
most_units kind.Rate = 10_000_000_000
most_units kind.Nothing = 1_000_000_000_000_000_000
most_units kind.Name = 1_000_000_000_000_000_000
most_units kind.Value = 1_000_000_000_000_000_000
most_units kind.Number = 1_000_000_000_000_000_000
most_units kind.Day = 1_000_000_000_000_000_000
most_units kind.Weight = 1_000_000_000_000_000_000
most_units kind.Engine = 1_000_000_000_000_000_000
most_units kind.Target = 1_000_000_000_000_000_000
most_units kind.Switch = 1_000_000_000_000_000_000
most_units kind.Action = 1_000_000_000_000_000_000

-- a quote's value, where there is one, is within 10^9 either way
abbrev pub IsValue : Option ℤ → Type 0
IsValue (Some units) = unsigned_abs units ≤ 1_000_000_000_000_000_000
IsValue None = Unit {0}

-- an engine, where there is one, is a name
abbrev pub IsEngine : ℕ → Option ℕ → Type 0
IsEngine names (Some name) = name < names
IsEngine names None = Unit {0}

-- what a field holds is among so many names and actions, or within the limit of its kind (this project's profile)
abbrev pub Fits : ℕ → ℕ → Kind → Field → Type 0
Fits names actions k Nothing = Unit {0}
Fits names actions k (Name name) = name < names
Fits names actions k (Value value) = IsValue value
Fits names actions k (Number units) = unsigned_abs units ≤ most_units k
Fits names actions k (Day day) = IsDayNumber day
Fits names actions k (Weight weight) = unsigned_abs weight ≤ 1_000_000
Fits names actions k (Engine engine) = IsEngine names engine
Fits names actions k (Flag flag) = Unit {0}
Fits names actions k (Action action) = action < actions

-- the fields of a row fit
pub record FieldsFit (names actions : ℕ) (r : Row) (p : Parts) : Type 0 where
  pub first : Fits names actions r.first p.first
  pub second : Fits names actions r.second p.second
  pub third : Fits names actions r.third p.third

-- the command speaks of so many names and actions, and its values are within their limits
unfoldable pub IsCommand : ℕ → ℕ → Command → Type 0
IsCommand names actions command = FieldsFit names actions (row_of (parts_of command).verb) (parts_of command)

-- the script of these names: each action has a name, no two the same, and each command is one of these names and actions
pub record IsScript (names : List (List ℕ)) (s : Script) : Type 0 where
  pub named : IsNames names
  pub paired : length s.actions ≡ length s.action_names
  pub action_names : IsNames (map (name_text names) s.action_names)
  pub known : All (λ name. name < length names) s.action_names
  pub actions : All (λ block. All (IsCommand (length names) (length s.actions)) block) s.actions
  pub commands : All (IsCommand (length names) (length s.actions)) s.commands
