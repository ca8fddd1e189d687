-- What a field of a command holds.
use Rattle.std.specs.Prelude.{ℕ, Bool, Option, Some, None, ℤ}
use Rattle.session_commands.specs.declared.field.Field.{Field}
use Rattle.session_commands.specs.declared.field.Field.TheVariants.{Name, Value, Number, Day, Weight, Engine, Flag, Action}

-- the name in a field, where it holds one
abbrev pub name_in : Field → Option ℕ
name_in (Name name) = Some name
name_in other = None

-- the quote's value in a field, where it holds one
abbrev pub value_in : Field → Option (Option ℤ)
value_in (Value value) = Some value
value_in other = None

-- the decimal in a field, where it holds one
abbrev pub number_in : Field → Option ℤ
number_in (Number units) = Some units
number_in other = None

-- the day in a field, where it holds one
abbrev pub day_in : Field → Option ℤ
day_in (Day day) = Some day
day_in other = None

-- the weight in a field, where it holds one
abbrev pub weight_in : Field → Option ℤ
weight_in (Weight weight) = Some weight
weight_in other = None

-- the engine in a field, where it holds one
abbrev pub engine_in : Field → Option (Option ℕ)
engine_in (Engine engine) = Some engine
engine_in other = None

-- the flag in a field, where it holds one
abbrev pub flag_in : Field → Option Bool
flag_in (Flag flag) = Some flag
flag_in other = None

-- the action in a field, where it holds one
abbrev pub action_in : Field → Option ℕ
action_in (Action action) = Some action
action_in other = None
