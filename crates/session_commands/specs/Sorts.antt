-- Which fields a kind of word gives.
use Rattle.std.specs.Prelude.{◌≡◌, ℕ, Bool, Option, ℤ}
use Rattle.session_commands.specs.declared.table.Kind.{Kind}
use Rattle.session_commands.specs.declared.table.Kind.TheVariants as kind
use Rattle.session_commands.specs.declared.parts.Parts.{Parts}
use Rattle.session_commands.specs.Table.{Row}
use Rattle.session_commands.specs.declared.field.Field.{Field}
use Rattle.session_commands.specs.declared.field.Field.TheVariants.{Nothing, Name, Value, Number, Day, Weight, Engine, Flag, Action}

-- the field is of the sort that a word of this kind says
abbrev pub IsOf : Kind → Field → Type 0
IsOf kind.Nothing f = f ≡ Nothing
IsOf kind.Name f = (name : ℕ) × (f ≡ Name name)
IsOf kind.Value f = (value : Option ℤ) × (f ≡ Value value)
IsOf kind.Number f = (units : ℤ) × (f ≡ Number units)
IsOf kind.Rate f = (units : ℤ) × (f ≡ Number units)
IsOf kind.Day f = (day : ℤ) × (f ≡ Day day)
IsOf kind.Weight f = (weight : ℤ) × (f ≡ Weight weight)
IsOf kind.Engine f = (engine : Option ℕ) × (f ≡ Engine engine)
IsOf kind.Target f = (flag : Bool) × (f ≡ Flag flag)
IsOf kind.Switch f = (flag : Bool) × (f ≡ Flag flag)
IsOf kind.Action f = (action : ℕ) × (f ≡ Action action)

-- the fields of the parts are of the row's sorts
pub record Sorted (r : Row) (p : Parts) : Type 0 where
  pub first : IsOf r.first p.first
  pub second : IsOf r.second p.second
  pub third : IsOf r.third p.third
