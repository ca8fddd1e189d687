-- A command as its first word and its fields.
use Rattle.std.specs.Prelude.{ℕ, List, Option, Some, None, option_and_then}
use Rattle.session_commands.specs.declared.table.Verb.{Verb}
use Rattle.session_commands.specs.declared.table.Verb.TheVariants as verb
use Rattle.session_commands.specs.declared.field.Field.{Field}
use Rattle.session_commands.specs.declared.field.Field.TheVariants.{Nothing, Name, Value, Number, Day, Weight, Engine, Flag, Action}
use Rattle.session_commands.specs.declared.command.Command.{Command}
use Rattle.session_commands.specs.declared.command.Command.TheVariants as command
use Rattle.session_commands.specs.declared.parts.Parts.{Parts}
use Rattle.session_commands.specs.Table.{row_of}
use Rattle.session_commands.specs.Field.{name_in, value_in, number_in, day_in, weight_in, engine_in, flag_in, action_in}

infixl 10 ◌>>=◌
-- go on with the value, where there is one
abbrev pub ◌>>=◌ : {A B : Type 0} → Option A → (A → Option B) → Option B
o >>= f = option_and_then f o

-- the command that a first word makes of three fields, where each is of the sort that its row asks for
abbrev pub made_of : Verb → Field → Field → Field → Option Command
made_of verb.Quote a b c = name_in a >>= (λ x. value_in b >>= (λ y. Some (command.Quote x y)))
made_of verb.Sum a b c = name_in a >>= (λ x. name_in b >>= (λ y. name_in c >>= (λ z. Some (command.Sum x y z))))
made_of verb.Difference a b c = name_in a >>= (λ x. name_in b >>= (λ y. name_in c >>= (λ z. Some (command.Difference x y z))))
made_of verb.Handle a b c = name_in a >>= (λ x. flag_in b >>= (λ y. Some (command.Handle x y)))
made_of verb.Stock a b c = name_in a >>= (λ x. name_in b >>= (λ y. Some (command.Stock x y)))
made_of verb.Composite a b c = name_in a >>= (λ x. Some (command.Composite x))
made_of verb.Member a b c = name_in a >>= (λ x. name_in b >>= (λ y. weight_in c >>= (λ z. Some (command.Member x y z))))
made_of verb.Set a b c = name_in a >>= (λ x. number_in b >>= (λ y. Some (command.Set x y)))
made_of verb.Unset a b c = name_in a >>= (λ x. Some (command.Unset x))
made_of verb.Link a b c = name_in a >>= (λ x. name_in b >>= (λ y. Some (command.Link x y)))
made_of verb.Unlink a b c = name_in a >>= (λ x. Some (command.Unlink x))
made_of verb.Engine a b c = name_in a >>= (λ x. engine_in b >>= (λ y. Some (command.Engine x y)))
made_of verb.Today a b c = day_in a >>= (λ x. Some (command.Today x))
made_of verb.Fixing a b c = name_in a >>= (λ x. day_in b >>= (λ y. number_in c >>= (λ z. Some (command.Fixing x y z))))
made_of verb.Freeze a b c = name_in a >>= (λ x. Some (command.Freeze x))
made_of verb.Thaw a b c = name_in a >>= (λ x. Some (command.Thaw x))
made_of verb.Recalc a b c = name_in a >>= (λ x. Some (command.Recalc x))
made_of verb.Forward a b c = name_in a >>= (λ x. flag_in b >>= (λ y. Some (command.Forward x y)))
made_of verb.Defer a b c = Some command.Defer
made_of verb.Resume a b c = Some command.Resume
made_of verb.Watch a b c = name_in a >>= (λ x. action_in b >>= (λ y. Some (command.Watch x y)))
made_of verb.Register a b c = name_in a >>= (λ x. name_in b >>= (λ y. Some (command.Register x y)))
made_of verb.Unregister a b c = name_in a >>= (λ x. name_in b >>= (λ y. Some (command.Unregister x y)))
made_of verb.Drop a b c = name_in a >>= (λ x. Some (command.Drop x))
made_of verb.Ask a b c = name_in a >>= (λ x. Some (command.Ask x))
made_of verb.Df a b c = name_in a >>= (λ x. day_in b >>= (λ y. Some (command.Df x y)))

-- the command that parts make
unfoldable pub command_of : Parts → Option Command
command_of p = made_of p.verb p.first p.second p.third

-- the command that stands there; `defer` stands where none does, which no parts of a row's sorts come to
abbrev pub the_command : Option Command → Command
the_command (Some command) = command
the_command None = command.Defer

-- a first word and three fields as parts
abbrev pub together : Verb → Field → Field → Field → Parts
together v first second third = record { verb = v; first = first; second = second; third = third }

-- the first word of a command and its fields
unfoldable pub parts_of : Command → Parts
parts_of (command.Quote a b) = together verb.Quote (Name a) (Value b) Nothing
parts_of (command.Sum a b c) = together verb.Sum (Name a) (Name b) (Name c)
parts_of (command.Difference a b c) = together verb.Difference (Name a) (Name b) (Name c)
parts_of (command.Handle a b) = together verb.Handle (Name a) (Flag b) Nothing
parts_of (command.Stock a b) = together verb.Stock (Name a) (Name b) Nothing
parts_of (command.Composite a) = together verb.Composite (Name a) Nothing Nothing
parts_of (command.Member a b c) = together verb.Member (Name a) (Name b) (Weight c)
parts_of (command.Set a b) = together verb.Set (Name a) (Number b) Nothing
parts_of (command.Unset a) = together verb.Unset (Name a) Nothing Nothing
parts_of (command.Link a b) = together verb.Link (Name a) (Name b) Nothing
parts_of (command.Unlink a) = together verb.Unlink (Name a) Nothing Nothing
parts_of (command.Engine a b) = together verb.Engine (Name a) (Engine b) Nothing
parts_of (command.Today a) = together verb.Today (Day a) Nothing Nothing
parts_of (command.Fixing a b c) = together verb.Fixing (Name a) (Day b) (Number c)
parts_of (command.Freeze a) = together verb.Freeze (Name a) Nothing Nothing
parts_of (command.Thaw a) = together verb.Thaw (Name a) Nothing Nothing
parts_of (command.Recalc a) = together verb.Recalc (Name a) Nothing Nothing
parts_of (command.Forward a b) = together verb.Forward (Name a) (Flag b) Nothing
parts_of command.Defer = together verb.Defer Nothing Nothing Nothing
parts_of command.Resume = together verb.Resume Nothing Nothing Nothing
parts_of (command.Watch a b) = together verb.Watch (Name a) (Action b) Nothing
parts_of (command.Register a b) = together verb.Register (Name a) (Name b) Nothing
parts_of (command.Unregister a b) = together verb.Unregister (Name a) (Name b) Nothing
parts_of (command.Drop a) = together verb.Drop (Name a) Nothing Nothing
parts_of (command.Ask a) = together verb.Ask (Name a) Nothing Nothing
parts_of (command.Df a b) = together verb.Df (Name a) (Day b) Nothing

-- the first word of a command
abbrev pub command_word : Command → List ℕ
command_word command = (row_of (parts_of command).verb).word
