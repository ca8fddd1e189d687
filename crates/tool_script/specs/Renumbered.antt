-- A scenario in a session that numbers its names otherwise: each name has the number of its text there (this project's profile).
use Rattle.std.specs.Prelude.{◌≡◌, ◌≢◌, ℕ, ◌<◌, true, List, [], ◌∷◌, map, codes, length, All, AllPairs, Option, Some, None, option_map}
use Rattle.desk_names.specs.Names.{has_text, place_of}
use Rattle.desk_terms.specs.declared.terms.Terms.{Terms}
use Rattle.price_report.specs.Namer.{name_text}
use Rattle.session_commands.specs.declared.field.Field.{Field}
use Rattle.session_commands.specs.declared.field.Field.TheVariants.{Nothing, Name, Value, Number, Day, Weight, Engine, Flag, Action}
use Rattle.session_commands.specs.declared.command.Command.{Command}
use Rattle.session_commands.specs.Parts.{parts_of, together, command_of, the_command}
use Rattle.session_commands.specs.Whole.{IsCommand}
use Rattle.session_model.specs.Wider.{AreNamed}
use Rattle.tool_script.specs.Scenario.{Basis, Scenario}

-- the number among others of a name that has this number among names
abbrev pub renumber : List (List ℕ) → List (List ℕ) → ℕ → ℕ
renumber names others name = place_of others (name_text names name)

-- what a field holds, by other numbers of names
abbrev pub renumbered_field : (ℕ → ℕ) → Field → Field
renumbered_field number Nothing = Nothing
renumbered_field number (Name name) = Name (number name)
renumbered_field number (Value value) = Value value
renumbered_field number (Number units) = Number units
renumbered_field number (Day day) = Day day
renumbered_field number (Weight weight) = Weight weight
renumbered_field number (Engine engine) = Engine (option_map number engine)
renumbered_field number (Flag flag) = Flag flag
renumbered_field number (Action action) = Action action

-- THE SAME COMMAND by other numbers of names
abbrev pub renumbered : (ℕ → ℕ) → Command → Command
renumbered number command =
    the_command (command_of (together (parts_of command).verb (renumbered_field number (parts_of command).first)
    (renumbered_field number (parts_of command).second) (renumbered_field number (parts_of command).third)))

abbrev pub renumbered_all : (ℕ → ℕ) → List Command → List Command
renumbered_all number commands = map (renumbered number) commands

-- the objects of a market
abbrev pub renumbered_made : (ℕ → ℕ) → List (ℕ × Terms) → List (ℕ × Terms)
renumbered_made number [] = []
renumbered_made number (entry ∷ made) = (number entry.0, entry.1) ∷ renumbered_made number made

-- the same scenario
abbrev pub renumbered_scenario : (ℕ → ℕ) → Scenario → Scenario
renumbered_scenario number scenario =
    record { name = option_map number scenario.name; moves = renumbered_all number scenario.moves }

abbrev pub renumbered_scenarios : (ℕ → ℕ) → List Scenario → List Scenario
renumbered_scenarios number scenarios = map (renumbered_scenario number) scenarios

-- scenarios over a market, and what is asked in each
pub record Sheet : Type 0 where
  pub basis : Basis
  pub asks : List Command
  pub scenarios : List Scenario

-- the same market in sessions of other names
abbrev pub basis_among : List (List ℕ) → Basis → Basis
basis_among others basis =
    record { names = others; today = basis.today; made = renumbered_made (renumber basis.names others) basis.made }

-- THE SAME SHEET in sessions of other names
abbrev pub among : List (List ℕ) → Sheet → Sheet
among others sheet = record {
  basis = basis_among others sheet.basis;
  asks = renumbered_all (renumber sheet.basis.names others) sheet.asks;
  scenarios = renumbered_scenarios (renumber sheet.basis.names others) sheet.scenarios;
}

-- no name, or one of so many
abbrev pub IsLabel : ℕ → Option ℕ → Type 0
IsLabel names None = Unit {0}
IsLabel names (Some name) = name < names

-- a scenario has one of so many names, or none, and its moves speak of these
pub record IsScenario (names : ℕ) (scenario : Scenario) : Type 0 where
  pub name : IsLabel names scenario.name
  pub moves : All (IsCommand names 0) scenario.moves

-- a sheet speaks of the names of its market's sessions, no two of them the same, `today` and those of the market among them
pub record IsSheet (sheet : Sheet) : Type 0 where
  pub distinct : AllPairs (λ one other. one ≢ other) sheet.basis.names
  pub today : has_text sheet.basis.names (codes "today") ≡ true
  pub made : AreNamed (length sheet.basis.names) sheet.basis.made
  pub asks : All (IsCommand (length sheet.basis.names) 0) sheet.asks
  pub scenarios : All (IsScenario (length sheet.basis.names)) sheet.scenarios

-- the texts of names are among others
abbrev pub Hold : List (List ℕ) → List (List ℕ) → Type 0
Hold others names = All (λ text. has_text others text ≡ true) names
