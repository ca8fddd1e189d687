-- Grids that are worked through by hand.
use Rattle.std.specs.Prelude.{◌≡◌, ℕ, ◌+◌, true, List, [], ◌∷◌, ◌++◌, codes, pos, Some, None}
use Rattle.desk_terms.specs.declared.terms.Terms.TheVariants as terms
use Rattle.session_commands.specs.declared.command.Command.{Command}
use Rattle.session_commands.specs.declared.command.Command.TheVariants.{Sum, Set, Unset, Link, Engine, Defer, Watch, Ask}
use Rattle.session_commands.specs.declared.script.Script.{Script}
use Rattle.session_model.specs.Rows.{by_hand, units}
use Rattle.tool_script.specs.Scenario.{Basis}
use Rattle.tool_script.specs.Grid.{base, grid, grid_calls}
use Rattle.tool_script.specs.Renumbered.{renumber, renumbered, Sheet, among}
use Rattle.tool_script.specs.GridLaws.{sheet_grid, sheet_worst, less_of}

-- A market of a quote `q` at 3 and a stock `s` on it, by the numbers 1 and 2, and further names: `up`, `gone`, `same` and
-- `z`, by 3 to 6. The bench is worth a stock its quote.
abbrev pub some_basis : Basis
some_basis = record {
  names = codes "today" ∷ codes "q" ∷ codes "s" ∷ codes "up" ∷ codes "gone" ∷ codes "same" ∷ codes "z" ∷ [];
  today = pos 0;
  made = (1, terms.Quote (Some (units 3))) ∷ (2, terms.Stock 1) ∷ [];
}

abbrev pub up : List Command
up = Set 1 (units 2) ∷ []

abbrev pub gone : List Command
gone = Unset 1 ∷ []

abbrev pub script : List ℕ → List (List Command) → List Command → Script
script action_names actions commands = record { actions = actions; commands = commands; action_names = action_names }

abbrev pub written : List ℕ → List (List Command) → List Command → List ℕ
written action_names actions commands = grid by_hand some_basis (script action_names actions commands)

pub record IsWorked : Type 0 where
  pub empty : written [] [] [] ≡ codes "scenario base\n"
  pub moves : written (3 ∷ 4 ∷ []) (up ∷ gone ∷ []) (Ask 2 ∷ [])
      ≡ codes "scenario base\ns 3.000000 fresh 1\nscenario up\ns 2.000000 fresh 1\n"
      ++ codes "scenario gone\ns refused unset q 0\nworst s up 2.000000\n"
  pub turned : written (4 ∷ 3 ∷ []) (gone ∷ up ∷ []) (Ask 2 ∷ [])
      ≡ codes "scenario base\ns 3.000000 fresh 1\nscenario gone\ns refused unset q 0\n"
      ++ codes "scenario up\ns 2.000000 fresh 1\nworst s up 2.000000\n"
  pub same : written (4 ∷ 5 ∷ []) (gone ∷ [] ∷ []) (Ask 2 ∷ [])
      ≡ codes "scenario base\ns 3.000000 fresh 1\nscenario gone\ns refused unset q 0\n"
      ++ codes "scenario same\ns 3.000000 fresh 1\nworst s base 3.000000\n"
  pub calls : grid_calls by_hand some_basis (script (3 ∷ 4 ∷ []) (up ∷ gone ∷ []) (Ask 2 ∷ []))
      ≡ (2, true) ∷ (2, true) ∷ []

pub record AreRefused : Type 0 where
  pub link : written (5 ∷ []) ((Link 2 1 ∷ []) ∷ []) (Ask 2 ∷ Ask 6 ∷ [])
      ≡ codes "scenario base\ns 3.000000 fresh 1\nrefused ask unknown z\nscenario same\nrefused link kind s\n"
      ++ codes "s 3.000000 fresh 1\nrefused ask unknown z\nworst s base 3.000000\nworst z none\n"
  pub twice : written [] [] (Ask 2 ∷ Ask 2 ∷ [])
      ≡ codes "scenario base\ns 3.000000 fresh 1\ns 3.000000 fresh 0\nworst s base 3.000000\nworst s base 3.000000\n"
  pub nothing : written (4 ∷ []) (gone ∷ []) (Ask 1 ∷ [])
      ≡ codes "scenario base\nrefused ask kind q\nscenario gone\nrefused ask kind q\nworst q none\n"

-- the market, an ask of the stock and the scenario `up`, and names in another order, with further ones between them
abbrev pub sheet : Sheet
sheet = record { basis = some_basis; asks = Ask 2 ∷ Ask 6 ∷ []; scenarios = base ∷ record { name = Some 3; moves = up } ∷ [] }

abbrev pub other_names : List (List ℕ)
other_names = codes "up" ∷ codes "s" ∷ codes "new" ∷ codes "z" ∷ codes "today" ∷ codes "q" ∷ codes "same" ∷ codes "gone" ∷ []

abbrev pub further : ℕ → ℕ
further name = name + 10

pub record AreRenumbered : Type 0 where
  pub place : renumber some_basis.names other_names 1 ≡ 5
  pub one : renumbered further (Set 1 (units 2)) ≡ Set 11 (units 2)
  pub three : renumbered further (Sum 1 2 3) ≡ Sum 11 12 13
  pub engine : renumbered further (Engine 1 (Some 2)) ≡ Engine 11 (Some 12)
  pub none : renumbered further (Engine 1 None) ≡ Engine 11 None
  pub action : renumbered further (Watch 1 4) ≡ Watch 11 4
  pub nobody : renumbered further Defer ≡ Defer
  pub made : (among other_names sheet).basis.made ≡ (5, terms.Quote (Some (units 3))) ∷ (1, terms.Stock 1) ∷ []
  pub moves : (among other_names sheet).scenarios ≡ base ∷ record { name = Some 0; moves = Set 5 (units 2) ∷ [] } ∷ []
  pub text : sheet_grid by_hand (among other_names sheet)
      ≡ codes "scenario base\ns 3.000000 fresh 1\nrefused ask unknown z\nscenario up\ns 2.000000 fresh 1\n"
      ++ codes "refused ask unknown z\nworst s up 2.000000\nworst z none\n"
  pub worst : sheet_worst by_hand (among other_names sheet) 0 ≡ Some (codes "up", pos 2_000_000)
  pub less : less_of (Some (codes "a", pos 2)) (Some (codes "b", pos 2)) ≡ Some (codes "a", pos 2)
  pub more : less_of (Some (codes "a", pos 3)) (Some (codes "b", pos 2)) ≡ Some (codes "b", pos 2)
