-- Explanations that are worked through by hand.
use Rattle.std.specs.Prelude.{◌≡◌, ℕ, true, List, [], ◌∷◌, ◌++◌, codes, None}
use Rattle.desk_terms.specs.declared.terms.Terms.TheVariants as terms
use Rattle.session_commands.specs.declared.command.Command.{Command}
use Rattle.session_commands.specs.declared.command.Command.TheVariants.{Link, Ask}
use Rattle.session_model.specs.Rows.{by_hand}
use Rattle.tool_script.specs.Scenario.{Basis}
use Rattle.tool_script.specs.GridRows.{some_basis, up, gone, script}
use Rattle.tool_runs.specs.Explanation.{explanation, explanation_calls}

-- The market of the rows of grids: a quote `q` at 3 and a stock `s` on it. And the same where `q` has no value.
abbrev pub unset_basis : Basis
unset_basis = record some_basis { made = (1, terms.Quote None) ∷ (2, terms.Stock 1) ∷ [] }

abbrev pub written : Basis → List ℕ → List (List Command) → List Command → List ℕ
written basis names blocks asks = explanation by_hand basis (script names blocks asks)

pub record AreExplained : Type 0 where
  pub empty : written some_basis [] [] [] ≡ codes "step base\n"
  pub moves : written some_basis (3 ∷ 4 ∷ []) (up ∷ gone ∷ []) (Ask 2 ∷ [])
      ≡ codes "step base\ns 3.000000 fresh 1\nstep up\ns 2.000000 fresh 1\nstep gone\ns refused unset q 0\n"
      ++ codes "explain s base value 3.000000\nexplain s up gain -1.000000\nexplain s gone none\nexplain s total -1.000000\n"
  pub back : written some_basis (4 ∷ 3 ∷ 5 ∷ []) (gone ∷ up ∷ [] ∷ []) (Ask 2 ∷ [])
      ≡ codes "step base\ns 3.000000 fresh 1\nstep gone\ns refused unset q 0\nstep up\ns 2.000000 fresh 1\n"
      ++ codes "step same\ns 2.000000 fresh 0\nexplain s base value 3.000000\nexplain s gone none\n"
      ++ codes "explain s up gain -1.000000\nexplain s same gain 0.000000\nexplain s total -1.000000\n"
  pub late : written unset_basis (3 ∷ 4 ∷ []) (up ∷ gone ∷ []) (Ask 2 ∷ [])
      ≡ codes "step base\ns refused unset q 0\nstep up\ns 2.000000 fresh 1\nstep gone\ns refused unset q 0\n"
      ++ codes "explain s base none\nexplain s up value 2.000000\nexplain s gone none\nexplain s total 0.000000\n"
  pub calls : explanation_calls by_hand some_basis (script (4 ∷ 3 ∷ 5 ∷ []) (gone ∷ up ∷ [] ∷ []) (Ask 2 ∷ []))
      ≡ (2, true) ∷ (2, true) ∷ []

pub record AreRefused : Type 0 where
  pub link : written some_basis (5 ∷ []) ((Link 2 1 ∷ []) ∷ []) (Ask 2 ∷ Ask 6 ∷ [])
      ≡ codes "step base\ns 3.000000 fresh 1\nrefused ask unknown z\nstep same\nrefused link kind s\n"
      ++ codes "s 3.000000 fresh 0\nrefused ask unknown z\nexplain s base value 3.000000\nexplain s same gain 0.000000\n"
      ++ codes "explain s total 0.000000\nexplain z base none\nexplain z same none\nexplain z total none\n"
