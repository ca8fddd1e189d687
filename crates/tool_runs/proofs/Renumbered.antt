-- Steps do not depend on how a session numbers its names.
use Rattle.std.proofs.Common.{◌≡◌, ℕ, ℤ, List, [], ◌∷◌, ◌++◌, length, map, codes, Option, refl, sym, ◌∙◌, ap, subst, All}
use Rattle.std.proofs.lemmas.List.{map-append}
use Rattle.std.proofs.lemmas.List.Elements.{All-nil, All-head, All-tail, All-append}
use Rattle.desk_terms.specs.Reading.{Calc}
use Rattle.session_commands.specs.declared.command.Command.{Command}
use Rattle.session_commands.specs.declared.script.Script.{Script}
use Rattle.session_commands.specs.Whole.{IsCommand}
use Rattle.watch_rounds.specs.declared.picker.Order.{Order}
use Rattle.session_model.specs.Course.{Running}
use Rattle.session_model.specs.Rounds.{transcript, calls_of}
use Rattle.tool_script.specs.Scenario.{Scenario, ordered, first_of, after, values_of}
use Rattle.tool_script.specs.Grid.{label_text}
use Rattle.tool_script.specs.Renumbered.{renumber, renumbered, renumbered_all, renumbered_scenario, renumbered_scenarios, Sheet, basis_among, IsScenario, IsSheet, Hold}
use Rattle.tool_script.proofs.RenumberedRounds.{AreBoth, AreSaid, commands_both, values_both}
use Rattle.tool_script.proofs.Sheets.{numbers, begin, label_same}
use Rattle.tool_runs.specs.ExplainLaws.{IsFront, FrontsLeaveNumbers, front, values_in}
use Rattle.tool_runs.specs.Steps.{commands_of, all_commands, behind, step_text, step_texts, step_rows, step_calls}
use Rattle.tool_runs.proofs.Fronts.{stand_alone}

module _ (calc : Calc) (sheet : Sheet) (others : List (List ℕ)) (is : IsSheet sheet) (hold : Hold others sheet.basis.names) where
  abbrev names : List (List ℕ)
  names = sheet.basis.names

  abbrev by_number : ℕ → ℕ
  by_number = renumber sheet.basis.names others

  abbrev asks_there : List Command
  asks_there = renumbered_all by_number sheet.asks

  abbrev Both : Running Order → Running Order → Type 0
  Both r t = AreBoth names others by_number (numbers calc sheet others is hold) calc r t

  abbrev AreSteps : List Scenario → Type 0
  AreSteps steps = All (IsScenario (length names)) steps

  module _ (step : Scenario) (one : IsScenario (length names) step) where
    known : All (IsCommand (length names) 0) (commands_of sheet.asks step)
    known = All-append (IsCommand (length names) 0) step.moves sheet.asks one.moves is.asks

    split : commands_of asks_there (renumbered_scenario by_number step) ≡ renumbered_all by_number (commands_of sheet.asks step)
    split = sym (map-append (renumbered by_number) step.moves sheet.asks)

    module _ (r t : Running Order) (both : Both r t) where
      said : AreSaid names others by_number (numbers calc sheet others is hold) calc r t (commands_of sheet.asks step)
      said = commands_both names others by_number (numbers calc sheet others is hold) calc (commands_of sheet.asks step) r t both known

      step_same : step_text calc others asks_there (renumbered_scenario by_number step) t ≡ step_text calc names sheet.asks step r
      step_same =
          ap (λ (label : List ℕ). codes "step " ++ label ++ codes "\n" ++ transcript (ordered calc) t (commands_of asks_there (renumbered_scenario by_number step)))
          (label_same calc sheet others is hold step.name one.name)
          ∙ ap (λ (lines : List ℕ). codes "step " ++ label_text names step.name ++ codes "\n" ++ lines)
          (ap (transcript (ordered calc) t) split ∙ said.lines)

      behind_both : Both (behind calc sheet.asks step r) (behind calc asks_there (renumbered_scenario by_number step) t)
      behind_both = subst (λ (commands : List Command). Both (after calc (commands_of sheet.asks step) r) (after calc commands t)) (sym split) said.next

      shown_same : values_of calc asks_there (after calc (renumbered_all by_number step.moves) t) ≡ values_of calc sheet.asks (after calc step.moves r)
      shown_same =
          let moved = commands_both names others by_number (numbers calc sheet others is hold) calc step.moves r t both one.moves in
          values_both names others by_number (numbers calc sheet others is hold) calc sheet.asks (after calc step.moves r)
          (after calc (renumbered_all by_number step.moves) t) moved.next is.asks

  texts_same : (steps : List Scenario) (r t : Running Order) → AreSteps steps → Both r t
      → step_texts calc others asks_there (renumbered_scenarios by_number steps) t ≡ step_texts calc names sheet.asks steps r
  unfolding step_texts
  texts_same [] r t are both = refl
  texts_same (step ∷ steps) r t are both =
      let one = All-head (IsScenario (length names)) step steps are in
      ap (λ (l : List ℕ). l ++ step_texts calc others asks_there (renumbered_scenarios by_number steps) (behind calc asks_there (renumbered_scenario by_number step) t))
      (step_same step one r t both)
      ∙ ap (λ (l : List ℕ). step_text calc names sheet.asks step r ++ l)
      (texts_same steps (behind calc sheet.asks step r) (behind calc asks_there (renumbered_scenario by_number step) t)
      (All-tail (IsScenario (length names)) step steps are) (behind_both step one r t both))

  values_same : (steps : List Scenario) (r t : Running Order) → AreSteps steps → Both r t
      → map values_in (step_rows calc asks_there (renumbered_scenarios by_number steps) t) ≡ map values_in (step_rows calc sheet.asks steps r)
  unfolding step_rows
  values_same [] r t are both = refl
  values_same (step ∷ steps) r t are both =
      let one = All-head (IsScenario (length names)) step steps are in
      ap (λ (values : List (Option ℤ)). values ∷ map values_in (step_rows calc asks_there (renumbered_scenarios by_number steps) (behind calc asks_there (renumbered_scenario by_number step) t)))
      (shown_same step one r t both)
      ∙ ap (λ (rows : List (List (Option ℤ))). values_of calc sheet.asks (after calc step.moves r) ∷ rows)
      (values_same steps (behind calc sheet.asks step r) (behind calc asks_there (renumbered_scenario by_number step) t)
      (All-tail (IsScenario (length names)) step steps are) (behind_both step one r t both))

  all_split : (steps : List Scenario)
      → all_commands asks_there (renumbered_scenarios by_number steps) ≡ renumbered_all by_number (all_commands sheet.asks steps)
  unfolding all_commands
  all_split [] = refl
  all_split (step ∷ steps) =
      ap (λ (commands : List Command). commands_of asks_there (renumbered_scenario by_number step) ++ commands) (all_split steps)
      ∙ ap (λ (commands : List Command). commands ++ renumbered_all by_number (all_commands sheet.asks steps)) (sym (map-append (renumbered by_number) step.moves sheet.asks))
      ∙ sym (map-append (renumbered by_number) (commands_of sheet.asks step) (all_commands sheet.asks steps))

  all_known : (steps : List Scenario) → AreSteps steps → All (IsCommand (length names) 0) (all_commands sheet.asks steps)
  unfolding all_commands
  all_known [] are = All-nil (IsCommand (length names) 0)
  all_known (step ∷ steps) are =
      All-append (IsCommand (length names) 0) (commands_of sheet.asks step) (all_commands sheet.asks steps)
      (known step (All-head (IsScenario (length names)) step steps are)) (all_known steps (All-tail (IsScenario (length names)) step steps are))

  calls_same : (steps : List Scenario) (r t : Running Order) → AreSteps steps → Both r t
      → step_calls calc asks_there (renumbered_scenarios by_number steps) t ≡ step_calls calc sheet.asks steps r
  calls_same steps r t are both =
      ap (calls_of (ordered calc) t) (all_split steps)
      ∙ (commands_both names others by_number (numbers calc sheet others is hold) calc (all_commands sheet.asks steps) r t both (all_known steps are)).calls

  -- A FRONT OF THE STEPS, by other numbers
  module _ (script : Script) (k : ℕ) (stands : IsFront sheet others script k) where
    -- what asks and steps give
    of_front : {X : Type 0} → (f : List Command → List Scenario → X) → f script.commands (front script k) ≡ f asks_there (renumbered_scenarios by_number sheet.scenarios)
    of_front f =
        ap (λ (asks : List Command). f asks (front script k)) stands.asks
        ∙ ap (λ (steps : List Scenario). f asks_there steps) stands.steps

    abbrev first : Running Order
    first = first_of (basis_among others sheet.basis)

    pub texts_front : step_texts calc others script.commands (front script k) first ≡ step_texts calc names sheet.asks sheet.scenarios (first_of sheet.basis)
    texts_front = of_front (λ asks steps. step_texts calc others asks steps first)
        ∙ texts_same sheet.scenarios (first_of sheet.basis) first is.scenarios (begin calc sheet others is hold)

    pub values_front : map values_in (step_rows calc script.commands (front script k) first) ≡ map values_in (step_rows calc sheet.asks sheet.scenarios (first_of sheet.basis))
    values_front = of_front (λ asks steps. map values_in (step_rows calc asks steps first))
        ∙ values_same sheet.scenarios (first_of sheet.basis) first is.scenarios (begin calc sheet others is hold)

    pub calls_front : step_calls calc script.commands (front script k) first ≡ step_calls calc sheet.asks sheet.scenarios (first_of sheet.basis)
    calls_front = of_front (λ asks steps. step_calls calc asks steps first)
        ∙ calls_same sheet.scenarios (first_of sheet.basis) first is.scenarios (begin calc sheet others is hold)

pub leave_numbers : FrontsLeaveNumbers
leave_numbers calc sheet ones others one other k is holds hold first second = record {
  texts = texts_front calc sheet ones is holds one k first ∙ sym (texts_front calc sheet others is hold other k second);
  values = values_front calc sheet ones is holds one k first ∙ sym (values_front calc sheet others is hold other k second);
  calls = calls_front calc sheet ones is holds one k first ∙ sym (calls_front calc sheet others is hold other k second);
  stands = (stand_alone calc (basis_among ones sheet.basis) one one k (record { asks = refl; names = refl; moves = refl })).stands;
}
