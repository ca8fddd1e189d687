-- A front of the steps is that of its own blocks.
use Rattle.std.proofs.Common.{◌≡◌, ℕ, zero, suc, List, [], ◌∷◌, ◌++◌, take, drop, Some, refl, sym, ◌∙◌, ap}
use Rattle.std.proofs.lemmas.List.{append_assoc, take-append-drop}
use Rattle.desk_terms.specs.Reading.{Calc}
use Rattle.session_commands.specs.declared.command.Command.{Command}
use Rattle.session_commands.specs.declared.script.Script.{Script}
use Rattle.watch_rounds.specs.declared.picker.Order.{Order}
use Rattle.session_model.specs.Course.{Running}
use Rattle.tool_script.specs.Scenario.{Basis, Scenario, first_of}
use Rattle.tool_script.specs.Grid.{base, blocks}
use Rattle.tool_runs.specs.Explanation.{steps_of}
use Rattle.tool_runs.specs.ExplainLaws.{Agree, IsAlike, front}
use Rattle.tool_runs.specs.Steps.{behind, step_text, step_texts, step_rows, step_calls}

-- the first blocks are those of the first names and of the first moves
blocks_front : (k : ℕ) (names : List ℕ) (actions : List (List Command)) → take k (blocks names actions) ≡ blocks (take k names) (take k actions)
blocks_front zero names actions = refl
blocks_front (suc k) [] actions = refl
blocks_front (suc k) (name ∷ names) [] = refl
blocks_front (suc k) (name ∷ names) (moves ∷ actions) =
    ap (λ (l : List Scenario). record { name = Some name; moves = moves } ∷ l) (blocks_front k names actions)

-- the session behind steps
abbrev behind_all : Calc → List Command → List Scenario → Running Order → Running Order
behind_all calc asks [] r = r
behind_all calc asks (step ∷ steps) r = behind_all calc asks steps (behind calc asks step r)

texts_joined : (calc : Calc) (names : List (List ℕ)) (asks : List Command) (first second : List Scenario) (r : Running Order)
    → step_texts calc names asks (first ++ second) r
    ≡ step_texts calc names asks first r ++ step_texts calc names asks second (behind_all calc asks first r)
unfolding step_texts
texts_joined calc names asks [] second r = refl
texts_joined calc names asks (step ∷ first) second r =
    ap (λ (l : List ℕ). step_text calc names asks step r ++ l) (texts_joined calc names asks first second (behind calc asks step r))
    ∙ sym (append_assoc (step_text calc names asks step r) (step_texts calc names asks first (behind calc asks step r))
    (step_texts calc names asks second (behind_all calc asks first (behind calc asks step r))))

module _ (one other : Script) (k : ℕ) (agree : Agree one other k) where
  same_front : front one k ≡ front other k
  same_front =
      ap (λ (l : List Scenario). base ∷ l)
      (blocks_front k one.action_names one.actions
      ∙ ap (λ (names : List ℕ). blocks names (take k one.actions)) agree.names
      ∙ ap (λ (actions : List (List Command)). blocks (take k other.action_names) actions) agree.moves
      ∙ sym (blocks_front k other.action_names other.actions))

  -- what asks and steps give is the same
  same_of : {X : Type 0} → (f : List Command → List Scenario → X) → f one.commands (front one k) ≡ f other.commands (front other k)
  same_of f =
      ap (λ (asks : List Command). f asks (front one k)) agree.asks
      ∙ ap (λ (steps : List Scenario). f other.commands steps) same_front

pub stand_alone : (calc : Calc) (basis : Basis) (one other : Script) (k : ℕ) → Agree one other k → IsAlike calc basis one other k
stand_alone calc basis one other k agree = record {
  texts = same_of one other k agree (λ asks steps. step_texts calc basis.names asks steps (first_of basis));
  rows = same_of one other k agree (λ asks steps. step_rows calc asks steps (first_of basis));
  calls = same_of one other k agree (λ asks steps. step_calls calc asks steps (first_of basis));
  stands = (
    step_texts calc basis.names one.commands (drop (suc k) (steps_of one)) (behind_all calc one.commands (front one k) (first_of basis)),
    ap (λ (steps : List Scenario). step_texts calc basis.names one.commands steps (first_of basis))
        (sym (take-append-drop (suc k) (steps_of one)))
        ∙ texts_joined calc basis.names one.commands (front one k) (drop (suc k) (steps_of one)) (first_of basis),
  );
}
