-- What a step shows is what a session of its own shows behind all moves so far.
use Rattle.std.proofs.Common.{◌≡◌, ◌<◌, ℕ, zero, suc, ℤ, true, List, [], ◌∷◌, ◌++◌, length, take, Option, Some, refl, sym, ◌∙◌, ap, subst, arith, slice_get, All}
use Rattle.std.specs.Prelude.{option_map}
use Rattle.std.proofs.lemmas.List.{append_assoc, append-nil}
use Rattle.std.proofs.lemmas.List.Elements.{All-nil, All-head, All-tail, All-append}
use Rattle.desk_terms.specs.Reading.{Calc}
use Rattle.session_commands.specs.declared.command.Command.{Command}
use Rattle.watch_rounds.specs.declared.picker.Order.{Order}
use Rattle.session_model.specs.Afresh.{holds_nothing}
use Rattle.session_model.specs.Course.{Running, round_of}
use Rattle.session_model.proofs.Afresh.{plain_afresh, begins_unheld}
use Rattle.tool_script.specs.Kinds.{is_move, is_ask, asked_name}
use Rattle.tool_script.specs.Scenario.{Basis, Scenario, ordered, first_of, money_shown, after, values_of}
use Rattle.tool_script.proofs.Moved.{all_hold, first_actions}
use Rattle.tool_runs.specs.ExplainLaws.{moves_of, values_in, AreSteps}
use Rattle.tool_runs.specs.Steps.{commands_of, all_commands, behind, step_rows}
use Rattle.tool_runs.proofs.Alike.{IsPlain, AreAlike, same_shown}
use Rattle.tool_runs.proofs.Moving.{move_both, ask_first, ask_both}

abbrev AreMoves : List Command → Type 0
AreMoves commands = All (λ c. is_move c ≡ true) commands

abbrev AreAsks : List Command → Type 0
AreAsks commands = All (λ c. is_ask c ≡ true) commands

module _ (calc : Calc) where
  -- the session behind commands, and behind more of them
  after_both : (first second : List Command) (r : Running Order) → after calc (first ++ second) r ≡ after calc second (after calc first r)
  unfolding after
  after_both [] second r = refl
  after_both (c ∷ first) second r = after_both first second (round_of (ordered calc) r c).next

  moves_both : (moves : List Command) (r t : Running Order) → AreMoves moves → AreAlike r t
      → AreAlike (after calc moves r) (after calc moves t)
  unfolding after
  moves_both [] r t are alike = alike
  moves_both (c ∷ moves) r t are alike =
      moves_both moves (round_of (ordered calc) r c).next (round_of (ordered calc) t c).next
      (All-tail (λ d. is_move d ≡ true) c moves are)
      (move_both calc r t c (All-head (λ d. is_move d ≡ true) c moves are) alike)

  asks_first : (asks : List Command) (r t : Running Order) → AreAsks asks → AreAlike r t → AreAlike (after calc asks r) t
  unfolding after
  asks_first [] r t are alike = alike
  asks_first (c ∷ asks) r t are alike =
      asks_first asks (round_of (ordered calc) r c).next t (All-tail (λ d. is_ask d ≡ true) c asks are)
      (ask_first calc r t c (All-head (λ d. is_ask d ≡ true) c asks are) alike)

  same_values : (asks : List Command) (r t : Running Order) → AreAsks asks → AreAlike r t → values_of calc asks r ≡ values_of calc asks t
  unfolding values_of
  same_values [] r t are alike = refl
  same_values (c ∷ asks) r t are alike =
      ap (λ (shown : Option ℤ). shown ∷ values_of calc asks (round_of (ordered calc) r c).next) (same_shown calc r t (asked_name c) alike)
      ∙ ap (λ (values : List (Option ℤ)). money_shown calc t.standing (asked_name c) ∷ values)
      (same_values asks (round_of (ordered calc) r c).next (round_of (ordered calc) t c).next
      (All-tail (λ d. is_ask d ≡ true) c asks are)
      (ask_both calc r t c (All-head (λ d. is_ask d ≡ true) c asks are) alike))

  module _ (basis : Basis) (asks : List Command) (are_asks : AreAsks asks) where
    -- the session behind some moves alone
    abbrev alone : List Command → Running Order
    alone done = after calc done (first_of basis)

    -- the session of the steps so far, and one that did their moves alone
    shown_by : (steps : List Scenario) (k : ℕ) (r : Running Order) (done : List Command) → All (λ step. AreMoves step.moves) steps
        → k < length steps → AreAlike r (alone done)
        → option_map values_in (slice_get (step_rows calc asks steps r) k)
        ≡ Some (values_of calc asks (alone (done ++ moves_of (take (suc k) steps))))
    unfolding step_rows
    shown_by [] k r done are within alike = absurd (omega (arith, within))
    shown_by (step ∷ steps) zero r done are within alike =
        let moved = moves_both step.moves r (alone done) (All-head (λ s. AreMoves s.moves) step steps are) alike in
        ap (λ (values : List (Option ℤ)). Some values)
        (same_values asks (after calc step.moves r) (after calc step.moves (alone done)) are_asks moved
        ∙ ap (λ (t : Running Order). values_of calc asks t) (sym (after_both done step.moves (first_of basis)))
        ∙ ap (λ (l : List Command). values_of calc asks (alone (done ++ l))) (sym (append-nil step.moves)))
    shown_by (step ∷ steps) (suc k) r done are within alike =
        let moved = moves_both step.moves r (alone done) (All-head (λ s. AreMoves s.moves) step steps are) alike in
        let asked = asks_first asks (after calc step.moves r) (after calc step.moves (alone done)) are_asks moved in
        shown_by steps k (behind calc asks step r) (done ++ step.moves) (All-tail (λ s. AreMoves s.moves) step steps are)
        (omega (arith, within)) (reached asked)
        ∙ ap (λ (l : List Command). Some (values_of calc asks (alone l))) (append_assoc done step.moves (moves_of (take (suc k) steps)))
      where
        reached : AreAlike (after calc asks (after calc step.moves r)) (after calc step.moves (alone done))
            → AreAlike (behind calc asks step r) (alone (done ++ step.moves))
        reached are = rw (after_both step.moves asks r, after_both done step.moves (first_of basis)) are

    first_alike : AreAlike (first_of basis) (first_of basis)
    first_alike = record { alike = record { market = refl; named = refl }; first = plain; second = plain }
      where
        plain : IsPlain (first_of basis).standing
        plain = record { unheld = begins_unheld basis.today basis.names basis.made []; actions = first_actions basis }

    -- no command of the steps freezes or defers
    steps_hold : (steps : List Scenario) → All (λ step. AreMoves step.moves) steps
        → All (λ c. holds_nothing c ≡ true) (all_commands asks steps)
    unfolding all_commands
    steps_hold [] are = All-nil (λ c. holds_nothing c ≡ true)
    steps_hold (step ∷ steps) are =
        All-append (λ c. holds_nothing c ≡ true) (commands_of asks step) (all_commands asks steps)
        (all_hold step.moves asks (All-head (λ s. AreMoves s.moves) step steps are) are_asks)
        (steps_hold steps (All-tail (λ s. AreMoves s.moves) step steps are))

    pub are_steps : (steps : List Scenario) → All (λ step. AreMoves step.moves) steps → AreSteps calc basis asks steps
    unfolding after
    are_steps steps are = record {
      afresh = plain_afresh (ordered calc) (first_of basis) (all_commands asks steps)
          (begins_unheld basis.today basis.names basis.made []) (steps_hold steps are)
          (subst (λ (actions : List (List Command)). All (λ action. All (λ c. holds_nothing c ≡ true) action) actions)
          (sym (first_actions basis)) (All-nil (λ action. All (λ c. holds_nothing c ≡ true) action)));
      shown = λ k within. shown_by steps k (first_of basis) [] are within first_alike;
    }
