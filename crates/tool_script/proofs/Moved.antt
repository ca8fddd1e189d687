-- Moves and asks neither freeze nor defer.
use Rattle.std.proofs.Common.{◌≡◌, ℕ, Bool, true, false, List, [], ◌∷◌, ◌++◌, refl, sym, subst, All}
use Rattle.std.proofs.lemmas.List.Elements.{All-nil, All-weaker, All-append}
use Rattle.desk_terms.specs.Reading.{Calc}
use Rattle.session_commands.specs.declared.command.Command.{Command}
use Rattle.session_commands.specs.declared.command.Command.TheVariants as command
use Rattle.session_model.specs.Afresh.{holds_nothing, AreAskedAfresh}
use Rattle.desk_terms.specs.declared.terms.Terms.{Terms}
use Rattle.desk_model.specs.Effect as effect
use Rattle.session_model.specs.Moments.{moments}
use Rattle.session_model.specs.Standing.{Standing, with_objects, start_of}
use Rattle.session_model.proofs.Afresh.{plain_afresh, begins_unheld}
use Rattle.tool_script.specs.Kinds.{is_move, is_ask}
use Rattle.tool_script.specs.Scenario.{Basis, Scenario, ordered, first_of}

pub move_holds : (c : Command) → is_move c ≡ true → holds_nothing c ≡ true
move_holds (command.Quote name value) is = absurd (cc)
move_holds (command.Sum name a b) is = absurd (cc)
move_holds (command.Difference name a b) is = absurd (cc)
move_holds (command.Handle name is_curve) is = absurd (cc)
move_holds (command.Stock name q) is = absurd (cc)
move_holds (command.Composite name) is = absurd (cc)
move_holds (command.Member k i weight) is = refl
move_holds (command.Set q value) is = refl
move_holds (command.Unset q) is = refl
move_holds (command.Link h t) is = refl
move_holds (command.Unlink h) is = refl
move_holds (command.Engine i e) is = refl
move_holds (command.Today day) is = refl
move_holds (command.Fixing x day rate) is = refl
move_holds (command.Freeze o) is = absurd (cc)
move_holds (command.Thaw o) is = absurd (cc)
move_holds (command.Recalc o) is = absurd (cc)
move_holds (command.Forward o is_on) is = absurd (cc)
move_holds command.Defer is = absurd (cc)
move_holds command.Resume is = absurd (cc)
move_holds (command.Watch w action) is = absurd (cc)
move_holds (command.Register w o) is = absurd (cc)
move_holds (command.Unregister w o) is = absurd (cc)
move_holds (command.Drop o) is = absurd (cc)
move_holds (command.Ask o) is = absurd (cc)
move_holds (command.Df c day) is = absurd (cc)

pub ask_holds : (c : Command) → is_ask c ≡ true → holds_nothing c ≡ true
ask_holds (command.Quote name value) is = absurd (cc)
ask_holds (command.Sum name a b) is = absurd (cc)
ask_holds (command.Difference name a b) is = absurd (cc)
ask_holds (command.Handle name is_curve) is = absurd (cc)
ask_holds (command.Stock name q) is = absurd (cc)
ask_holds (command.Composite name) is = absurd (cc)
ask_holds (command.Member k i weight) is = absurd (cc)
ask_holds (command.Set q value) is = absurd (cc)
ask_holds (command.Unset q) is = absurd (cc)
ask_holds (command.Link h t) is = absurd (cc)
ask_holds (command.Unlink h) is = absurd (cc)
ask_holds (command.Engine i e) is = absurd (cc)
ask_holds (command.Today day) is = absurd (cc)
ask_holds (command.Fixing x day rate) is = absurd (cc)
ask_holds (command.Freeze o) is = absurd (cc)
ask_holds (command.Thaw o) is = absurd (cc)
ask_holds (command.Recalc o) is = absurd (cc)
ask_holds (command.Forward o is_on) is = absurd (cc)
ask_holds command.Defer is = absurd (cc)
ask_holds command.Resume is = absurd (cc)
ask_holds (command.Watch w action) is = absurd (cc)
ask_holds (command.Register w o) is = absurd (cc)
ask_holds (command.Unregister w o) is = absurd (cc)
ask_holds (command.Drop o) is = absurd (cc)
ask_holds (command.Ask o) is = refl
ask_holds (command.Df c day) is = absurd (cc)

pub all_hold : (moves asks : List Command) → All (λ c. is_move c ≡ true) moves → All (λ c. is_ask c ≡ true) asks
    → All (λ c. holds_nothing c ≡ true) (moves ++ asks)
all_hold moves asks are_moves are_asks =
    All-append (λ c. holds_nothing c ≡ true) moves asks
    (All-weaker (λ c. is_move c ≡ true) (λ c. holds_nothing c ≡ true) move_holds moves are_moves)
    (All-weaker (λ c. is_ask c ≡ true) (λ c. holds_nothing c ≡ true) ask_holds asks are_asks)

-- the objects of a market bring no action
actions_stay : (made : List (ℕ × Terms)) (p : Standing) → (with_objects made p).actions ≡ p.actions
unfolding with_objects
actions_stay [] p = refl
actions_stay (entry ∷ made) p =
    actions_stay made (record p { state = effect.made entry.1 p.state; of_object = p.of_object ++ entry.0 ∷ [] })

pub first_actions : (basis : Basis) → (first_of basis).standing.actions ≡ []
first_actions basis = actions_stay basis.made (start_of basis.today basis.names [])

pub are_afresh : (calc : Calc) (basis : Basis) (asks : List Command) (scenario : Scenario)
    → All (λ c. is_move c ≡ true) scenario.moves → All (λ c. is_ask c ≡ true) asks
    → All (λ moment. AreAskedAfresh calc moment.standing) (moments (ordered calc) (first_of basis) (scenario.moves ++ asks))
are_afresh calc basis asks scenario are_moves are_asks =
    plain_afresh (ordered calc) (first_of basis) (scenario.moves ++ asks)
    (begins_unheld basis.today basis.names basis.made [])
    (all_hold scenario.moves asks are_moves are_asks)
    (subst (λ (actions : List (List Command)). All (λ action. All (λ c. holds_nothing c ≡ true) action) actions)
    (sym (first_actions basis)) (All-nil (λ action. All (λ c. holds_nothing c ≡ true) action)))
