-- What a session of a market's objects holds of its names and actions: those that it was given, whatever is made in it.
use Rattle.std.proofs.Common.{◌≡◌, ℕ, false, List, [], ◌∷◌, ◌++◌, length, ℤ, refl, sym, ◌∙◌, ap, subst}
use Rattle.std.specs.Prelude.{All}
use Rattle.desk_terms.specs.declared.terms.Terms.{Terms}
use Rattle.desk_model.specs.Effect as effect
use Rattle.session_commands.specs.declared.command.Command.{Command}
use Rattle.session_commands.specs.Whole.{IsCommand}
use Rattle.session_model.specs.Standing.{Standing, with_objects, start_with, IsKnown}

-- objects are made in a session that goes on, with its names and its actions
objects_running : (made : List (ℕ × Terms)) (p : Standing) → (with_objects made p).stopped ≡ p.stopped
unfolding with_objects
objects_running [] p = refl
objects_running (entry ∷ made) p =
    objects_running made (record p { state = effect.made entry.1 p.state; of_object = p.of_object ++ entry.0 ∷ [] })

objects_names : (made : List (ℕ × Terms)) (p : Standing) → (with_objects made p).names ≡ p.names
unfolding with_objects
objects_names [] p = refl
objects_names (entry ∷ made) p =
    objects_names made (record p { state = effect.made entry.1 p.state; of_object = p.of_object ++ entry.0 ∷ [] })

objects_actions : (made : List (ℕ × Terms)) (p : Standing) → (with_objects made p).actions ≡ p.actions
unfolding with_objects
objects_actions [] p = refl
objects_actions (entry ∷ made) p =
    objects_actions made (record p { state = effect.made entry.1 p.state; of_object = p.of_object ++ entry.0 ∷ [] })

pub starts_running : (today : ℤ) (names : List (List ℕ)) (made : List (ℕ × Terms)) (actions : List (List Command))
    (session : Standing) → session ≡ start_with today names made actions → session.stopped ≡ false
starts_running today names made actions session is =
    ap (λ (p : Standing). p.stopped) is ∙ objects_running made _

pub starts_actions : (today : ℤ) (names : List (List ℕ)) (made : List (ℕ × Terms)) (actions : List (List Command))
    (session : Standing) → session ≡ start_with today names made actions → session.actions ≡ actions
starts_actions today names made actions session is =
    ap (λ (p : Standing). p.actions) is ∙ objects_actions made _

pub starts_names : (today : ℤ) (names : List (List ℕ)) (made : List (ℕ × Terms)) (actions : List (List Command))
    (session : Standing) → session ≡ start_with today names made actions → session.names ≡ names
starts_names today names made actions session is =
    ap (λ (p : Standing). p.names) is ∙ objects_names made _

-- commands of the names and actions that it was given are known to it
pub starts_known : (today : ℤ) (names : List (List ℕ)) (made : List (ℕ × Terms)) (actions : List (List Command))
    (session : Standing) (commands : List Command) → session ≡ start_with today names made actions
    → All (IsCommand (length names) (length actions)) commands → All (IsKnown session) commands
starts_known today names made actions session commands is whole =
    subst (λ (n : List (List ℕ)). All (λ c. IsCommand (length n) (length session.actions) c) commands)
    (sym (starts_names today names made actions session is))
    (subst (λ (a : List (List Command)). All (λ c. IsCommand (length names) (length a) c) commands)
    (sym (starts_actions today names made actions session is)) whole)

-- and so are those of its actions
pub starts_acting : (today : ℤ) (names : List (List ℕ)) (made : List (ℕ × Terms)) (actions : List (List Command))
    (session : Standing) → session ≡ start_with today names made actions
    → All (λ block. All (IsCommand (length names) (length actions)) block) actions
    → All (λ block. All (IsKnown session) block) session.actions
starts_acting today names made actions session is whole =
    subst (λ (l : List (List Command)). All (λ block. All (IsKnown session) block) l)
    (sym (starts_actions today names made actions session is))
    (subst (λ (n : List (List ℕ)). All (λ block. All (λ c. IsCommand (length n) (length session.actions) c) block) actions)
    (sym (starts_names today names made actions session is))
    (subst (λ (a : List (List Command)). All (λ block. All (λ c. IsCommand (length names) (length a) c) block) actions)
    (sym (starts_actions today names made actions session is)) whole))
