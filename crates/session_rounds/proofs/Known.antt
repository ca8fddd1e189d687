-- The commands of a session's actions are known.
use Rattle.std.proofs.Common.{◌≡◌, ◌∙◌, ℕ, zero, suc, List, [], ◌∷◌, Option, Some, ap, subst, sym}
use Rattle.std.specs.Prelude.{slice_get, slice_index_or, All}
use Rattle.std.proofs.lemmas.List.Elements.{All-head, All-tail, All-get_or}
use Rattle.std.proofs.lemmas.Option.{slice_get_within, get_or_from_slice_get}
use Rattle.session_commands.specs.declared.command.Command.{Command}
use Rattle.session_model.specs.Standing.{Standing, IsKnown}
use Rattle.session_rounds.specs.Fits.{AreKnown}

none_there : (i : ℕ) (command : Command) → slice_get [] i ≡ Some command → ⊥
none_there zero command is = cc
none_there (suc i) command is = cc

read : (Q : Command → Type 0) (actions : List (List Command)) (a i : ℕ) (command : Command)
    → All (λ commands. All Q commands) actions → slice_get (slice_index_or actions a []) i ≡ Some command → Q command
read Q [] zero i command all is = absurd (none_there i command is)
read Q [] (suc a) i command all is = absurd (none_there i command is)
read Q (commands ∷ actions) zero i command all is =
    subst Q (get_or_from_slice_get commands i command command is)
    (All-get_or Q commands i command (slice_get_within commands i command is)
    (All-head (λ commands. All Q commands) commands actions all))
read Q (commands ∷ actions) (suc a) i command all is =
    read Q actions a i command (All-tail (λ commands. All Q commands) commands actions all) is

-- the command at a place of an action
pub known_at : (p : Standing) (action at : ℕ) (command : Command) → AreKnown p
    → slice_get (slice_index_or p.actions action []) at ≡ Some command → IsKnown p command
known_at p action at command known is = read (IsKnown p) p.actions action at command known is

-- it is that of the actions of before, which are the same
pub at_first : (actions first : List (List Command)) (action at : ℕ) (found : Option Command) → actions ≡ first
    → found ≡ slice_get (slice_index_or actions action []) at → slice_get (slice_index_or first action []) at ≡ found
at_first actions first action at found same is =
    ap (λ (l : List (List Command)). slice_get (slice_index_or l action []) at) (sym same) ∙ sym is

-- names and actions are the same
pub known_same : (p q : Standing) → q.names ≡ p.names → q.actions ≡ p.actions → AreKnown p → AreKnown q
known_same p q names actions known =
    subst (λ (n : List (List ℕ)). AreKnown (record q { names = n })) (sym names)
    (subst (λ (a : List (List Command)). AreKnown (record q { names = p.names; actions = a })) (sym actions) known)
