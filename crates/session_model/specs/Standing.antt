-- A session with its names.
use Rattle.std.specs.Prelude.{ℕ, ◌+◌, Bool, false, ◌&&◌, ◌||◌, ◌==◌, nat_le, if◌then◌else◌, ℤ, List, [], ◌∷◌, ◌++◌, codes, length, replicate, slice_index_or, Option, Some, None}
use Rattle.desk_names.specs.Names.{place_of}
use Rattle.desk_terms.specs.declared.terms.Terms.{Terms}
use Rattle.session_commands.specs.declared.command.Command.{Command}
use Rattle.session_commands.specs.Whole.{IsCommand}
use Rattle.desk_model.specs.Market.{Market, slot_at, is_given, live_count}
use Rattle.desk_model.specs.State.{State}
use Rattle.desk_model.specs.Effect as effect
use Rattle.session_model.specs.declared.limits.TheConstants.{MOST_LIVE, MOST_NUMBERS}

-- a session: the state of its objects, the texts of its names by number, the name of each object by the object's
-- number, the actions of its script, by the number of each name the action of its watcher, and whether it is stopped,
-- because memory ran out in a command
pub record Standing : Type 0 where
  pub state : State
  pub names : List (List ℕ)
  pub of_object : List ℕ
  pub actions : List (List Command)
  pub watching : List (Option ℕ)
  pub stopped : Bool

-- a session that has this day, these names and actions, and no object but `today`
abbrev pub start_of : ℤ → List (List ℕ) → List (List Command) → Standing
start_of today names actions =
    record {
      state = effect.start today;
      names = names;
      of_object = place_of names (codes "today") ∷ [];
      actions = actions;
      watching = replicate (length names) None;
      stopped = false;
    }

-- the session with these objects made, in order: each has its name's number and its terms
unfoldable pub with_objects : List (ℕ × Terms) → Standing → Standing
with_objects [] p = p
with_objects (entry ∷ made) p =
    with_objects made
    (record p { state = effect.made entry.1 p.state; of_object = p.of_object ++ entry.0 ∷ [] })

-- a new session over a market: this day, these names and actions, and the market's objects; no value is current
abbrev pub start_with : ℤ → List (List ℕ) → List (ℕ × Terms) → List (List Command) → Standing
start_with today names made actions = with_objects made (start_of today names actions)

-- the name of an object
abbrev pub name_of : Standing → ℕ → ℕ
name_of p o = slice_index_or p.of_object o 0

-- the first live object with a name, where the objects from number o on have these names
unfoldable pub named_from : Market → ℕ → ℕ → List ℕ → Option ℕ
named_from market name o [] = None
named_from market name o (other ∷ others) =
    if (other == name) && is_given (slot_at market o) then Some o else named_from market name (o + 1) others

-- the live object that has a name
abbrev pub object_named : Standing → ℕ → Option ℕ
object_named p name = named_from p.state.market name 0 p.of_object

-- no object more finds room: as many live, or as many numbers were given, as may be (this project's profile)
unfoldable pub is_full : Market → Bool
is_full market = nat_le MOST_LIVE (live_count market) || nat_le MOST_NUMBERS (length market.objects)

-- the names and actions of a command are among those of the session
abbrev pub IsKnown : Standing → Command → Type 0
IsKnown p command = IsCommand (length p.names) (length p.actions) command
