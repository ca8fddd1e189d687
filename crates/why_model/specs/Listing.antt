-- Which objects an answer lists, and in which order (this project's profile).
use Rattle.std.specs.Prelude.{ℕ, zero, suc, Bool, ◌&&◌, ◌||◌, ◌==◌, if◌then◌else◌, List, [], ◌∷◌, ◌++◌, length}
use Rattle.std.specs.List.{list_any}
use Rattle.desk_model.specs.Market.{edges}
use Rattle.desk_model.specs.State.{State, is_frozen, is_late}
use Rattle.desk_model.specs.Links.{is_lazy_at}

-- whether a priced object shows its last value, whatever stands beneath it: it is frozen or late
abbrev pub shows_last : State → ℕ → Bool
shows_last s o = is_lazy_at s.market o && (is_frozen s o || is_late s o)

-- What an object's value rests on, in the order of its edges: of one that shows its last value nothing is known, since what
-- that was computed from may have moved.
abbrev pub rests_on : State → ℕ → List ℕ
rests_on s o = if shows_last s o then [] else edges s.market o

-- an object is among those of a list
abbrev pub is_listed : List ℕ → ℕ → Bool
is_listed list o = list_any (λ x. x == o) list

-- objects one after the other, each put behind a list as `put` does it
abbrev pub each_put : (List ℕ → ℕ → List ℕ) → List ℕ → List ℕ → List ℕ
each_put put list [] = list
each_put put list (o ∷ os) = each_put put (put list o) os

-- a list, and behind it an object that it does not have, and then those that this one reads, depth first, over paths of at
-- most n objects
unfoldable pub with_object : (ℕ → List ℕ) → ℕ → List ℕ → ℕ → List ℕ
with_object reads zero list o = list
with_object reads (suc n) list o =
    if is_listed list o then list else each_put (with_object reads n) (list ++ o ∷ []) (reads o)

-- THE OBJECTS OF AN ANSWER for o: o, and what it rests on
unfoldable pub listing : State → ℕ → List ℕ
listing s o = with_object (rests_on s) (suc (length s.market.objects)) [] o
