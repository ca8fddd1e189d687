-- The state of a session: its market, what it stores of each object, deferral and the registrations of watchers.
use Rattle.std.specs.Prelude.{ℕ, suc, Bool, true, false, ◌+◌, ◌==◌, List, [], ◌∷◌, length, Option, Some, None, slice_index_or, Ok, Err, not, ◌||◌, ◌&&◌, if◌then◌else◌}
use Rattle.walks.specs.Walk.{below_by}
use Rattle.desk_terms.specs.declared.value.Value.{Value}
use Rattle.desk_terms.specs.declared.cause.Cause.TheVariants.{Unpriced}
use Rattle.desk_terms.specs.declared.asked.Mark.{Mark}
use Rattle.desk_terms.specs.declared.asked.Mark.TheVariants.{Fresh, Frozen, Late, Held}
use Rattle.desk_terms.specs.Reading.{Outcome, Calc}
use Rattle.desk_model.specs.declared.kept.Kept.{Kept}
use Rattle.desk_model.specs.Market.{Market, edges, least_where}
use Rattle.desk_model.specs.Fresh.{answer_by, priced_by, fresh}

-- `registrations` are the pairs of a watcher and an object that it watches, by watcher and then by object, each once;
-- `noticed` are the watchers that were told and not yet handed out, by creation.
pub record State : Type 0 where
  pub market : Market
  pub kept : List Kept
  pub deferring : Bool
  pub registrations : List (ℕ × ℕ)
  pub noticed : List ℕ

-- an object of which nothing is stored yet
abbrev pub unpriced : Kept
unpriced = record { current = false; last = None; frozen = false; forward = false; source = false }

abbrev pub kept_at : State → ℕ → Kept
kept_at state o = slice_index_or state.kept o unpriced

-- the last value of an object
abbrev pub last_of : ℕ → Option Value → Outcome
last_of o (Some value) = Ok value
last_of o None = Err (Unpriced o)

abbrev pub last_answer : State → ℕ → Outcome
last_answer state o = last_of o (kept_at state o).last

unfoldable pub is_frozen : State → ℕ → Bool
is_frozen state o = (kept_at state o).frozen

unfoldable pub is_source : State → ℕ → Bool
is_source state o = (kept_at state o).source

-- LATE: a deferred source is o itself, or lies beneath it on a path of edges whose inner objects are not frozen
unfoldable pub is_late : State → ℕ → Bool
is_late state o =
    is_source state o
    || below_by (edges state.market) (is_source state) (λ x. not (is_frozen state x)) (suc (length state.market.objects)) o

-- whether the notice that x holds back makes o late
unfoldable pub is_late_of : State → ℕ → ℕ → Bool
is_late_of state o x =
    is_source state x
    && ((x == o) || below_by (edges state.market) (λ y. y == x) (λ y. not (is_frozen state y)) (suc (length state.market.objects)) o)

-- the least deferred source that makes o late
unfoldable pub least_source : State → ℕ → Option ℕ
least_source state o = least_where (is_late_of state o) (length state.market.objects)

abbrev pub is_held_back : State → ℕ → Bool
is_held_back state o = is_frozen state o || is_source state o

-- CLEAR: neither o nor any object beneath it is frozen or a deferred source
unfoldable pub is_clear : State → ℕ → Bool
is_clear state o = not (is_held_back state o || below_by (edges state.market) (is_held_back state) (λ x. true) (suc (length state.market.objects)) o)

-- what an object answers without a price, whatever the market: its last value where it is frozen or late
unfoldable pub held_outcome : State → ℕ → Option Outcome
held_outcome state o = if is_frozen state o || is_late state o then Some (last_answer state o) else None

-- SEEN: what an ask of o answers. Whether o is current does not occur here.
unfoldable pub seen_outcome : Calc → State → ℕ → Outcome
seen_outcome calc state o = answer_by calc state.market (held_outcome state) (suc (length state.market.objects)) o

-- the price of o over what is seen of the objects that it needs
unfoldable pub now : Calc → State → ℕ → Outcome
now calc state o = priced_by calc state.market (seen_outcome calc state) o

-- how the answer stands to the market of its moment (this project's profile)
unfoldable pub mark_of : State → ℕ → Mark
mark_of state o =
    if is_frozen state o
    then Frozen
    else if is_late state o
    then Late
    else if is_clear state o
    then Fresh
    else Held

-- WHAT AN ASK SHOWS: the price afresh where the object is clear, else what is seen
unfoldable pub shows : Calc → State → ℕ → Outcome
shows calc state o = if is_clear state o then fresh calc state.market o else seen_outcome calc state o

-- what is stored of each object, changed by its number
abbrev pub each_kept : (ℕ → Kept → Kept) → ℕ → List Kept → List Kept
each_kept change o [] = []
each_kept change o (kept ∷ rest) = change o kept ∷ each_kept change (o + 1) rest
