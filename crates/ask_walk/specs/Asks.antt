-- What one ask does.
use Rattle.std.specs.Prelude.{◌≡◌, ◌≢◌, ◌⊎◌, ◌++◌, ◌+◌, ◌≤◌, ◌^◌, ℕ, Bool, true, List, [], ◌∷◌, length, Option, Some, None, Ok, Err, slice_index_or, slice_set, is_none, if◌then◌else◌, ◌||◌}
use Rattle.desk_terms.specs.declared.terms.Terms.{Terms}
use Rattle.desk_terms.specs.declared.value.Value.{Value}
use Rattle.desk_terms.specs.declared.value.Input as input
use Rattle.desk_terms.specs.declared.cause.Cause.{Cause}
use Rattle.desk_terms.specs.declared.cause.Cause.TheVariants.{Unpriced}
use Rattle.desk_terms.specs.declared.asked.Mark.{Mark}
use Rattle.desk_terms.specs.declared.asked.Asked.{Asked}
use Rattle.desk_terms.specs.Reading.{Outcome, Reading, Calc, IsFitting}
use Rattle.desk_terms.specs.Asked.{Shows}
use Rattle.desk_terms.specs.Bench.{counted, logged}
use Rattle.desk_model.specs.declared.kept.Kept.{Kept}
use Rattle.desk_model.specs.Market.{Market, terms_at}
use Rattle.desk_model.specs.Uses.{reading_at}
use Rattle.desk_model.specs.State.{State, kept_at, unpriced, seen_outcome, shows, mark_of, is_frozen, is_late}
use Rattle.desk_model.specs.Visit.{log_of, with_value, runs, stored, asked}
use Rattle.desk_model.specs.Links.{IsWhole, IsKinded, AreRanged, is_lazy_at}
use Rattle.desk_model.specs.Sound.{IsSound}
use Rattle.ask_walk.specs.declared.asking.AtOnce.{AtOnce}
use Rattle.ask_walk.specs.declared.asking.AtOnce.TheVariants as once

-- an ask that was answered: it shows what the definition shows, with its mark and number, makes exactly its calls of the
-- bench, and leaves its state
pub record Asks (calc : Calc) (o : ℕ) (old new : State) (answer : Asked) (count_old count_new : ℕ) (log_old log_new : Option (List (ℕ × Bool))) : Type 0 where
  pub state : new ≡ asked calc o old
  pub shown : Shows answer.cause (kept_at new o).last (shows calc old o)
  pub mark : answer.mark ≡ mark_of old o
  pub number : answer.runs ≡ length (runs calc old o)
  pub count : count_new ≡ counted count_old (length (runs calc old o))
  pub log : log_new ≡ logged log_old (log_of (runs calc old o))

-- A walk that computed what an ask of o computes, and that was answered with this mark.
pub record Walks (calc : Calc) (o : ℕ) (old new : State) (given : Mark) (answer : Asked) (count_old count_new : ℕ) (log_old log_new : Option (List (ℕ × Bool))) : Type 0 where
  pub state : new ≡ asked calc o old
  pub shown : Shows answer.cause (kept_at new o).last (seen_outcome calc old o)
  pub mark : answer.mark ≡ given
  pub number : answer.runs ≡ length (runs calc old o)
  pub count : count_new ≡ counted count_old (length (runs calc old o))
  pub log : log_new ≡ logged log_old (log_of (runs calc old o))

-- why an object that answers its last value has none to answer
abbrev pub lacking : ℕ → Option Value → Option Cause
lacking o (Some value) = None
lacking o None = Some (Unpriced o)

-- WHAT IS ANSWERED WITHOUT A COMPUTATION: an object that is frozen or late shows its last value or that it has none, any
-- other that is current its last value, each with its mark; nothing is answered of an object that is none of these
-- (QuantLib's `LazyObject::calculate`, which does nothing where the object is calculated or frozen)
unfoldable pub held_answer : State → ℕ → Option Asked
held_answer s o =
    if is_frozen s o || is_late s o
    then Some (record { cause = lacking o (kept_at s o).last; mark = mark_of s o; runs = 0 })
    else if (kept_at s o).current
    then Some (record { cause = None; mark = mark_of s o; runs = 0 })
    else None

-- what an ask comes to before anything is computed: this answer, or that none is given yet and the mark that it will have
abbrev pub ComesTo : State → ℕ → AtOnce → Type 0
ComesTo s o (once.Answers answer) = held_answer s o ≡ Some answer
ComesTo s o (once.Walks mark) = (held_answer s o ≡ None) × (mark ≡ mark_of s o)

-- it is what an ask answers, which leaves the state as it is and makes no call of the bench, whatever that has counted and
-- told before
abbrev pub AnswersIdly : Calc → ℕ → State → Asked → Type 0
AnswersIdly calc o s answer = (count : ℕ) (log : Option (List (ℕ × Bool))) → Asks calc o s s answer count count log log

-- An ask for which memory ran out: a front of its calls was made, and what they computed stays. Where the bench itself ran
-- out of memory, it counts one call more.
pub record Stops (calc : Calc) (o : ℕ) (old new : State) (count_old count_new : ℕ) (log_old log_new : Option (List (ℕ × Bool))) : Type 0 where
  pub front : List (ℕ × Outcome)
  pub rest : List (ℕ × Outcome)
  pub whole : runs calc old o ≡ front ++ rest
  pub state : new ≡ stored old front
  pub count : (count_new ≡ counted count_old (length front)) ⊎ ((rest ≢ []) × (count_new ≡ counted count_old (length front + 1)))
  pub log : log_new ≡ logged log_old (log_of front)

-- an object that may be asked for, in a state that is whole and sound, of a bench whose prices fit
pub record MayAsk (calc : Calc) (s : State) (o : ℕ) : Type 0 where
  pub whole : IsWhole s
  pub sound : IsSound calc s
  pub kinds : IsKinded s.market
  pub ranged : AreRanged s.market
  pub lazy : is_lazy_at s.market o ≡ true
  pub fits : IsFitting calc
  pub limit : length s.market.objects ≤ 2 ^ 16

-- what stands on each exit of an ask, also where memory ran out half way
pub record Stays (calc : Calc) (new : State) : Type 0 where
  pub whole : IsWhole new
  pub sound : IsSound calc new

-- one computation: the value is stored, or the cause is answered
abbrev pub IsComputed : Calc → Reading → ℕ → List Kept → List Kept → Option Cause → Type 0
IsComputed calc reading o old new None = (value : Value) × (calc reading ≡ Ok value) × (new ≡ slice_set old o (with_value (slice_index_or old o unpriced) (Some value)))
IsComputed calc reading o old new (Some cause) = (calc reading ≡ Err cause) × (new ≡ old)

pub record Computes (calc : Calc) (market : Market) (o : ℕ) (inputs : List input.Input) (old new : List Kept) (cause : Option Cause) (count_old count_new : ℕ) (log_old log_new : Option (List (ℕ × Bool))) : Type 0 where
  pub price : (terms : Terms) → terms_at market o ≡ Some terms → IsComputed calc (reading_at market o terms inputs) o old new cause
  pub count : count_new ≡ counted count_old 1
  pub log : log_new ≡ logged log_old ((o, is_none cause) ∷ [])
