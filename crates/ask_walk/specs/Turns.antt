-- What one turn of an ask does at an object.
use Rattle.std.specs.Prelude.{◌≡◌, ◌⊎◌, ℕ, Bool, List, Option, Some}
use Rattle.desk_terms.specs.declared.terms.Terms.{Terms}
use Rattle.desk_terms.specs.declared.value.Input as input
use Rattle.desk_terms.specs.Reading.{Calc, IsWellFormed}
use Rattle.desk_terms.specs.Bench.{counted}
use Rattle.desk_model.specs.declared.entry.Next.TheVariants as next
use Rattle.desk_model.specs.declared.kept.Kept.{Kept}
use Rattle.desk_model.specs.Market.{Market, terms_at}
use Rattle.desk_model.specs.Next.{next_of}
use Rattle.desk_model.specs.Uses.{uses, reading_at}
use Rattle.object_store.specs.Slots.{is_at_hand, answer_of}
use Rattle.ask_walk.specs.declared.turning.Turn.{Turn}
use Rattle.ask_walk.specs.declared.turning.Turn.TheVariants.{Stops, Waits, Ran}
use Rattle.ask_walk.specs.Asks.{Computes}

-- where the price of o is ready, its reading is well formed
abbrev pub MayRun : Market → List Kept → ℕ → Type 0
MayRun market kept o = (inputs : List input.Input) (terms : Terms) → next_of (is_at_hand kept) (answer_of kept) (uses market o) ≡ next.Ready inputs
    → terms_at market o ≡ Some terms → IsWellFormed (reading_at market o terms inputs)

-- an entry refuses, or another object has to be computed first, or o was computed over its inputs
abbrev pub HasTurned : Calc → Market → ℕ → List Kept → List Kept → Turn → ℕ → ℕ → Option (List (ℕ × Bool)) → Option (List (ℕ × Bool)) → Type 0
HasTurned calc market o old new (Stops cause) count_old count_new log_old log_new =
    (next_of (is_at_hand old) (answer_of old) (uses market o) ≡ next.Stops cause) × (new ≡ old) × (count_new ≡ count_old) × (log_new ≡ log_old)
HasTurned calc market o old new (Waits y) count_old count_new log_old log_new =
    (next_of (is_at_hand old) (answer_of old) (uses market o) ≡ next.First y) × (new ≡ old) × (count_new ≡ count_old) × (log_new ≡ log_old)
HasTurned calc market o old new (Ran cause) count_old count_new log_old log_new = (inputs : List input.Input)
    × (next_of (is_at_hand old) (answer_of old) (uses market o) ≡ next.Ready inputs) × Computes calc market o inputs old new cause count_old count_new log_old log_new

pub record Turns (calc : Calc) (market : Market) (o : ℕ) (old new : List Kept) (turn : Turn) (count_old count_new : ℕ) (log_old log_new : Option (List (ℕ × Bool))) : Type 0 where
  pub did : HasTurned calc market o old new turn count_old count_new log_old log_new

-- memory ran out: nothing was stored, and the bench counts as many calls as before, or one more, where the price was ready
pub record Fails (market : Market) (o : ℕ) (old new : List Kept) (count_old count_new : ℕ) (log_old log_new : Option (List (ℕ × Bool))) : Type 0 where
  pub kept : new ≡ old
  pub log : log_new ≡ log_old
  pub count : (count_new ≡ count_old)
      ⊎ ((inputs : List input.Input) × (next_of (is_at_hand old) (answer_of old) (uses market o) ≡ next.Ready inputs) × (count_new ≡ counted count_old 1))
