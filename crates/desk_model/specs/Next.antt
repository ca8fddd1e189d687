-- What an ask does next at an object: the first of its entries that is not at hand.
use Rattle.std.specs.Prelude.{ℕ, Bool, if◌then◌else◌, List, [], ◌∷◌, Ok, Err}
use Rattle.desk_terms.specs.declared.value.Input as input
use Rattle.desk_terms.specs.Reading.{Outcome}
use Rattle.desk_model.specs.declared.entry.Entry.{Entry}
use Rattle.desk_model.specs.declared.entry.Next.{Next}
use Rattle.desk_model.specs.declared.entry.Next.TheVariants.{Ready, First, Stops}
use Rattle.desk_model.specs.declared.entry.Entry.TheVariants.{Gives, Needs, Refuses}
use Rattle.desk_model.specs.Fresh.{input_of}

abbrev pub and_next : input.Input → Next → Next
and_next i (Ready inputs) = Ready (i ∷ inputs)
and_next i (First x) = First x
and_next i (Stops cause) = Stops cause

abbrev pub and_answer : Outcome → Next → Next
and_answer (Ok value) next = and_next (input_of value) next
and_answer (Err cause) next = Stops cause

-- `idle` says which objects answer without a computation, and `answer` what
abbrev pub next_of : (ℕ → Bool) → (ℕ → Outcome) → List Entry → Next
next_of idle answer [] = Ready []
next_of idle answer (Gives rate ∷ entries) = and_next (input.TheVariants.Rate rate) (next_of idle answer entries)
next_of idle answer (Needs x ∷ entries) =
    if idle x
    then and_answer (answer x) (next_of idle answer entries)
    else First x
next_of idle answer (Refuses cause ∷ entries) = Stops cause
