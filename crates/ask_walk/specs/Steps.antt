-- What an ask does next, with the inputs that were read.
use Rattle.std.specs.Prelude.{◌≡◌, ℤ, List}
use Rattle.desk_terms.specs.declared.terms.Part.{Part}
use Rattle.desk_terms.specs.Sums.{summed}
use Rattle.desk_terms.specs.declared.value.Input as input
use Rattle.desk_model.specs.declared.entry.Next.{Next}
use Rattle.desk_model.specs.declared.entry.Next.TheVariants as next
use Rattle.desk_model.specs.declared.kept.Kept.{Kept}
use Rattle.desk_model.specs.Next.{next_of}
use Rattle.desk_model.specs.Uses.{member_entries}
use Rattle.object_store.specs.Slots.{is_at_hand, answer_of}
use Rattle.ask_walk.specs.declared.turning.Step.{Step}
use Rattle.ask_walk.specs.declared.turning.Step.TheVariants.{Ready, First, Stops}

-- a step and the inputs that were read, as what an ask does next
abbrev pub next_with : List input.Input → Step → Next
next_with inputs Ready = next.Ready inputs
next_with inputs (First x) = next.First x
next_with inputs (Stops cause) = next.Stops cause

-- what comes next at a composite of these parts, of which the sum so far is this: its price, where that is the sum of all its
-- inputs, an object that has to be computed first, or a cause
abbrev pub NextMember : List Kept → List Part → ℤ → Step → Type 0
NextMember kept parts sum Ready = (inputs : List input.Input)
    × (next_of (is_at_hand kept) (answer_of kept) (member_entries parts) ≡ next.Ready inputs) × (sum ≡ summed parts inputs)
NextMember kept parts sum (First x) = next_of (is_at_hand kept) (answer_of kept) (member_entries parts) ≡ next.First x
NextMember kept parts sum (Stops cause) = next_of (is_at_hand kept) (answer_of kept) (member_entries parts) ≡ next.Stops cause
