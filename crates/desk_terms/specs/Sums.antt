-- The sum that a composite's price is made of.
use Rattle.std.specs.Prelude.{ℕ, List, [], ◌∷◌, ℤ, pos, ◌*ℤ◌, ◌+ℤ◌, Option, Some, None, Result, Ok, Err}
use Rattle.desk_terms.specs.declared.terms.Part.{Part}
use Rattle.desk_terms.specs.declared.terms.Terms.TheVariants.{Composite}
use Rattle.desk_terms.specs.declared.value.Value.{Value}
use Rattle.desk_terms.specs.declared.value.Value.TheVariants as value
use Rattle.desk_terms.specs.declared.value.Input as input
use Rattle.desk_terms.specs.declared.bench.BenchFault.{BenchFault}
use Rattle.desk_terms.specs.Reading.{Reading}

-- the money of an input: its amount, and nothing where it is no money
abbrev pub money_in : input.Input → ℤ
money_in (input.TheVariants.Rate rate) = pos 0
money_in (input.TheVariants.Curve curve) = pos 0
money_in (input.TheVariants.Money amount) = amount

-- each weight times the money of its member, summed as far as there are inputs
unfoldable pub summed : List Part → List input.Input → ℤ
summed [] inputs = pos 0
summed (part ∷ parts) [] = pos 0
summed (part ∷ parts) (i ∷ inputs) = part.weight *ℤ money_in i +ℤ summed parts inputs

-- what the price of a composite reads
abbrev pub composite_reading : ℕ → List Part → List input.Input → Reading
composite_reading o parts inputs = record { object = o; terms = Composite parts; inputs = inputs; today = None; index = None }

-- an amount as a value
abbrev pub money_answer : Result ℤ BenchFault → Result Value BenchFault
money_answer (Ok amount) = Ok (value.Money amount)
money_answer (Err fault) = Err fault
