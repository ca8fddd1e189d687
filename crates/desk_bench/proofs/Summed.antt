-- What a bench answers for the sum of a composite.
use Rattle.std.proofs.Common.{◌≡◌, ◌∙◌, ℕ, ℤ, List, Result, ap, sym, subst}
use Rattle.desk_terms.specs.declared.terms.Part.{Part}
use Rattle.desk_terms.specs.declared.value.Input as input
use Rattle.desk_terms.specs.declared.value.Value.{Value}
use Rattle.desk_terms.specs.declared.bench.BenchFault.{BenchFault}
use Rattle.desk_terms.specs.Bench.{Answers}
use Rattle.desk_terms.specs.Reading.{Outcome, IsWellFormed}
use Rattle.desk_terms.specs.Sums.{summed, composite_reading}
use Rattle.discount_engines.specs.Money.{money_of}
use Rattle.discount_engines.proofs.Summed.{reading_summed}
use Rattle.desk_bench.specs.Pricing.{desk_calc}

-- the answer for a sum is one for all parts and inputs of that sum
pub sum_answers : (o : ℕ) (parts : List Part) (inputs : List input.Input) (units : ℤ) (answer : Result Value BenchFault) → IsWellFormed (composite_reading o parts inputs)
    → units ≡ summed parts inputs → Answers (money_of o units) answer → Answers (desk_calc (composite_reading o parts inputs)) answer
sum_answers o parts inputs units answer formed is answers =
    subst (λ (outcome : Outcome). Answers outcome answer) (ap (money_of o) is ∙ sym (reading_summed o parts inputs formed)) answers
