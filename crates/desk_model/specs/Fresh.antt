-- The price of an object, computed afresh from the market alone: no flag and no stored value occurs here.
use Rattle.std.specs.Prelude.{ℕ, zero, suc, List, [], ◌∷◌, length, Option, Some, None, Result, Ok, Err}
use Rattle.desk_terms.specs.declared.terms.Terms.{Terms}
use Rattle.desk_terms.specs.declared.value.Value.{Value}
use Rattle.desk_terms.specs.declared.value.Value.TheVariants.{Money, Curve}
use Rattle.desk_terms.specs.declared.value.Input as input
use Rattle.desk_terms.specs.declared.cause.Cause.{Cause}
use Rattle.desk_terms.specs.declared.cause.Cause.TheVariants.{Unset}
use Rattle.desk_terms.specs.Reading.{Reading, Outcome, Calc}
use Rattle.desk_model.specs.declared.entry.Entry.{Entry}
use Rattle.desk_model.specs.declared.entry.Entry.TheVariants.{Gives, Needs, Refuses}
use Rattle.desk_model.specs.Market.{Market, terms_at}
use Rattle.desk_model.specs.Uses.{uses, reading_at}

-- a value as the input of another price
abbrev pub input_of : Value → input.Input
input_of (Money amount) = input.TheVariants.Money amount
input_of (Curve curve) = input.TheVariants.Curve curve

-- an input before those that follow it; a refusal among them is the answer
abbrev pub and_inputs : input.Input → Result (List input.Input) Cause → Result (List input.Input) Cause
and_inputs i (Ok inputs) = Ok (i ∷ inputs)
and_inputs i (Err cause) = Err cause

abbrev pub and_value : Outcome → Result (List input.Input) Cause → Result (List input.Input) Cause
and_value (Ok value) inputs = and_inputs (input_of value) inputs
and_value (Err cause) inputs = Err cause

-- the inputs that the entries give, `answer` being that of the objects needed; the first refusal in order wins
abbrev pub inputs_by : (ℕ → Outcome) → List Entry → Result (List input.Input) Cause
inputs_by answer [] = Ok []
inputs_by answer (Gives rate ∷ entries) = and_inputs (input.TheVariants.Rate rate) (inputs_by answer entries)
inputs_by answer (Needs x ∷ entries) = and_value (answer x) (inputs_by answer entries)
inputs_by answer (Refuses cause ∷ entries) = Err cause

-- the reading over these inputs, or the refusal among them
abbrev pub reading_over : Market → ℕ → Option Terms → Result (List input.Input) Cause → Result Reading Cause
reading_over market o (Some terms) (Ok inputs) = Ok (reading_at market o terms inputs)
reading_over market o (Some terms) (Err cause) = Err cause
reading_over market o None (Ok inputs) = Err (Unset o)
reading_over market o None (Err cause) = Err cause

-- the reading of o, where the objects that it needs answer by `answer`
abbrev pub reading_by : Market → (ℕ → Outcome) → ℕ → Result Reading Cause
reading_by market answer o = reading_over market o (terms_at market o) (inputs_by answer (uses market o))

-- the price of a reading
abbrev pub priced : Calc → Result Reading Cause → Outcome
priced calc (Ok reading) = calc reading
priced calc (Err cause) = Err cause

-- the price of o, where the objects that it needs answer by `answer`
abbrev pub priced_by : Calc → Market → (ℕ → Outcome) → ℕ → Outcome
priced_by calc market answer o = priced calc (reading_by market answer o)

abbrev pub or_priced : Option Outcome → Outcome → Outcome
or_priced (Some outcome) otherwise = outcome
or_priced None otherwise = otherwise

-- what o answers where `held` says which objects answer without a price, over paths of at most n edges
unfoldable pub answer_by : Calc → Market → (ℕ → Option Outcome) → ℕ → ℕ → Outcome
answer_by calc market held zero o = or_priced (held o) (Err (Unset o))
answer_by calc market held (suc n) o = or_priced (held o) (priced_by calc market (answer_by calc market held n) o)

-- THE PRICE OF o AFRESH, over paths of at most as many edges as there are objects
unfoldable pub fresh : Calc → Market → ℕ → Outcome
fresh calc market o = answer_by calc market (λ x. None) (suc (length market.objects)) o
