-- The price of a composite.
use Rattle.std.specs.Prelude.{ℕ, Bool, List, [], ◌∷◌, length, ℤ, pos, ◌*ℤ◌, ◌+ℤ◌, nat_le, unsigned_abs, if◌then◌else◌, Option, Some, None, Err}
use Rattle.desk_terms.specs.declared.terms.Part.{Part}
use Rattle.desk_terms.specs.declared.value.Input as input
use Rattle.desk_terms.specs.declared.cause.Cause.TheVariants.{TooLarge}
use Rattle.desk_terms.specs.Reading.{Outcome}
use Rattle.discount_engines.specs.Money.{money_of}

-- a weight is at most 1,000,000 either way (this project's profile)
abbrev pub is_weight : ℤ → Bool
is_weight weight = nat_le (unsigned_abs weight) 1000000

-- a weight times the value of its member; none beyond the limit of a weight, nor for a member that is no money
abbrev pub product : Part → input.Input → Option ℤ
product part (input.TheVariants.Rate rate) = None
product part (input.TheVariants.Curve curve) = None
product part (input.TheVariants.Money amount) = if is_weight part.weight then Some (part.weight *ℤ amount) else None

abbrev pub plus : Option ℤ → Option ℤ → Option ℤ
plus None b = None
plus (Some a) None = None
plus (Some a) (Some b) = Some (a +ℤ b)

-- the sum over the parts, exact (QuantLib's `CompositeInstrument::performCalculations`)
abbrev pub weighted : List Part → List input.Input → Option ℤ
weighted [] inputs = Some (pos 0)
weighted (part ∷ parts) [] = None
weighted (part ∷ parts) (i ∷ inputs) = plus (product part i) (weighted parts inputs)

abbrev pub money_or_none : ℕ → Option ℤ → Outcome
money_or_none o None = Err (TooLarge o)
money_or_none o (Some units) = money_of o units

-- a composite of at most 4,096 parts, which is all that a session makes (this project's profile)
abbrev pub composite_price : ℕ → List Part → List input.Input → Outcome
composite_price o parts inputs = if nat_le (length parts) 4096 then money_or_none o (weighted parts inputs) else Err (TooLarge o)
