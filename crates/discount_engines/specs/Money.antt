-- Money that a price may be.
use Rattle.std.specs.Prelude.{ℕ, ◌^◌, ◌&&◌, ℤ, pos, neg_ℤ, int_le, if◌then◌else◌, Result, Ok, Err}
use Rattle.desk_terms.specs.declared.value.Value.TheVariants.{Money}
use Rattle.desk_terms.specs.declared.cause.Cause.{Cause}
use Rattle.desk_terms.specs.declared.cause.Cause.TheVariants.{TooLarge}
use Rattle.desk_terms.specs.Reading.{Outcome}

-- money within 10^24 units either way; more is refused (this project's profile)
abbrev pub money_of : ℕ → ℤ → Outcome
money_of o units = if int_le (neg_ℤ (pos (10 ^ 24))) units && int_le units (pos (10 ^ 24)) then Ok (Money units) else Err (TooLarge o)

-- an amount as the value that a price is, or its cause
abbrev pub as_money : Result ℤ Cause → Outcome
as_money (Ok amount) = Ok (Money amount)
as_money (Err cause) = Err cause
