-- THE LADDER: what an instrument gains where a quote, or quotes together, are moved by one size up and down, each price being
-- computed afresh from the market alone (a desk's bucket deltas).
use Rattle.std.specs.Prelude.{ℕ, ◌≤◌, ◌^◌, ℤ, neg_ℤ, ◌-ℤ◌, unsigned_abs, List, [], ◌∷◌, ◌++◌, map, if◌then◌else◌, Option, None, Some, Result, Ok, Err}
use Rattle.desk_terms.specs.declared.value.Value.{Value}
use Rattle.desk_terms.specs.declared.value.Value.TheVariants.{Money, Curve}
use Rattle.desk_terms.specs.declared.cause.Cause.{Cause}
use Rattle.desk_terms.specs.declared.cause.Cause.TheVariants.{Unpriced}
use Rattle.desk_terms.specs.Reading.{Outcome, Calc}
use Rattle.desk_model.specs.Market.{Market}
use Rattle.desk_model.specs.Fresh.{fresh}
use Rattle.bump_model.specs.declared.moves.Quoted.{Quoted}
use Rattle.bump_model.specs.declared.ladder.Bump.{Bump}
use Rattle.bump_model.specs.declared.ladder.Bump.TheVariants.{One, Together}
use Rattle.bump_model.specs.declared.ladder.Side.{Side}
use Rattle.bump_model.specs.declared.ladder.Missing.TheVariants.{Refused, Limit}
use Rattle.bump_model.specs.declared.ladder.Side.TheVariants.{Moved, NoPrice, Unset}
use Rattle.bump_model.specs.declared.ladder.Rung.{Rung}
use Rattle.bump_model.specs.Moves.{moved, value_at, quoted, quoted_in, with_values, is_limit}

-- what o is worth in money. (A curve, which no instrument is worth, is no amount.)
abbrev pub amount_of : ℕ → Outcome → Result ℤ Cause
amount_of o (Ok (Money amount)) = Ok amount
amount_of o (Ok (Curve curve)) = Err (Unpriced o)
amount_of o (Err cause) = Err cause

-- money within 10^24 units either way, as that of every instrument is (this project's profile)
abbrev pub IsPaid : Value → Type 0
IsPaid (Money amount) = unsigned_abs amount ≤ 10 ^ 24
IsPaid (Curve curve) = Unit {0}

-- what an instrument is worth in a market
abbrev pub worth : Calc → Market → ℕ → Result ℤ Cause
worth calc market o = amount_of o (fresh calc market o)

-- what it gains over its base
abbrev pub gain : ℤ → Result ℤ Cause → Side
gain base (Ok amount) = Moved (amount -ℤ base)
gain base (Err cause) = NoPrice (Refused cause)

-- what o gains where these quotes are moved by a shift: nothing is moved where one of them would pass the limit
abbrev pub side_of : Calc → Market → ℕ → ℤ → ℤ → List Quoted → Side
side_of calc market o base shift group =
    if is_limit shift group
    then NoPrice Limit
    else gain base (worth calc (with_values (moved shift) group market) o)

-- the rung of these quotes, for a size
abbrev pub rung_of : Calc → ℤ → Market → ℕ → ℤ → Option ℕ → List Quoted → Rung
rung_of calc size market o base label group = record {
  label = label;
  up = side_of calc market o base size group;
  down = side_of calc market o base (neg_ℤ size) group;
}

-- the rung of a quote that has this value, or none
abbrev pub rung_for : Calc → ℤ → Market → ℕ → ℤ → ℕ → Option ℤ → Rung
rung_for calc size market o base q None = record { label = Some q; up = Unset; down = Unset }
rung_for calc size market o base q (Some value) = rung_of calc size market o base (Some q) (quoted q value ∷ [])

-- the rung of one quote, or of these of them that have a value
abbrev pub bump_rung : Calc → ℤ → Market → ℕ → ℤ → Bump → Rung
bump_rung calc size market o base (One q) = rung_for calc size market o base q (value_at market q)
bump_rung calc size market o base (Together label quotes) = rung_of calc size market o base label (quoted_in market quotes)

abbrev pub rungs_of : Calc → ℤ → Market → ℕ → ℤ → List Bump → List Rung
rungs_of calc size market o base bumps = map (bump_rung calc size market o base) bumps

-- each of these quotes by itself, and then all of them together
abbrev pub each_then_all : List ℕ → List Bump
each_then_all quotes = map One quotes ++ Together None quotes ∷ []
