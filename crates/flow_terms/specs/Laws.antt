-- What is proved of the definitions.
use Rattle.std.specs.Prelude.{◌≡◌, ◌↔◌, ◌*◌, ◌^◌, ℤ, pos, Some, if◌then◌else◌, Contains}
use Rattle.std.specs.Ordering.{int_eq}
use Rattle.year_parts.specs.Parts.{parts_in_year}
use Rattle.flow_terms.specs.declared.limits.TheConstants.{MOST_RATE, MOST_NOTIONAL, MOST_AMOUNT, MOST_PARTS, MOST_FIXING_DAYS, MOST_FLOWS}
use Rattle.flow_terms.specs.Fixings.{Stored, AreByDay, fixing_on, with_fixing}

-- law: a stored rate is the answer on its day and no other day's answer changes
abbrev pub OneDayChanges : Type 0
OneDayChanges =
    (fixings : Stored) (day rate other : ℤ)
    → fixing_on (with_fixing fixings day rate) other ≡ (if int_eq day other then Some rate else fixing_on fixings other)

-- law: of stored rates in the order of days each is the answer on its day
abbrev pub EachIsTheAnswer : Type 0
EachIsTheAnswer =
    (fixings : Stored) (day rate : ℤ)
    → AreByDay fixings → (fixing_on fixings day ≡ Some rate) ↔ Contains fixings (day, rate)

-- law: the limits that definitions cite by name: a rate of 10, a notional of 10^12, an amount of 10^16, 440 years,
-- 30 days and 1,602 flows (this project's limits)
pub record AreTheLimits : Type 0 where
  pub rate : MOST_RATE ≡ 10 ^ 10
  pub notional : MOST_NOTIONAL ≡ 10 ^ 18
  pub amount : MOST_AMOUNT ≡ 10 ^ 22
  pub parts : MOST_PARTS ≡ pos (440 * parts_in_year)
  pub fixing_days : MOST_FIXING_DAYS ≡ 30
  pub flows : MOST_FLOWS ≡ 1602
