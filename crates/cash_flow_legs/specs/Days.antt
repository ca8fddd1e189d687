-- The days on which flows are paid and rates are fixed.
use Rattle.std.specs.Prelude.{◌≡◌, ℕ, Bool, false, Option, ℤ, pos, neg_ℤ}
use Rattle.day_number.specs.declared.conventions.Convention.TheVariants.{Following, Preceding}
use Rattle.day_number.specs.declared.tenors.Unit.TheVariants.{Days}
use Rattle.day_shift.specs.Adjusted.{adjusted}
use Rattle.day_shift.specs.Advanced.{advanced}
use Rattle.flow_terms.specs.declared.indexes.IndexTerms.{IndexTerms}
use Rattle.holiday_calendars.specs.Calendar.{is_business_day}

-- the day on which the rate for a period from a day on is fixed: the index's fixing days before it
-- (QuantLib's InterestRateIndex::fixingDate)
abbrev pub fixing_day : IndexTerms → ℤ → Option ℤ
fixing_day index day = advanced (is_business_day index.cal) Days Preceding false day (neg_ℤ (pos index.fixing_days))

-- the day on which what is due on a day is paid: so many business days after it, and with none the next business day
-- at or after it (QuantLib's paymentLag)
abbrev pub payment_day : (ℤ → Bool) → ℕ → ℤ → Option ℤ
payment_day business lag day = advanced business Days Following false day (pos lag)

-- law: without a lag the payment is on the day adjusted
abbrev pub NoLagIsAdjusted : Type 0
NoLagIsAdjusted = (business : ℤ → Bool) (day : ℤ) → payment_day business 0 day ≡ adjusted business Following day
