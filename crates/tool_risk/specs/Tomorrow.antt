-- TOMORROW: the next business day of the calendar of the first curve beneath an instrument's engine, or beneath the instrument
-- itself where it has none; every day is a business day where there is no curve.
use Rattle.std.specs.Prelude.{ℕ, ℤ, pos, false, List, [], ◌∷◌, Option, None, Some}
use Rattle.day_number.specs.declared.conventions.Convention.TheVariants.{Following}
use Rattle.day_number.specs.declared.tenors.Unit.TheVariants.{Days}
use Rattle.holiday_calendars.specs.declared.bases.Base.TheVariants.{Null}
use Rattle.holiday_calendars.specs.declared.calendars.Calendar.{Calendar}
use Rattle.holiday_calendars.specs.declared.calendars.Calendar.TheVariants.{One}
use Rattle.holiday_calendars.specs.Calendar.{is_business_day}
use Rattle.day_shift.specs.Advanced.{advanced}
use Rattle.desk_terms.specs.declared.terms.Terms.{Terms}
use Rattle.desk_terms.specs.declared.terms.Terms.TheVariants.{Quote, Derived, Handle, Curve, Implied, Index, Engine, Stock, Composite, Flows}
use Rattle.desk_model.specs.Market.{Market, terms_at}
use Rattle.tool_risk.specs.Curves.{curves_in}

-- beneath which object the curve lies that discounts an instrument: its engine, or itself where it has none
abbrev pub discounts : ℕ → Option Terms → ℕ
discounts o None = o
discounts o (Some (Quote value)) = o
discounts o (Some (Derived minus first second)) = o
discounts o (Some (Handle kind target)) = o
discounts o (Some (Index terms fixings)) = o
discounts o (Some (Engine curve)) = o
discounts o (Some (Curve terms)) = o
discounts o (Some (Implied curve reference)) = o
discounts o (Some (Stock quote)) = o
discounts o (Some (Composite parts)) = o
discounts o (Some (Flows flows None)) = o
discounts o (Some (Flows flows (Some engine))) = engine

-- the calendar of a curve
abbrev pub calendar_in : Option Terms → Calendar
calendar_in None = One Null
calendar_in (Some (Quote value)) = One Null
calendar_in (Some (Derived minus first second)) = One Null
calendar_in (Some (Handle kind target)) = One Null
calendar_in (Some (Index terms fixings)) = One Null
calendar_in (Some (Engine curve)) = One Null
calendar_in (Some (Curve terms)) = terms.cal
calendar_in (Some (Implied curve reference)) = One Null
calendar_in (Some (Stock quote)) = One Null
calendar_in (Some (Composite parts)) = One Null
calendar_in (Some (Flows flows engine)) = One Null

abbrev pub calendar_of : Market → List ℕ → Calendar
calendar_of market [] = One Null
calendar_of market (curve ∷ curves) = calendar_in (terms_at market curve)

-- none behind 2199
abbrev pub next_day : Calendar → ℤ → Option ℤ
next_day calendar today = advanced (is_business_day calendar) Days Following false today (pos 1)

abbrev pub tomorrow_of : Market → ℕ → Option ℤ
tomorrow_of market o =
    next_day (calendar_of market (curves_in market (discounts o (terms_at market o)))) market.today
