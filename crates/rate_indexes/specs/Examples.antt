-- Rates of an index of 50 days without holidays, by Actual/360, over a curve from 2024-01-02 with the one node
-- 0.990099009901 on 2024-04-11, worked out by hand. Today is 2024-02-21, but where it is said otherwise. And the periods
-- and rates of an index of one month, with month ends, holidays and fixing days.
use Rattle.std.specs.Prelude.{◌≡◌, ℕ, Bool, true, false, pos, [], ◌∷◌, Some, None, Ok, Err}
use Rattle.day_number.specs.declared.conventions.Convention.TheVariants.{Following, ModifiedFollowing}
use Rattle.day_number.specs.declared.tenors.Unit.TheVariants.{Days, Months}
use Rattle.year_parts.specs.declared.counters.Counter.TheVariants.{Act360}
use Rattle.holiday_calendars.specs.declared.bases.Base.TheVariants.{Null, Weekends, Target}
use Rattle.holiday_calendars.specs.declared.calendars.Calendar.{Calendar}
use Rattle.holiday_calendars.specs.declared.calendars.Calendar.TheVariants.{One}
use Rattle.curve_points.specs.Curve.{Curve}
use Rattle.desk_terms.specs.declared.cause.Cause.TheVariants.{NoFixing, Before, Past}
use Rattle.flow_terms.specs.declared.indexes.IndexTerms.{IndexTerms}
use Rattle.rate_indexes.specs.Period.{period_of}
use Rattle.rate_indexes.specs.Fixing.{fixing_of}

abbrev pub fifty_days : IndexTerms
fifty_days = record {
  cal = One Null;
  fixing_days = 0;
  tenor = record { count = pos 50; unit = Days };
  conv = Following;
  eom = false;
  counter = Act360;
  curve = 1;
}

abbrev pub one_node : Curve
one_node = record {
  owner = 1;
  reference = pos 19_724;
  nodes = record { day = pos 19_824; factor = pos 990_099_009_901 } ∷ [];
}

-- the index of one month
abbrev pub one_month : Calendar → ℕ → Bool → IndexTerms
one_month cal days eom = record {
  cal = cal;
  fixing_days = days;
  tenor = record { count = pos 1; unit = Months };
  conv = ModifiedFollowing;
  eom = eom;
  counter = Act360;
  curve = 1;
}

-- a curve to 0.96 on 2025-01-02
abbrev pub to_next_year : Curve
to_next_year = record {
  owner = 1;
  reference = pos 19_724;
  nodes = record { day = pos 20_090; factor = pos 960_000_000_000 } ∷ [];
}

-- the days are 2024-01-01 (19,723), 2024-02-20 to 2024-02-22 (19,773 to 19,775), 2024-02-29 (19,782), 2024-03-26 to
-- 2024-04-03 (19,808 to 19,816, with Good Friday and Easter Monday), 2024-04-11 (19,824), 2024-04-29 and 2024-04-30
-- (19,842 and 19,843), 2024-05-01 and 2024-05-03 (19,844 and 19,846)
pub record AreWorked : Type 0 where
  pub period : period_of 2 fifty_days (pos 19_774) ≡ Ok (pos 19_774, pos 19_824, pos 1_558_550)
  pub forecast : fixing_of 2 fifty_days [] (pos 19_724) (pos 19_774) (Some one_node) ≡ Ok (pos 36_000_000)
  pub today : fixing_of 2 fifty_days [] (pos 19_774) (pos 19_774) (Some one_node) ≡ Ok (pos 36_000_000)
  pub stored : fixing_of 2 fifty_days ((pos 19_774, pos 50_000_000) ∷ []) (pos 19_774) (pos 19_774) (Some one_node)
      ≡ Ok (pos 50_000_000)
  pub stored_later : fixing_of 2 fifty_days ((pos 19_774, pos 50_000_000) ∷ []) (pos 19_773) (pos 19_774) (Some one_node)
      ≡ Ok (pos 36_000_000)
  pub yesterday : fixing_of 2 fifty_days [] (pos 19_774) (pos 19_773) (Some one_node) ≡ Err (NoFixing 2 (pos 19_773))
  pub yesterday_stored : fixing_of 2 fifty_days ((pos 19_773, pos 50_000_000) ∷ []) (pos 19_774) (pos 19_773) None
      ≡ Ok (pos 50_000_000)
  pub past : fixing_of 2 fifty_days [] (pos 19_774) (pos 19_775) (Some one_node) ≡ Err (Past 1 (pos 19_825))
  pub before : fixing_of 2 fifty_days [] (pos 19_723) (pos 19_723) (Some one_node) ≡ Err (Before 1 (pos 19_723))
  pub month_end : period_of 2 (one_month (One Null) 0 true) (pos 19_782) ≡ Ok (pos 19_782, pos 19_813, pos 966_301)
  pub same_day : period_of 2 (one_month (One Null) 0 false) (pos 19_782) ≡ Ok (pos 19_782, pos 19_811, pos 903_959)
  pub last_business_day : period_of 2 (one_month (One Target) 2 true) (pos 19_808) ≡ Ok (pos 19_810, pos 19_843, pos 1_028_643)
  pub kept_in_its_month : period_of 2 (one_month (One Target) 2 false) (pos 19_808) ≡ Ok (pos 19_810, pos 19_842, pos 997_472)
  pub fixed_over_easter : period_of 2 (one_month (One Target) 2 false) (pos 19_810) ≡ Ok (pos 19_816, pos 19_846, pos 935_130)
  pub fixed_on_a_weekend : period_of 2 (one_month (One Weekends) 0 false) (pos 19_812) ≡ Ok (pos 19_814, pos 19_844, pos 935_130)
  pub month_end_rate : fixing_of 2 (one_month (One Target) 2 true) [] (pos 19_724) (pos 19_808) (Some to_next_year) ≡ Ok (pos 39_862_695)
  pub same_day_rate : fixing_of 2 (one_month (One Target) 2 false) [] (pos 19_724) (pos 19_808) (Some to_next_year) ≡ Ok (pos 39_858_282)
