-- The days a number of tenors from the seed of a schedule (QuantLib's Schedule).
use Rattle.std.specs.Prelude.{ℕ, zero, suc, ◌*◌, ◌/◌, Bool, true, false, ◌&&◌, not, List, [], Option, Some, None, unwrap_or, ℤ, pos, neg_ℤ, ◌-ℤ◌, ◌+ℤ◌, ◌*ℤ◌, unsigned_abs}
use Rattle.std.specs.Int.Signed.{le_z}
use Rattle.std.specs.List.{cons_option}
use Rattle.std.specs.Ordering.{int_eq}
use Rattle.day_number.specs.declared.tenors.Unit.{Unit as TimeUnit}
use Rattle.day_number.specs.declared.tenors.Unit.TheVariants.{Days, Weeks, Months, Years}
use Rattle.day_number.specs.declared.tenors.Tenor.{Tenor}
use Rattle.day_number.specs.Shift.{last_of_month}
use Rattle.day_shift.specs.Adjusted.{kept_or}
use Rattle.day_shift.specs.Business.{day_at}
use Rattle.day_shift.specs.Month.{month_at}
use Rattle.schedule_rules.specs.declared.plans.Rule.{Rule}
use Rattle.schedule_rules.specs.declared.plans.Rule.TheVariants.{Backward, Forward, Zero}
use Rattle.schedule_rules.specs.declared.plans.Plan.{Plan}

-- the day n of a unit on: days and weeks of the calendar, months clipped to the month's last day
abbrev pub units_on : TimeUnit → ℤ → ℤ → Option ℤ
units_on Days day n = day_at (day +ℤ n)
units_on Weeks day n = day_at (day +ℤ n *ℤ pos 7)
units_on Months day n = month_at day n
units_on Years day n = month_at day (n *ℤ pos 12)

-- a unit that counts months
abbrev pub is_of_months : TimeUnit → Bool
is_of_months Days = false
is_of_months Weeks = false
is_of_months Months = true
is_of_months Years = true

-- the last day of its month
abbrev pub is_month_end : ℤ → Bool
is_month_end day = int_eq day (last_of_month day)

-- a day, or where month ends are kept the last day of its month
abbrev pub at_month_end : Bool → Option ℤ → Option ℤ
at_month_end true (Some day) = Some (last_of_month day)
at_month_end true None = None
at_month_end false found = found

-- the day n of a unit from a seed, where the seed's month end is kept or not
abbrev pub moved : Bool → TimeUnit → ℤ → ℤ → Option ℤ
moved month_end unit seed n =
    at_month_end (month_end && is_of_months unit && is_month_end seed) (units_on unit seed n)

-- the day that every step starts at: the last stub's or the end backward, the first stub's or the start forward
abbrev pub seed_by : Rule → Plan → ℤ
seed_by Backward plan = unwrap_or plan.last plan.end
seed_by Forward plan = unwrap_or plan.first plan.start
seed_by Zero plan = plan.start

-- a number of tenors towards the other end
abbrev pub count_by : Rule → Tenor → ℕ → ℤ
count_by Backward tenor k = neg_ℤ (pos k *ℤ tenor.count)
count_by Forward tenor k = pos k *ℤ tenor.count
count_by Zero tenor k = pos 0

-- a day short of the bound: after the first stub's day or the start backward, before the last stub's day or the end forward
abbrev pub is_inside : Rule → Plan → ℤ → Bool
is_inside Backward plan day = not (le_z day (unwrap_or plan.first plan.start))
is_inside Forward plan day = not (le_z (unwrap_or plan.last plan.end) day)
is_inside Zero plan day = false

-- the day k tenors from the seed, where it is inside the bound
unfoldable pub step : Plan → ℕ → Option ℤ
step plan k =
    kept_or (is_inside plan.rule plan)
    (moved plan.eom plan.tenor.unit (seed_by plan.rule plan) (count_by plan.rule plan.tenor k)) None

-- the least days that a unit takes, so that a bound on the steps can be told (calendar arithmetic)
abbrev pub least_days : TimeUnit → ℕ
least_days Days = 1
least_days Weeks = 7
least_days Months = 28
least_days Years = 336

-- how many steps have room between start and end at most
abbrev pub most_steps : Plan → ℕ
most_steps plan =
    unsigned_abs (plan.end -ℤ plan.start) / (unsigned_abs plan.tenor.count * least_days plan.tenor.unit)

-- the days of a number of steps from the kth on
unfoldable pub steps_from : Plan → ℕ → ℕ → List ℤ
steps_from plan k zero = []
steps_from plan k (suc more) = cons_option (step plan k) (steps_from plan (suc k) more)
