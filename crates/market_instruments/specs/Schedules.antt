-- The schedules of bonds and swaps (QuantLib's Schedule).
use Rattle.std.specs.Prelude.{ℕ, ℤ, ◌+◌, false, unwrap_or, List, Option, Result, Ok, Err}
use Rattle.day_number.specs.declared.tenors.Tenor.{Tenor}
use Rattle.day_number.specs.declared.conventions.Convention.TheVariants.{ModifiedFollowing}
use Rattle.holiday_calendars.specs.declared.calendars.Calendar.{Calendar}
use Rattle.holiday_calendars.specs.Calendar.{is_business_day}
use Rattle.schedule_rules.specs.declared.plans.Plan.{Plan}
use Rattle.schedule_rules.specs.declared.plans.Rule.TheVariants.{Backward}
use Rattle.schedule_rules.specs.declared.faults.PlanFault.{PlanFault}
use Rattle.schedule_rules.specs.declared.faults.PlanFault.TheVariants.{Order, Tenor as TenorFault, Stub, TooMany, DateRange, Collapsed, NoMemory}
use Rattle.schedule_rules.specs.Schedule.{schedule}
use Rattle.market_tables.specs.declared.fault.MarketKind.{MarketKind}
use Rattle.market_tables.specs.declared.fault.MarketKind.TheVariants as fault
use Rattle.market_tables.specs.declared.fault.TableFault.{TableFault}
use Rattle.market_tables.specs.declared.fault.TableFault.TheVariants as table
use Rattle.market_tables.specs.Fields.{field_in}
use Rattle.market_tables.specs.Given.{◌>>=◌}
use Rattle.market_fields.specs.declared.field.Field.{Field}
use Rattle.market_fields.specs.Field.{must, day_in, calendar_in, rule_in, convention_in, flag_in}
use Rattle.market_instruments.specs.declared.schedules.Rules.{Rules}
use Rattle.market_instruments.specs.declared.schedules.Span as code

-- the start and the end of an instrument, and its calendar
pub record Span : Type 0 where
  pub start : ℤ
  pub end : ℤ
  pub cal : Calendar

abbrev pub span_seen : code.Span → Span
span_seen s = record { start = s.start; end = s.end; cal = s.cal.now }

abbrev pub span_of : List (Option Field) → ℕ → Result Span MarketKind
span_of fs at =
    must (day_in (field_in fs at)) >>= (λ start. must (day_in (field_in fs (at + 1))) >>= (λ end.
    must (calendar_in (field_in fs (at + 2))) >>= (λ cal. Ok (record { start = start; end = end; cal = cal }))))

-- the rules, each with its default; the end is adjusted as the other days are, where nothing else is said
abbrev pub rules_of : List (Option Field) → ℕ → Result Rules MarketKind
rules_of fs at =
    rule_in (field_in fs at) >>= (λ rule. convention_in (field_in fs (at + 1)) >>= (λ conv.
    convention_in (field_in fs (at + 2)) >>= (λ end_conv. flag_in (field_in fs (at + 3)) >>= (λ eom.
    Ok (record {
      rule = unwrap_or rule Backward;
      conv = unwrap_or conv ModifiedFollowing;
      end_conv = unwrap_or end_conv (unwrap_or conv ModifiedFollowing);
      eom = unwrap_or eom false;
    })))))

abbrev pub plan_of : Span → Rules → Tenor → Option ℤ → Option ℤ → Plan
plan_of span rules tenor first last = record {
  start = span.start;
  end = span.end;
  tenor = tenor;
  cal = record { ref_ptr = (0, 0); now = span.cal };
  conv = rules.conv;
  end_conv = rules.end_conv;
  rule = rules.rule;
  eom = rules.eom;
  first = first;
  last = last;
}

-- the days of a schedule; whatever its fault is, it is Plan
abbrev pub planned : Result (List ℤ) PlanFault → Result (List ℤ) MarketKind
planned (Ok days) = Ok days
planned (Err e) = Err fault.Plan

abbrev pub plan_fault : PlanFault → TableFault
plan_fault Order = table.Kind fault.Plan
plan_fault TenorFault = table.Kind fault.Plan
plan_fault Stub = table.Kind fault.Plan
plan_fault TooMany = table.Kind fault.Plan
plan_fault DateRange = table.Kind fault.Plan
plan_fault Collapsed = table.Kind fault.Plan
plan_fault NoMemory = table.NoMemory

-- the days of a span by rules in steps of a tenor, with a first and a last stub
abbrev pub dates_of : Span → Rules → Tenor → Option ℤ → Option ℤ → Result (List ℤ) MarketKind
dates_of span rules tenor first last =
    planned (schedule (is_business_day span.cal) (plan_of span rules tenor first last))
