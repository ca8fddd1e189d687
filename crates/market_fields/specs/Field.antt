-- What a field of one sort says, where it is there; one that another place gave is the fault Key.
use Rattle.std.specs.Prelude.{ℕ, ℤ, Bool, List, Option, Some, None, Result, Ok, Err}
use Rattle.day_number.specs.declared.tenors.Tenor as tenors
use Rattle.day_number.specs.declared.conventions.Convention as conventions
use Rattle.year_parts.specs.declared.counters.Counter as counters
use Rattle.schedule_rules.specs.declared.plans.Rule as plans
use Rattle.holiday_calendars.specs.declared.calendars.Calendar as calendars
use Rattle.curve_terms.specs.declared.terms.Helper.{Helper}
use Rattle.desk_terms.specs.declared.terms.HandleKind.{HandleKind}
use Rattle.desk_terms.specs.declared.terms.Part.{Part}
use Rattle.market_tables.specs.declared.fault.MarketKind.{MarketKind}
use Rattle.market_tables.specs.declared.fault.MarketKind.TheVariants as fault
use Rattle.market_tables.specs.Given.{◌>>=◌}
use Rattle.market_tables.specs.Values.{or_fault}
use Rattle.market_fields.specs.declared.earlier.Named as earlier
use Rattle.market_fields.specs.declared.limited.Sign as limited
use Rattle.market_fields.specs.declared.field.Field.{Field}
use Rattle.market_fields.specs.declared.field.Field.TheVariants as field

abbrev pub object_in : Option Field → Result (Option ℕ) MarketKind
object_in None = Ok None
object_in (Some (field.Object object)) = Ok (Some object)
object_in _ = Err fault.Key

abbrev pub named_in : Option Field → Result (Option earlier.Named) MarketKind
named_in None = Ok None
named_in (Some (field.Named named)) = Ok (Some named)
named_in _ = Err fault.Key

abbrev pub target_in : Option Field → Result (Option HandleKind) MarketKind
target_in None = Ok None
target_in (Some (field.Target target)) = Ok (Some target)
target_in _ = Err fault.Key

abbrev pub day_in : Option Field → Result (Option ℤ) MarketKind
day_in None = Ok None
day_in (Some (field.Day day)) = Ok (Some day)
day_in _ = Err fault.Key

abbrev pub weight_in : Option Field → Result (Option ℤ) MarketKind
weight_in None = Ok None
weight_in (Some (field.Weight weight)) = Ok (Some weight)
weight_in _ = Err fault.Key

abbrev pub count_in : Option Field → Result (Option ℕ) MarketKind
count_in None = Ok None
count_in (Some (field.Count count)) = Ok (Some count)
count_in _ = Err fault.Key

abbrev pub tenor_in : Option Field → Result (Option tenors.Tenor) MarketKind
tenor_in None = Ok None
tenor_in (Some (field.Tenor tenor)) = Ok (Some tenor)
tenor_in _ = Err fault.Key

abbrev pub rule_in : Option Field → Result (Option plans.Rule) MarketKind
rule_in None = Ok None
rule_in (Some (field.Rule rule)) = Ok (Some rule)
rule_in _ = Err fault.Key

abbrev pub convention_in : Option Field → Result (Option conventions.Convention) MarketKind
convention_in None = Ok None
convention_in (Some (field.Convention convention)) = Ok (Some convention)
convention_in _ = Err fault.Key

abbrev pub flag_in : Option Field → Result (Option Bool) MarketKind
flag_in None = Ok None
flag_in (Some (field.Flag flag)) = Ok (Some flag)
flag_in _ = Err fault.Key

abbrev pub counter_in : Option Field → Result (Option counters.Counter) MarketKind
counter_in None = Ok None
counter_in (Some (field.Counter counter)) = Ok (Some counter)
counter_in _ = Err fault.Key

abbrev pub notional_in : Option Field → Result (Option ℤ) MarketKind
notional_in None = Ok None
notional_in (Some (field.Notional notional)) = Ok (Some notional)
notional_in _ = Err fault.Key

abbrev pub rate_in : Option Field → Result (Option ℤ) MarketKind
rate_in None = Ok None
rate_in (Some (field.Rate rate)) = Ok (Some rate)
rate_in _ = Err fault.Key

abbrev pub sign_in : Option Field → Result (Option limited.Sign) MarketKind
sign_in None = Ok None
sign_in (Some (field.Sign sign)) = Ok (Some sign)
sign_in _ = Err fault.Key

abbrev pub name_in : Option Field → Result (Option (List ℕ)) MarketKind
name_in None = Ok None
name_in (Some (field.Name name)) = Ok (Some name)
name_in _ = Err fault.Key

abbrev pub parts_in : Option Field → Result (Option (List Part)) MarketKind
parts_in None = Ok None
parts_in (Some (field.Parts parts)) = Ok (Some parts)
parts_in _ = Err fault.Key

abbrev pub calendar_in : Option Field → Result (Option calendars.Calendar) MarketKind
calendar_in None = Ok None
calendar_in (Some (field.Calendar calendar)) = Ok (Some calendar)
calendar_in _ = Err fault.Key

abbrev pub helpers_in : Option Field → Result (Option (List Helper)) MarketKind
helpers_in None = Ok None
helpers_in (Some (field.Helpers helpers)) = Ok (Some helpers)
helpers_in _ = Err fault.Key

-- a field that must be there
abbrev pub must : {X : Type 0} → Result (Option X) MarketKind → Result X MarketKind
must found = found >>= or_fault fault.Key
