use Rattle.std.proofs.Common.{◌≡◌, arith, ◌∙◌, ap, w32, to_z, of_z}
use Rattle.jiff_core.proofs.SignedLemmas.{signed_arith}
use Rattle.jiff_core.specs.Date.{epoch_day}
use Rattle.day_number.specs.Day.{IsDayNumber, CivilDate, date_of, IsDateOf}
use Rattle.day_number.proofs.DayLemmas.{numbered_date, one_date, date_of-is, cast_number, cast_year}
use Rattle.day_number.proofs.days.Day.parts.Goals as goal

-- the parts as a date
parts_of : goal.After-from → CivilDate
parts_of c = record {
  year = to_z w32 (of_z w32 c.from.result);
  month = c.from_days_since_min-date.result.month;
  day = c.from_days_since_min-date.result.day;
}

-- it is the date of the day
parts_of-is : (c : goal.After-from) → IsDayNumber c.args.self × IsDateOf c.args.self (parts_of c)
unfolding parts_of
parts_of-is c =
    let number : c.self.inside.count ≡ c.args.self = c.self.view_is in
    let range : IsDayNumber c.args.self = rw number at c.self.invariant in
    let counted = c.from_days_since_min-date.ensures ∙ cast_number c.self.inside.count c.self.invariant in
    let same : epoch_day c.from_days_since_min-date.result ≡ c.args.self = omega (arith, signed_arith) in
    let it = numbered_date c.from_days_since_min-date.result c.args.self range same in
    let year = ap (λ z. to_z w32 (of_z w32 z)) c.from.ensures ∙ cast_year c.from_days_since_min-date.result.year it.0.0 in
    (range, rw year it)

pub returns-clause-civil : goal.returns-clause-civil
unfolding parts_of
returns-clause-civil c = (parts_of-is c).1.0

pub returns-clause-number : goal.returns-clause-number
unfolding parts_of
returns-clause-number c = (parts_of-is c).1.1

pub returns-clause-date : goal.returns-clause-date
unfolding parts_of
returns-clause-date c =
    let it = parts_of-is c in
    let same = one_date c.args.self (parts_of c) (date_of c.args.self) it.1 (date_of-is c.args.self it.0) in
    (ap (λ (d : CivilDate). d.year) same, ap (λ (d : CivilDate). d.month) same, ap (λ (d : CivilDate). d.day) same)
