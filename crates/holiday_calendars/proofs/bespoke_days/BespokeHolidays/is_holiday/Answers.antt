use Rattle.std.proofs.Common.{◌||◌, ap, sym, ◌∙◌}
use Rattle.std.specs.List.{list_any}
use Rattle.std.specs.Ordering.{int_eq}
use Rattle.holiday_calendars.specs.Closed.{is_closed}
use Rattle.holiday_calendars.proofs.ListedLemmas.{closed_by}
use Rattle.holiday_calendars.proofs.bespoke_days.BespokeHolidays.is_holiday.Goals as goal

pub returns-then-self-from : goal.returns-then-self-from
returns-then-self-from c =
    let own = c.self.inside in
    let e = c.if-self-from.true in
    e ∙ ap (λ b. b || list_any (int_eq c.args.day) own.days.items) (sym e)
    ∙ closed_by own.weekend own.days.items c.from.result c.args.day (c.from.ensures ∙ c.weekday.ensures.value)
    ∙ ap (λ h. is_closed h c.args.day) c.self.view_is

pub returns-else-self-from : goal.returns-else-self-from
returns-else-self-from c =
    let own = c.self.inside in
    c.is_listed.ensures ∙ ap (list_any (int_eq c.args.day)) c.deref.ensures.value
    ∙ ap (λ b. b || list_any (int_eq c.args.day) own.days.items) (sym c.if-self-from.false)
    ∙ closed_by own.weekend own.days.items c.from.result c.args.day (c.from.ensures ∙ c.weekday.ensures.value)
    ∙ ap (λ h. is_closed h c.args.day) c.self.view_is
