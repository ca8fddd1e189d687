use Rattle.std.proofs.Common.{◌∙◌}
use Rattle.holiday_calendars.proofs.ListedLemmas.{searched_days}
use Rattle.holiday_calendars.proofs.bespoke_days.is_listed.Goals as goal

pub returns : goal.returns
returns c =
    let found = c.binary_search.ensures in
    c.is_ok.ensures.value ∙ searched_days c.args.days.now c.args.day c.binary_search.result c.requires found.bound found.position
