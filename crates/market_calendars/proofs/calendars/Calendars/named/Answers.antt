use Rattle.std.proofs.Common.{◌∙◌, ap}
use Rattle.market_calendars.specs.Calendars.{named}
use Rattle.market_calendars.proofs.ByText.{lookup-by_text}
use Rattle.market_calendars.proofs.calendars.Calendars.named.Goals as goal

pub returns : goal.returns
returns c =
    let name = c.args.name.now in
    c.get.ensures.value ∙ lookup-by_text (λ v. v.items) name c.self.inside.by_name.entries ∙ ap (λ cs. named cs name) c.self.view_is
