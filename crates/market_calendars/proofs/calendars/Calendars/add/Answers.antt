use Rattle.std.proofs.Common.{◌≡◌, ◌∙◌, ap, sym, Ok}
use Rattle.std.specs.Str.{bytes_eq}
use Rattle.indexmap.specs.IndexMap.{insert_entry}
use Rattle.market_calendars.proofs.ByText.{by_text, insert_entry-by_text}
use Rattle.market_calendars.proofs.calendars.Calendars.add.Goals as goal

pub returns : goal.returns
returns c =
    let entries = c.self.inside.by_name.entries in
    let name = c.args.name.now in
    let calendar = c.args.calendar in
    let same : c.in_ok-name.name.items ≡ name = c.in_ok-name.ensures.items_if_clones_equal (λ _ _ e. e) ∙ c.text.ensures.text in
    ap Ok (sym (
    ap (by_text (λ v. v.items)) c.in_ok-insert.ensures.entries
    ∙ insert_entry-by_text (λ v. v.items) c.in_ok-name.name calendar entries
    ∙ ap (λ text. insert_entry bytes_eq (by_text (λ v. v.items) entries) text calendar) same
    ∙ ap (λ cs. insert_entry bytes_eq cs name calendar) c.self.view_is))
