use Rattle.std.proofs.Common.{◌∙◌, ℕ, Option, sym, ap}
use Rattle.std.specs.Prelude.{is_some}
use Rattle.session_why.proofs.Told.{frozen_shows, late_shows}
use Rattle.session_why.proofs.listing.shows_last.Goals as goal

pub returns-then-marks-clause-answer : goal.returns-then-marks-clause-answer
returns-then-marks-clause-answer c =
    c.if-marks.true
    ∙ frozen_shows c.args.desk.now c.args.object (sym c.is_priced.ensures ∙ c.if-not-is_priced.false) (sym c.marks.ensures.frozen ∙ c.if-marks.true)

pub returns-else-marks-clause-answer : goal.returns-else-marks-clause-answer
returns-else-marks-clause-answer c =
    c.is_some.ensures ∙ ap (λ (x : Option ℕ). is_some x) c.late.ensures.answer
    ∙ late_shows c.args.desk.now c.shape.ensures.whole c.args.object (sym c.is_priced.ensures ∙ c.if-not-is_priced.false)
    (sym c.marks.ensures.frozen ∙ c.if-marks.false)
