use Rattle.std.proofs.Common.{◌≡◌}
use Rattle.std.specs.String.{string_bytes}
use Rattle.std.proofs.lemmas.Result.{IfOk-weaker}
use Rattle.day_number.specs.Day.{date_text}
use Rattle.day_number.proofs.PrintLemmas.{two_printed, four_printed}
use Rattle.day_number.proofs.texts.date_string.Goals as goal

pub returns : goal.returns
returns c =
    let year = four_printed c.args.year c.requires.year.0 c.requires.year.1 in
    let month = two_printed c.args.month c.requires.month in
    let day = two_printed c.args.day c.requires.day in
    IfOk-weaker c.format.result _ (λ text. string_bytes text ≡ date_text c.args.year c.args.month c.args.day)
    (λ text e. rw (c.laid_out.ensures, c.laid_out-2.ensures, c.laid_out-3.ensures, year, month, day) at e) c.format.ensures.ok
