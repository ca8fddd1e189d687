use Rattle.std.proofs.Common.{sym}
use Rattle.desk_words.proofs.Numbers.{number_unread}
use Rattle.desk_words.proofs.order.number_of.Goals as goal

pub returns-in-Err : goal.returns-in-Err
returns-in-Err c =
    let is = rw (c.as_bytes.ensures.value, c.if-not-is_number.false) at c.is_number.ensures in
    sym (number_unread c.args.text.now c.in-Err.field-0 (rw c.in-Err.is at c.parse.ensures.value.0) (sym is))
