use Rattle.std.specs.Prelude.{codes}
use Rattle.session_why.proofs.Lined.{ends}
use Rattle.session_why.proofs.Plain.{quote_line}
use Rattle.session_why.proofs.objects.push_quote.Goals as goal

pub returns : goal.returns
returns c = λ calc.
    ends c.extend_from_slice.result _ c.push_value.new.out.items (codes "\n") _ c.extend_from_slice.ensures.items
    (quote_line calc c.args.session.now c.args.object c.desk.result.now c.desk.ensures _ _ _ c.quote.result
    (rw c.deref.ensures at c.quote.ensures)
    c.in_ok-push_head.ensures c.in_ok-push_value.ensures)
