use Rattle.session_why.proofs.Lined.{fixing_line}
use Rattle.session_why.proofs.sums.push_fixed.Goals as goal

pub returns : goal.returns
returns c =
    fixing_line c.push_rate.result c.args.day c.args.rate _ _ _ _ c.in_ok-extend_from_slice.ensures.items
    c.in_ok-push_day.ensures
    c.push_rate.ensures
