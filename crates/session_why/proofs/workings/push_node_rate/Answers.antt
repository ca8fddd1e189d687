use Rattle.why_model.specs.Answer.{named}
use Rattle.std.specs.Prelude.{[], codes}
use Rattle.session_why.proofs.Lined.{ends, node_line}
use Rattle.session_why.proofs.workings.push_node_rate.Goals as goal

pub returns : goal.returns
returns c =
    ends c.extend_from_slice.result _ c.push_rate.new.out.items (codes "\n") _ c.extend_from_slice.ensures.items
    (node_line (named c.args.session.now c.args.object) c.args.out.now.items _ _ _ _ [] [] c.args.session.now
    (record { node = c.args.node.now; quote = c.args.quote; rate = c.args.rate })
    c.in_ok-push_head.ensures c.in_ok-push_point.ensures c.in_ok-push_name.ensures c.in_ok-push_rate.ensures)
