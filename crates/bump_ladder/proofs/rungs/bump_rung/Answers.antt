use Rattle.std.proofs.Common.{◌∙◌}
use Rattle.bump_ladder.proofs.Climbing.{quoted_there}
use Rattle.bump_ladder.proofs.rungs.bump_rung.Goals as goal

pub group_rung-requires-clause-quoted : goal.group_rung-requires-clause-quoted
group_rung-requires-clause-quoted g c =
    quoted_there c.args.desk.now.market c.items.result.now _ (c.deref.ensures.value ∙ c.in_ok-quoted-in-Together.ensures)
