use Rattle.std.proofs.Common.{◌∙◌, sym}
use Rattle.watch_rounds.proofs.Places.{place_there}
use Rattle.watch_rounds.proofs.rounds.place_near.Goals as goal

pub returns-then-is_at : goal.returns-then-is_at
returns-then-is_at c = place_there c.args.due.now.items c.args.guess c.args.watcher c.requires
    (sym c.is_at.ensures ∙ c.if-is_at.true)
