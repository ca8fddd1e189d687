use Rattle.std.proofs.Common.{◌∙◌, sym, ap, length, arith}
use Rattle.std.proofs.lemmas.List.Edits.{length-insert}
use Rattle.watch_rounds.proofs.Places.{put_there, stays_there}
use Rattle.watch_rounds.proofs.rounds.put_in.Goals as goal

pub returns-in-Ok-clause-items : goal.returns-in-Ok-clause-items
returns-in-Ok-clause-items c = rw (c.in-Ok.ensures.items)
    (put_there c.args.entry c.args.due.now.items c.args.at c.requires.place
    (sym c.is_at.ensures ∙ c.if-not-is_at.true))

pub returns-else-not-is_at-clause-items : goal.returns-else-not-is_at-clause-items
returns-else-not-is_at-clause-items c = stays_there c.args.entry c.args.due.now.items c.args.at c.requires.place
    (sym c.is_at.ensures ∙ c.if-not-is_at.false)

pub unreachable-requires : goal.unreachable-requires
unreachable-requires c =
    let is = put_there c.args.entry c.args.due.now.items c.args.at c.requires.place
    (sym c.is_at.ensures ∙ c.if-not-is_at.true) in
    let more = length-insert c.args.due.now.items c.args.at c.args.entry c.requires.place.0 in
    let long = ap length is in let room = c.requires.room in let len = c.args.due.now.ok.0 in
    let full = c.in-Err.ensures.full in omega arith
