use Rattle.std.proofs.Common.{◌∙◌, sym, arith}
use Rattle.std.proofs.lemmas.Bool.{false≢true}
use Rattle.watch_rounds.proofs.Places.{is_there, taken_out, not_there}
use Rattle.watch_rounds.proofs.rounds.take_out.Goals as goal

pub returns-in-Some-clause-items : goal.returns-in-Some-clause-items
returns-in-Some-clause-items c = c.in-Some.ensures.items
    ∙ taken_out c.args.watcher c.args.due.now.items c.place_of-at.result c.requires.rising c.place_of-at.ensures
    (sym c.is_at.ensures ∙ c.if-is_at.true)

pub unreachable-requires : goal.unreachable-requires
unreachable-requires c =
    let is = is_there c.args.due.now.items c.place_of-at.result c.args.watcher (sym c.is_at.ensures ∙ c.if-is_at.true) in
    let low = is.0 in let len = c.args.due.now.ok.0 in
    false≢true (c.in-None.ensures.variant.1 (omega (arith, low, len)))

pub returns-else-is_at-clause-items : goal.returns-else-is_at-clause-items
returns-else-is_at-clause-items c = not_there c.args.watcher c.args.due.now.items c.place_of-at.result c.requires.rising
    c.place_of-at.ensures (sym c.is_at.ensures ∙ c.if-is_at.false)
