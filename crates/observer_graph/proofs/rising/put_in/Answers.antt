use Rattle.std.proofs.Common.{◌∙◌, ℕ, List, sym, ap, length, arith}
use Rattle.std.proofs.lemmas.List.Edits.{length-insert}
use Rattle.observer_graph.proofs.Numbers.{put_there, stays_there}
use Rattle.observer_graph.proofs.rising.put_in.Goals as goal

pub push_front_reserved-requires : goal.push_front_reserved-requires
push_front_reserved-requires c =
    let is = ap (λ (numbers : List ℕ). length numbers) (c.comes_first.ensures c.if-comes_first.true) in
    let room = c.requires.room in let len = c.args.nodes.now.ok.0 in omega arith

pub returns-in-Ok-clause-items : goal.returns-in-Ok-clause-items
returns-in-Ok-clause-items c = rw (c.in-Ok.ensures.items) (put_there c.args.entry c.args.nodes.now.items c.place_of-at.result
    c.place_of-at.ensures
    (sym c.is_at.ensures ∙ c.if-not-is_at.true))

pub returns-else-not-is_at-clause-items : goal.returns-else-not-is_at-clause-items
returns-else-not-is_at-clause-items c = stays_there c.args.entry c.args.nodes.now.items c.place_of-at.result
    c.place_of-at.ensures
    (sym c.is_at.ensures ∙ c.if-not-is_at.false)

pub unreachable-requires : goal.unreachable-requires
unreachable-requires c =
    let place = c.place_of-at.ensures in
    let is = put_there c.args.entry c.args.nodes.now.items c.place_of-at.result place
    (sym c.is_at.ensures ∙ c.if-not-is_at.true) in
    let more = length-insert c.args.nodes.now.items c.place_of-at.result c.args.entry place.0 in
    let long = ap length is in let room = c.requires.room in let len = c.args.nodes.now.ok.0 in
    let full = c.in-Err.ensures.full in omega arith
