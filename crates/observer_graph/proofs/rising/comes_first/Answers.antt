use Rattle.std.proofs.Common.{◌≡◌, get_or, arith}
use Rattle.std.proofs.lemmas.Bool.{ltb-true}
use Rattle.observer_graph.proofs.Numbers.{with_first}
use Rattle.observer_graph.proofs.rising.comes_first.Goals as goal

pub returns-in-Some : goal.returns-in-Some
returns-in-Some c = λ before.
    let less = ltb-true c.place.result c.place-in-Some.result before in
    let here = c.place.ensures in let there = c.place-in-Some.ensures in
    let is : c.in-Some.first.now ≡ get_or c.args.nodes.now.items 0 c.in-Some.first.now = c.in-Some.ensures.lookup in
    with_first c.args.node c.args.nodes.now.items c.in-Some.first.now (omega arith)
