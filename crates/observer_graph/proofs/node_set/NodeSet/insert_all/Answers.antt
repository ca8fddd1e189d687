use Rattle.std.proofs.Common.{arith}
use Rattle.observer_graph.proofs.Members.{among_item}
use Rattle.observer_graph.proofs.Growth.{extends_none, extends_more, extends_end}
use Rattle.observer_graph.proofs.node_set.NodeSet.insert_all.Goals as goal

pub loop-node-init : goal.loop-node-init
loop-node-init c = extends_none c.args.self.now c.args.nodes.now

pub insert-requires : goal.insert-requires
insert-requires c = let a = c.requires c.node-item.result
    (among_item c.args.nodes.now c.loop-node.node-index c.node-item.result c.loop-node-test.true c.node-item.is)
    in let room = c.loop-node.invariant.room in omega arith

pub loop-node-preserved : goal.loop-node-preserved
loop-node-preserved c = extends_more c.args.self.now c.loop-node.self c.insert.new.self c.args.nodes.now
    c.loop-node.node-index c.node-item.result c.loop-node-test.true c.node-item.is c.loop-node.invariant
    c.insert.ensures.extends

pub returns : goal.returns
returns c = extends_end c.args.self.now c.loop-node.self c.args.nodes.now c.loop-node.node-index
    c.loop-node-test.false c.loop-node.invariant
