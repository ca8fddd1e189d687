use Rattle.std.proofs.Common.{◌<◌, length, arith}
use Rattle.observer_graph.proofs.Members.{among_item}
use Rattle.observer_graph.proofs.Marks.{marked_within, unmarked_more, unmarked_all}
use Rattle.observer_graph.proofs.node_set.unmark_all.Goals as goal

within : (c : goal.After-place) → c.node-item.result < length c.loop-node.marks
within c = let w = marked_within c.args.marks.now c.node-item.result (c.requires.marked c.node-item.result
    (among_item c.args.nodes.now c.loop-node.node-index c.node-item.result c.loop-node-test.true c.node-item.is)) in
    let long = c.loop-node.auto.marks in omega arith

pub bounds-marks-place : goal.bounds-marks-place
bounds-marks-place c = rw c.place.ensures (within c)

pub loop-node-init : goal.loop-node-init
loop-node-init c = c.requires.listed

pub loop-node-preserved : goal.loop-node-preserved
loop-node-preserved c = rw c.place.ensures (unmarked_more c.loop-node.marks c.args.nodes.now c.loop-node.node-index
    c.node-item.result c.loop-node-test.true c.node-item.is (within c) c.loop-node.invariant)

pub returns : goal.returns
returns c = record {
  marks = unmarked_all c.loop-node.marks c.args.nodes.now c.loop-node.node-index
      c.loop-node-test.false c.loop-node.invariant;
}
