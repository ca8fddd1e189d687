use Rattle.std.proofs.Common.{◌<◌, ◌∙◌, ap, sym, arith, true, length}
use Rattle.std.proofs.lemmas.List.{length-set}
use Rattle.observer_graph.proofs.Turns.{marked_below, none_below, down_begins, up_begins, down_ends, up_ends}
use Rattle.observer_graph.proofs.by_turns.leads_by_turns.Goals as goal

pub loop-to-init : goal.loop-to-init
loop-to-init c =
    let from_low : c.args.from < length c.args.down.now.marks = let f = c.requires.from in let n = c.requires.nodes in
    let r = c.requires.down.room in omega arith in
    let to_low : c.args.to < length c.args.up.now.marks = let t = c.requires.to in let n = c.requires.nodes in
    let r = c.requires.up.room in omega arith in record {
      beneath_there = tt;
      above_there = tt;
      down_room = ap length c.push.ensures.marks ∙ length-set c.args.down.now.marks c.args.from true;
      up_room = ap length c.push-2.ensures.marks ∙ length-set c.args.up.now.marks c.args.to true;
      down_marks = marked_below c.args.from c.push.result c.args.down.now c.push.new.self
          (record { fresh = c.push.ensures.was; marks = c.push.ensures.marks; waiting = c.push.ensures.waiting }) from_low
          (length c.args.nodes.now) c.requires.from (none_below (length c.args.edges.now.nodes) (length c.args.nodes.now)
          c.args.down.now c.requires.down);
      up_marks = marked_below c.args.to c.push-2.result c.args.up.now c.push-2.new.self
          (record { fresh = c.push-2.ensures.was; marks = c.push-2.ensures.marks; waiting = c.push-2.ensures.waiting }) to_low
          (length c.args.nodes.now) c.requires.to (none_below (length c.args.edges.now.nodes) (length c.args.nodes.now)
          c.args.up.now c.requires.up);
      descends = down_begins c.args.nodes.now c.args.edges.now (length c.args.edges.now.nodes) c.args.from c.push.result
          c.args.down.now c.push.new.self
          (record { fresh = c.push.ensures.was; marks = c.push.ensures.marks; waiting = c.push.ensures.waiting }) from_low
          c.requires.down;
      ascends = up_begins c.args.nodes.now c.args.edges.now (length c.args.edges.now.nodes) c.args.to c.push-2.result
          c.args.up.now c.push-2.new.self
          (record { fresh = c.push-2.ensures.was; marks = c.push-2.ensures.marks; waiting = c.push-2.ensures.waiting }) to_low
          c.requires.up;
    }

pub returns-then-not-step_down-clause-answer : goal.returns-then-not-step_down-clause-answer
returns-then-not-step_down-clause-answer c =
    let end = c.step_down.ensures.end c.if-not-step_down.true in
    let met = down_ends c.args.nodes.now c.args.edges.now c.args.from c.args.to c.step_down.new.wave c.step_down.new.pair
    (c.step_down.ensures.down c.args.from c.loop-to.invariant.descends) end.0 end.1 in
    (λ yes. met.0 (sym c.is_marked.ensures ∙ yes), λ leads. c.is_marked.ensures ∙ met.1 leads)

pub returns-clause-answer : goal.returns-clause-answer
returns-clause-answer c =
    let end = c.step_up.ensures.end c.loop-to-test.false in
    let met = up_ends c.args.nodes.now c.args.edges.now c.args.from c.args.to c.step_up.new.wave c.step_up.new.pair
    (c.step_up.ensures.up c.args.to c.loop-to.invariant.ascends) end.0 end.1 in
    (λ yes. met.0 (sym c.is_marked-2.ensures ∙ yes), λ leads. c.is_marked-2.ensures ∙ met.1 leads)
