use Rattle.std.proofs.Common.{◌≡◌, ℕ, arith, length, subst}
use Rattle.observer_graph.specs.Noticed.{AreNoticed}
use Rattle.observer_graph.proofs.Spreading.{noted_by, told_by}
use Rattle.observer_graph.proofs.walk.tell_all.Goals as goal

pub pass_on-requires-clause-nodes : goal.pass_on-requires-clause-nodes
pass_on-requires-clause-nodes c = let long = c.tell_first.auto.nodes in let n = c.requires.nodes in omega arith

pub pass_on-requires-clause-wave : goal.pass_on-requires-clause-wave
pass_on-requires-clause-wave c = let long = c.tell_first.auto.nodes in let n = c.requires.nodes in
    let f = c.requires.wave.room in let l = c.tell_first.ensures.len in omega arith

pub pass_on-requires-clause-noticed : goal.pass_on-requires-clause-noticed
pass_on-requires-clause-noticed c =
    let same : length c.args.nodes.now ≡ length c.tell_first.new.nodes = let long = c.tell_first.auto.nodes in omega arith in
    subst (λ (n : ℕ). AreNoticed c.tell_first.new.noticed.items n) same c.tell_first.ensures.noticed

pub pass_on-requires-clause-room : goal.pass_on-requires-clause-room
pass_on-requires-clause-room c = let long = c.tell_first.auto.nodes in let r = c.requires.room in
    let m = c.tell_first.ensures.capacity in omega arith

pub returns-clause-told : goal.returns-clause-told
returns-clause-told c = told_by c.args.edges.now c.requires.whole c.args.sources.now.marks c.args.nodes.now
    c.args.noticed.now.items c.pass_on.new.nodes c.pass_on.new.wave c.pass_on.new.noticed.items
    (c.pass_on.ensures.spreads c.args.nodes.now c.args.noticed.now.items c.tell_first.ensures.spreads) c.pass_on.ensures.end
    (λ x o pair source. c.pass_on.ensures.stays c.args.nodes.now o (c.tell_first.ensures.starts x o pair source))

pub returns-clause-watchers : goal.returns-clause-watchers
returns-clause-watchers c = noted_by c.args.edges.now c.requires.whole c.args.sources.now.marks c.args.nodes.now
    c.args.noticed.now.items c.pass_on.new.nodes c.pass_on.new.wave c.pass_on.new.noticed.items
    (c.pass_on.ensures.spreads c.args.nodes.now c.args.noticed.now.items c.tell_first.ensures.spreads) c.pass_on.ensures.end
    (λ x o pair source. c.pass_on.ensures.stays c.args.nodes.now o (c.tell_first.ensures.starts x o pair source))

pub returns-clause-noticed : goal.returns-clause-noticed
returns-clause-noticed c =
    let same : length c.tell_first.new.nodes ≡ length c.args.nodes.now = let long = c.tell_first.auto.nodes in omega arith in
    subst (λ (n : ℕ). AreNoticed c.pass_on.new.noticed.items n) same c.pass_on.ensures.noticed
