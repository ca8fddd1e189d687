use Rattle.std.proofs.Common.{◌+◌, ◌∷◌, ◌∙◌, ap, sym, subst, arith, List, ℕ, length}
use Rattle.walks.specs.Walk.{Among, IsOnce}
use Rattle.wave_queue.specs.Thread.{nodes_between}
use Rattle.wave_queue.proofs.Threads.{first_low, first_marked, first_within, stands_taken, waiting_is, read_none}
use Rattle.wave_queue.proofs.wave.Wave.pop.Goals as goal

pub returns-then-self-clause-waiting : goal.returns-then-self-clause-waiting
returns-then-self-clause-waiting c = rw (← c.self.view_is)
    (ap (λ (at : ℕ). nodes_between c.self.inside.nexts.items (length c.self.inside.nexts.items) at c.self.inside.last)
    c.if-self.true
    ∙ read_none c.self.inside.nexts.items (length c.self.inside.nexts.items) c.self.inside.last)

pub index-node-requires : goal.index-node-requires
index-node-requires c =
    let low = first_low c.self.inside.stamp c.self.inside.stamps.items c.self.inside.nexts.items c.self.inside.done
    c.self.inside.last c.self.invariant c.if-self.false in
    let v = c.self.inside.nexts.ok.0 in omega arith

pub overflow_add-self : goal.overflow_add-self
overflow_add-self c =
    let low = first_low c.self.inside.stamp c.self.inside.stamps.items c.self.inside.nexts.items c.self.inside.done
    c.self.inside.last c.self.invariant c.if-self.false in
    let taken = stands_taken c.self.inside.stamp c.self.inside.stamps.items c.self.inside.nexts.items
    c.self.inside.done c.self.inside.last c.self.invariant
    c.if-self.false low c.index-node.result.now c.place.result c.index-node.ensures c.place.ensures in
    let within = first_within c.self.inside.stamp c.self.inside.stamps.items c.self.inside.nexts.items
    c.self.inside.done c.self.inside.last c.self.invariant c.index-node.result.now taken.0.waiting taken.1 in
    let p = c.place.ensures in let v = c.self.inside.stamps.ok in omega arith

pub invariant_of-self : goal.invariant_of-self
invariant_of-self c =
    let low = first_low c.self.inside.stamp c.self.inside.stamps.items c.self.inside.nexts.items c.self.inside.done
    c.self.inside.last c.self.invariant c.if-self.false in
    (stands_taken c.self.inside.stamp c.self.inside.stamps.items c.self.inside.nexts.items c.self.inside.done
    c.self.inside.last c.self.invariant c.if-self.false low c.index-node.result.now c.place.result c.index-node.ensures
    c.place.ensures).0

pub returns-clause-waiting : goal.returns-clause-waiting
returns-clause-waiting c =
    let low = first_low c.self.inside.stamp c.self.inside.stamps.items c.self.inside.nexts.items c.self.inside.done
    c.self.inside.last c.self.invariant c.if-self.false in
    let taken = stands_taken c.self.inside.stamp c.self.inside.stamps.items c.self.inside.nexts.items
    c.self.inside.done c.self.inside.last c.self.invariant
    c.if-self.false low c.index-node.result.now c.place.result c.index-node.ensures c.place.ensures in
    rw (← c.self.view_is)
    (waiting_is c.self.inside.stamp c.self.inside.stamps.items c.self.inside.nexts.items c.self.inside.done
    c.self.inside.last c.self.invariant ∙ taken.1
    ∙ ap (λ (xs : List ℕ). c.index-node.result.now ∷ xs) (sym (waiting_is c.self.inside.stamp
    c.self.inside.stamps.items c.self.inside.nexts.items (c.place.result + 1) c.self.inside.last taken.0)))

pub returns-clause-marked : goal.returns-clause-marked
returns-clause-marked c =
    let low = first_low c.self.inside.stamp c.self.inside.stamps.items c.self.inside.nexts.items c.self.inside.done
    c.self.inside.last c.self.invariant c.if-self.false in
    let taken = stands_taken c.self.inside.stamp c.self.inside.stamps.items c.self.inside.nexts.items
    c.self.inside.done c.self.inside.last c.self.invariant
    c.if-self.false low c.index-node.result.now c.place.result c.index-node.ensures c.place.ensures in
    rw (← c.self.view_is)
    (first_marked c.self.inside.stamp c.self.inside.stamps.items c.self.inside.nexts.items c.self.inside.done
    c.self.inside.last c.self.invariant c.index-node.result.now taken.0.waiting taken.1)

-- the nodes that wait are each there once
pub returns-clause-once : goal.returns-clause-once
returns-clause-once c = λ a.
    let low = first_low c.self.inside.stamp c.self.inside.stamps.items c.self.inside.nexts.items c.self.inside.done
    c.self.inside.last c.self.invariant c.if-self.false in
    let taken = stands_taken c.self.inside.stamp c.self.inside.stamps.items c.self.inside.nexts.items
    c.self.inside.done c.self.inside.last c.self.invariant
    c.if-self.false low c.index-node.result.now c.place.result c.index-node.ensures c.place.ensures in
    (subst IsOnce taken.1 c.self.invariant.once).0
    (subst (λ (xs : List ℕ). Among c.index-node.result.now xs) (waiting_is c.self.inside.stamp
    c.self.inside.stamps.items c.self.inside.nexts.items (c.place.result + 1) c.self.inside.last taken.0) a)
