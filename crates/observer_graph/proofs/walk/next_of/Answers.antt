use Rattle.std.proofs.Common.{◌≡◌, ◌<◌, [], ◌∷◌, inl, inr, refl, subst, arith, length, true, Option, ℕ}
use Rattle.std.specs.Prelude.{IfSome}
use Rattle.std.proofs.lemmas.List.{length-append}
use Rattle.wave_queue.specs.Thread.{is_marked}
use Rattle.wave_queue.proofs.Threads.{among_last}
use Rattle.observer_graph.specs.Puts.{carrying}
use Rattle.observer_graph.specs.Telling.{IsFirstPair}
use Rattle.observer_graph.proofs.Filling.{if_then, popped_end, popped_load, popped_marked, popped_taken}
use Rattle.observer_graph.proofs.walk.next_of.Goals as goal

pub returns-in-Some-clause-marks : goal.returns-in-Some-clause-marks
returns-in-Some-clause-marks c = rw c.in-Some.is refl

pub returns-in-Some-clause-marked : goal.returns-in-Some-clause-marked
returns-in-Some-clause-marked c = subst (λ (r : Option ℕ). IfSome r (λ o. is_marked (carrying r c.args.wave.now).marks o ≡ true))
    c.in-Some.is c.requires.marked

pub returns-in-Some-clause-taken : goal.returns-in-Some-clause-taken
returns-in-Some-clause-taken c = rw c.in-Some.is
    (λ x a. elim ((among_last x c.args.wave.now.waiting c.in-Some.node).0 a) [ inl waits ↦ inr waits | inr same ↦ inl same ])

pub returns-in-Some-clause-load : goal.returns-in-Some-clause-load
returns-in-Some-clause-load c = rw c.in-Some.is
    (let e = length-append c.args.wave.now.waiting (c.in-Some.node ∷ []) in omega arith)

pub returns-in-Some-clause-first : goal.returns-in-Some-clause-first
returns-in-Some-clause-first c = subst (λ (r : Option ℕ). IfSome r (λ o. IsFirstPair c.args.edges.now o c.args.first.now))
    c.in-Some.is c.requires.first

pub aim-requires : goal.aim-requires
aim-requires c = if_then c.pop.result (λ o. is_marked c.args.wave.now.marks o ≡ true) (λ o. o < length c.args.edges.now.nodes)
    c.requires.below c.pop.ensures.marked

pub returns-in-None-clause-end : goal.returns-in-None-clause-end
returns-in-None-clause-end c = rw (c.in-None.is, c.aim.ensures.same)
    (popped_end c.pop.result c.args.wave.now c.pop.new.self c.pop.ensures.waiting c.pop.ensures.same)

pub returns-in-None-clause-marks : goal.returns-in-None-clause-marks
returns-in-None-clause-marks c = rw c.in-None.is c.pop.ensures.marks

pub returns-in-None-clause-marked : goal.returns-in-None-clause-marked
returns-in-None-clause-marked c = rw c.aim.ensures.same
    (popped_marked c.pop.result c.args.wave.now c.pop.new.self c.pop.ensures.marks c.pop.ensures.marked)

pub returns-in-None-clause-taken : goal.returns-in-None-clause-taken
returns-in-None-clause-taken c = rw (c.in-None.is, c.aim.ensures.same)
    (popped_taken c.pop.result c.args.wave.now c.pop.new.self c.pop.ensures.waiting)

pub returns-in-None-clause-load : goal.returns-in-None-clause-load
returns-in-None-clause-load c = rw (c.in-None.is, c.aim.ensures.same)
    (popped_load c.pop.result c.args.wave.now c.pop.new.self c.pop.ensures.waiting)

pub returns-in-None-clause-first : goal.returns-in-None-clause-first
returns-in-None-clause-first c = rw c.aim.ensures.same c.aim.ensures.first
