use Rattle.std.proofs.Common.{◌≡◌, inl, ◌+◌, ◌∙◌, ap, subst, refl, arith, ℕ, List, [], length, Option, None}
use Rattle.std.specs.Prelude.{IfSome, slice_index_or}
use Rattle.walks.specs.Walk.{Among}
use Rattle.wave_queue.specs.Thread.{open_count}
use Rattle.edge_lists.specs.EdgesView.{IsPair, HasSubject, observers_from}
use Rattle.edge_lists.proofs.Listing.{observers_step, subject_next, subject_there, observers_short}
use Rattle.observer_graph.specs.GraphView.{edges_as}
use Rattle.observer_graph.specs.Walks.{Leads}
use Rattle.observer_graph.specs.Turns.{HasSomeSubject, Goes, reads_in}
use Rattle.observer_graph.proofs.Turns.{goes_met, goes_past, goes_taken, marked_below, none_more, leads_up, edge_given, pair_given, none_given, none_above, some_as, observer_within, fewer_pairs, fewer_nodes}
use Rattle.observer_graph.proofs.by_turns.step_up.Goals as goal

pub observer_and_next-observer-requires : goal.observer_and_next-observer-requires
observer_and_next-observer-requires c =
    let has = subst (λ (f : Option ℕ). IfSome f (HasSomeSubject c.args.edges.now)) c.in-Some.is c.requires.there in
    subject_there c.args.edges.now c.in-Some.edge has.0 has.1

pub bounds-nodes-place : goal.bounds-nodes-place
bounds-nodes-place c =
    let has = subst (λ (f : Option ℕ). IfSome f (HasSomeSubject c.args.edges.now)) c.in-Some.is c.requires.there in
    let w = observer_within c.args.edges.now c.requires.whole c.in-Some.edge c.observer_and_next-observer.result.0
    c.observer_and_next-observer.ensures.observer has in
    let n = c.requires.nodes in let p = c.place.ensures in omega arith

pub push-requires : goal.push-requires
push-requires c =
    let has = subst (λ (f : Option ℕ). IfSome f (HasSomeSubject c.args.edges.now)) c.in-Some.is c.requires.there in
    let w = observer_within c.args.edges.now c.requires.whole c.in-Some.edge c.observer_and_next-observer.result.0
    c.observer_and_next-observer.ensures.observer has in
    let r = c.requires.room in let n = c.requires.nodes in omega arith

pub returns-then-has_edges-clause-there : goal.returns-then-has_edges-clause-there
returns-then-has_edges-clause-there c =
    let has = subst (λ (f : Option ℕ). IfSome f (HasSomeSubject c.args.edges.now)) c.in-Some.is c.requires.there in
    some_as (HasSubject c.args.edges.now) c.observer_and_next-observer.result.1 has.0
    (subject_next c.args.edges.now c.in-Some.edge has.0 c.observer_and_next-observer.result.1
    c.observer_and_next-observer.ensures.next has.1)

pub returns-else-has_edges-clause-there : goal.returns-else-has_edges-clause-there
returns-else-has_edges-clause-there c =
    let has = subst (λ (f : Option ℕ). IfSome f (HasSomeSubject c.args.edges.now)) c.in-Some.is c.requires.there in
    some_as (HasSubject c.args.edges.now) c.observer_and_next-observer.result.1 has.0
    (subject_next c.args.edges.now c.in-Some.edge has.0 c.observer_and_next-observer.result.1
    c.observer_and_next-observer.ensures.next has.1)

pub returns-in-Some-pop-clause-there : goal.returns-in-Some-pop-clause-there
returns-in-Some-pop-clause-there c = some_as (HasSubject c.args.edges.now) c.first_observer.result c.in-Some-pop.node
    c.first_observer.ensures.of

pub returns-then-has_edges-clause-marks : goal.returns-then-has_edges-clause-marks
returns-then-has_edges-clause-marks c =
    let has = subst (λ (f : Option ℕ). IfSome f (HasSomeSubject c.args.edges.now)) c.in-Some.is c.requires.there in
    let w = observer_within c.args.edges.now c.requires.whole c.in-Some.edge c.observer_and_next-observer.result.0
    c.observer_and_next-observer.ensures.observer has in
    marked_below c.observer_and_next-observer.result.0 c.push.result c.args.wave.now c.push.new.self
    (record { fresh = c.push.ensures.was; marks = c.push.ensures.marks; waiting = c.push.ensures.waiting })
    (let r = c.requires.room in let n = c.requires.nodes in omega arith) (length c.args.nodes.now)
    (let n = c.requires.nodes in omega arith) c.requires.marks

pub returns-then-has_edges-clause-up : goal.returns-then-has_edges-clause-up
returns-then-has_edges-clause-up c = λ to goes.
    let reads : ℕ → List ℕ = reads_in c.args.nodes.now c.args.edges.now in
    let P : ℕ → ℕ → Type 0 = λ x y. IsPair c.args.edges.now x y in
    let E : ℕ → ℕ → Type 0 = λ x y. Among x (reads y) in
    let has = subst (λ (f : Option ℕ). IfSome f (HasSomeSubject c.args.edges.now)) c.in-Some.is c.requires.there in
    let w = observer_within c.args.edges.now c.requires.whole c.in-Some.edge c.observer_and_next-observer.result.0
    c.observer_and_next-observer.ensures.observer has in
    let step = ap (observers_from c.args.edges.now) c.in-Some.is ∙ observers_step c.args.edges.now c.in-Some.edge
    has.0 c.observer_and_next-observer.result.0 c.observer_and_next-observer.result.1 c.observer_and_next-observer.ensures.next
    (record { subject = has.1; observer = c.observer_and_next-observer.ensures.observer }) in
    let ahead = subst (Goes P E (λ y. Leads reads y to) to c.args.wave.now) step goes in
    let edge = ahead.paired c.observer_and_next-observer.result.0 (inl refl) in
    goes_met c.observer_and_next-observer.result.0 c.push.result c.args.wave.now c.push.new.self
    (record { fresh = c.push.ensures.was; marks = c.push.ensures.marks; waiting = c.push.ensures.waiting })
    (let r = c.requires.room in let n = c.requires.nodes in omega arith)
    P E (λ y. Leads reads y to) to (observers_from c.args.edges.now c.observer_and_next-observer.result.1)
    (leads_up reads to edge.0 c.observer_and_next-observer.result.0
    (edge_given c.args.nodes.now c.args.edges.now c.requires.whole edge.0 c.observer_and_next-observer.result.0
    (λ subjects. subst (λ (n : ℕ). edges_as (slice_index_or c.args.nodes.now n None) subjects ≡ subjects) c.place.ensures
    (c.if-has_edges.ensures subjects)) edge.2) (ahead.sound edge.0 edge.1)) ahead

pub returns-else-has_edges-clause-up : goal.returns-else-has_edges-clause-up
returns-else-has_edges-clause-up c = λ to goes.
    let reads : ℕ → List ℕ = reads_in c.args.nodes.now c.args.edges.now in
    let P : ℕ → ℕ → Type 0 = λ x y. IsPair c.args.edges.now x y in
    let E : ℕ → ℕ → Type 0 = λ x y. Among x (reads y) in
    let has = subst (λ (f : Option ℕ). IfSome f (HasSomeSubject c.args.edges.now)) c.in-Some.is c.requires.there in
    let step = ap (observers_from c.args.edges.now) c.in-Some.is ∙ observers_step c.args.edges.now c.in-Some.edge
    has.0 c.observer_and_next-observer.result.0 c.observer_and_next-observer.result.1 c.observer_and_next-observer.ensures.next
    (record { subject = has.1; observer = c.observer_and_next-observer.ensures.observer }) in
    let ahead = subst (Goes P E (λ y. Leads reads y to) to c.args.wave.now) step goes in
    goes_past P E (λ y. Leads reads y to) to c.args.wave.now c.observer_and_next-observer.result.0
    (observers_from c.args.edges.now c.observer_and_next-observer.result.1)
    (λ x. none_given c.args.nodes.now c.args.edges.now x c.observer_and_next-observer.result.0
    (λ subjects. subst (λ (n : ℕ). edges_as (slice_index_or c.args.nodes.now n None) subjects ≡ []) c.place.ensures
    (c.if-has_edges.ensures subjects))) ahead

pub returns-in-Some-pop-clause-up : goal.returns-in-Some-pop-clause-up
returns-in-Some-pop-clause-up c = λ to goes.
    let reads : ℕ → List ℕ = reads_in c.args.nodes.now c.args.edges.now in
    let P : ℕ → ℕ → Type 0 = λ x y. IsPair c.args.edges.now x y in
    let E : ℕ → ℕ → Type 0 = λ x y. Among x (reads y) in
    goes_taken P E (λ y. Leads reads y to) to c.args.wave.now c.pop.new.self c.in-Some-pop.node
    (observers_from c.args.edges.now c.first_observer.result) c.in-Some-pop.ensures.waiting c.in-Some-pop.ensures.marks
    c.in-Some-pop.ensures.marked
    (λ y a. (c.first_observer.ensures.given y).0 a)
    (λ y a. (c.first_observer.ensures.given y).1 (pair_given c.args.nodes.now c.args.edges.now c.requires.whole c.in-Some-pop.node y a))
    (subst (Goes P E (λ y. Leads reads y to) to c.args.wave.now) (none_above c.args.edges.now c.args.pair.now c.in-None.is) goes)

pub returns-then-has_edges-clause-fewer : goal.returns-then-has_edges-clause-fewer
returns-then-has_edges-clause-fewer c = λ yes.
    let has = subst (λ (f : Option ℕ). IfSome f (HasSomeSubject c.args.edges.now)) c.in-Some.is c.requires.there in
    let w = observer_within c.args.edges.now c.requires.whole c.in-Some.edge c.observer_and_next-observer.result.0
    c.observer_and_next-observer.ensures.observer has in
    let step = ap (observers_from c.args.edges.now) c.in-Some.is ∙ observers_step c.args.edges.now c.in-Some.edge
    has.0 c.observer_and_next-observer.result.0 c.observer_and_next-observer.result.1 c.observer_and_next-observer.ensures.next
    (record { subject = has.1; observer = c.observer_and_next-observer.ensures.observer }) in
    let long = ap length step in
    fewer_pairs (open_count c.push.new.self.marks + length c.push.new.self.waiting)
    (open_count c.args.wave.now.marks + length c.args.wave.now.waiting) (length c.args.edges.now.slots + 1)
    (length (observers_from c.args.edges.now c.observer_and_next-observer.result.1))
    (length (observers_from c.args.edges.now c.args.pair.now))
    (none_more c.observer_and_next-observer.result.0 c.push.result c.args.wave.now c.push.new.self
    (record { fresh = c.push.ensures.was; marks = c.push.ensures.marks; waiting = c.push.ensures.waiting })
    (let r = c.requires.room in let n = c.requires.nodes in omega arith)) (omega arith)

pub returns-else-has_edges-clause-fewer : goal.returns-else-has_edges-clause-fewer
returns-else-has_edges-clause-fewer c = λ yes.
    let has = subst (λ (f : Option ℕ). IfSome f (HasSomeSubject c.args.edges.now)) c.in-Some.is c.requires.there in
    let step = ap (observers_from c.args.edges.now) c.in-Some.is ∙ observers_step c.args.edges.now c.in-Some.edge
    has.0 c.observer_and_next-observer.result.0 c.observer_and_next-observer.result.1 c.observer_and_next-observer.ensures.next
    (record { subject = has.1; observer = c.observer_and_next-observer.ensures.observer }) in
    let long = ap length step in
    fewer_pairs (open_count c.args.wave.now.marks + length c.args.wave.now.waiting)
    (open_count c.args.wave.now.marks + length c.args.wave.now.waiting) (length c.args.edges.now.slots + 1)
    (length (observers_from c.args.edges.now c.observer_and_next-observer.result.1))
    (length (observers_from c.args.edges.now c.args.pair.now)) refl (omega arith)

pub returns-in-Some-pop-clause-fewer : goal.returns-in-Some-pop-clause-fewer
returns-in-Some-pop-clause-fewer c = λ yes.
    let marks = ap open_count c.in-Some-pop.ensures.marks in
    let waited = ap (length) c.in-Some-pop.ensures.waiting in
    let short = observers_short c.args.edges.now c.first_observer.result in
    fewer_nodes (open_count c.pop.new.self.marks + length c.pop.new.self.waiting)
    (open_count c.args.wave.now.marks + length c.args.wave.now.waiting) (length c.args.edges.now.slots + 1)
    (length (observers_from c.args.edges.now c.first_observer.result))
    (length (observers_from c.args.edges.now c.args.pair.now)) (omega arith) (omega arith)
