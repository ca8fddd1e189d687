use Rattle.std.proofs.Common.{◌≡◌, inl, ◌∙◌, ap, subst, refl, arith, ℕ, List, [], length, Option, None}
use Rattle.std.specs.Prelude.{IfSome, slice_index_or}
use Rattle.walks.specs.Walk.{Among}
use Rattle.edge_lists.specs.EdgesView.{HasObserver, subjects_from}
use Rattle.edge_lists.proofs.Listing.{subjects_step, observer_next, observer_there}
use Rattle.observer_graph.specs.GraphView.{edges_as}
use Rattle.observer_graph.specs.Walks.{Leads}
use Rattle.observer_graph.specs.Turns.{HasSomeObserver, Goes, reads_in}
use Rattle.observer_graph.proofs.Turns.{goes_met, goes_taken, marked_below, leads_down, edge_given, pair_given, none_given, none_beneath, some_as, subject_within}
use Rattle.observer_graph.proofs.by_turns.step_down.Goals as goal

pub subject_and_next-subject-requires : goal.subject_and_next-subject-requires
subject_and_next-subject-requires c =
    let has = subst (λ (f : Option ℕ). IfSome f (HasSomeObserver c.args.edges.now)) c.in-Some.is c.requires.there in
    observer_there c.args.edges.now c.in-Some.edge has.0 has.1

pub push-requires : goal.push-requires
push-requires c =
    let has = subst (λ (f : Option ℕ). IfSome f (HasSomeObserver c.args.edges.now)) c.in-Some.is c.requires.there in
    let w = subject_within c.args.edges.now c.requires.whole c.in-Some.edge c.subject_and_next-subject.result.0
    c.subject_and_next-subject.ensures.subject has in
    let r = c.requires.room in let n = c.requires.nodes in omega arith

pub returns-in-Some-clause-there : goal.returns-in-Some-clause-there
returns-in-Some-clause-there c =
    let has = subst (λ (f : Option ℕ). IfSome f (HasSomeObserver c.args.edges.now)) c.in-Some.is c.requires.there in
    some_as (HasObserver c.args.edges.now) c.subject_and_next-subject.result.1 has.0
    (observer_next c.args.edges.now c.in-Some.edge has.0 c.subject_and_next-subject.result.1
    c.subject_and_next-subject.ensures.next has.1)

pub returns-in-Some-clause-marks : goal.returns-in-Some-clause-marks
returns-in-Some-clause-marks c =
    let has = subst (λ (f : Option ℕ). IfSome f (HasSomeObserver c.args.edges.now)) c.in-Some.is c.requires.there in
    let w = subject_within c.args.edges.now c.requires.whole c.in-Some.edge c.subject_and_next-subject.result.0
    c.subject_and_next-subject.ensures.subject has in
    marked_below c.subject_and_next-subject.result.0 c.push.result c.args.wave.now c.push.new.self
    (record { fresh = c.push.ensures.was; marks = c.push.ensures.marks; waiting = c.push.ensures.waiting })
    (let r = c.requires.room in let n = c.requires.nodes in omega arith) (length c.args.nodes.now)
    (let n = c.requires.nodes in omega arith) c.requires.marks

pub returns-in-Some-clause-down : goal.returns-in-Some-clause-down
returns-in-Some-clause-down c = λ from goes.
    let reads : ℕ → List ℕ = reads_in c.args.nodes.now c.args.edges.now in
    let E : ℕ → ℕ → Type 0 = λ x y. Among y (reads x) in
    let has = subst (λ (f : Option ℕ). IfSome f (HasSomeObserver c.args.edges.now)) c.in-Some.is c.requires.there in
    let w = subject_within c.args.edges.now c.requires.whole c.in-Some.edge c.subject_and_next-subject.result.0
    c.subject_and_next-subject.ensures.subject has in
    let step = ap (subjects_from c.args.edges.now) c.in-Some.is ∙ subjects_step c.args.edges.now c.in-Some.edge
    c.subject_and_next-subject.result.0 has.0 c.subject_and_next-subject.result.1 c.subject_and_next-subject.ensures.next
    (record { subject = c.subject_and_next-subject.ensures.subject; observer = has.1 }) in
    let ahead = subst (Goes E E (λ y. Leads reads from y) from c.args.wave.now) step goes in
    let edge = ahead.paired c.subject_and_next-subject.result.0 (inl refl) in
    goes_met c.subject_and_next-subject.result.0 c.push.result c.args.wave.now c.push.new.self
    (record { fresh = c.push.ensures.was; marks = c.push.ensures.marks; waiting = c.push.ensures.waiting })
    (let r = c.requires.room in let n = c.requires.nodes in omega arith)
    E E (λ y. Leads reads from y) from (subjects_from c.args.edges.now c.subject_and_next-subject.result.1)
    (leads_down reads from edge.0 c.subject_and_next-subject.result.0 edge.2 (ahead.sound edge.0 edge.1)) ahead

pub returns-then-has_edges-clause-there : goal.returns-then-has_edges-clause-there
returns-then-has_edges-clause-there c = some_as (HasObserver c.args.edges.now) c.first_subject.result c.in-Some-pop.node
    c.first_subject.ensures.of

pub returns-then-has_edges-clause-down : goal.returns-then-has_edges-clause-down
returns-then-has_edges-clause-down c = λ from goes.
    let reads : ℕ → List ℕ = reads_in c.args.nodes.now c.args.edges.now in
    let E : ℕ → ℕ → Type 0 = λ x y. Among y (reads x) in
    goes_taken E E (λ y. Leads reads from y) from c.args.wave.now c.pop.new.self c.in-Some-pop.node
    (subjects_from c.args.edges.now c.first_subject.result) c.in-Some-pop.ensures.waiting c.in-Some-pop.ensures.marks
    c.in-Some-pop.ensures.marked
    (λ y a. edge_given c.args.nodes.now c.args.edges.now c.requires.whole y c.in-Some-pop.node
    (λ subjects. subst (λ (n : ℕ). edges_as (slice_index_or c.args.nodes.now n None) subjects ≡ subjects) c.place.ensures
    (c.if-has_edges.ensures subjects)) ((c.first_subject.ensures.given y).0 a))
    (λ y a. (c.first_subject.ensures.given y).1 (pair_given c.args.nodes.now c.args.edges.now c.requires.whole y c.in-Some-pop.node a))
    (subst (Goes E E (λ y. Leads reads from y) from c.args.wave.now) (none_beneath c.args.edges.now c.args.pair.now c.in-None.is) goes)

pub returns-else-has_edges-clause-down : goal.returns-else-has_edges-clause-down
returns-else-has_edges-clause-down c = λ from goes.
    let reads : ℕ → List ℕ = reads_in c.args.nodes.now c.args.edges.now in
    let E : ℕ → ℕ → Type 0 = λ x y. Among y (reads x) in
    let none = none_beneath c.args.edges.now c.args.pair.now c.in-None.is in
    goes_taken E E (λ y. Leads reads from y) from c.args.wave.now c.pop.new.self c.in-Some-pop.node
    (subjects_from c.args.edges.now c.args.pair.now) c.in-Some-pop.ensures.waiting c.in-Some-pop.ensures.marks
    c.in-Some-pop.ensures.marked
    (λ y a. absurd (subst (Among y) none a))
    (λ y a. absurd (none_given c.args.nodes.now c.args.edges.now y c.in-Some-pop.node
    (λ subjects. subst (λ (n : ℕ). edges_as (slice_index_or c.args.nodes.now n None) subjects ≡ []) c.place.ensures
    (c.if-has_edges.ensures subjects)) a))
    (subst (Goes E E (λ y. Leads reads from y) from c.args.wave.now) none goes)
