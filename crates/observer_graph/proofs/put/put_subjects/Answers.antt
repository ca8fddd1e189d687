use Rattle.std.proofs.Common.{inl, inr, ◌<◌, ◌∙◌, ap, sym, subst, refl, arith, ℕ, Bool, List, length, Option}
use Rattle.std.specs.Prelude.{IfSome}
use Rattle.walks.specs.Walk.{Among}
use Rattle.edge_lists.specs.EdgesView.{IsPair, HasObserver, subjects_from}
use Rattle.edge_lists.proofs.Listing.{subjects_step, observer_next, subjects_none, observer_there}
use Rattle.wave_queue.specs.Thread.{is_marked}
use Rattle.wave_queue.proofs.Threads.{marked_more}
use Rattle.observer_graph.proofs.Filling.{puts_none, puts_more}
use Rattle.observer_graph.proofs.put.put_subjects.Goals as goal

pub loop-at-init : goal.loop-at-init
loop-at-init c = record {
  of = c.first_subject-at.ensures.of;
  ahead = λ o a. (c.first_subject-at.ensures.given o).0 a;
  all = λ o pair. inr ((c.first_subject-at.ensures.given o).1 pair);
  puts = puts_none c.args.wave.now (λ o. IsPair c.args.edges.now o c.args.node);
}

pub subject_and_next-subject-requires : goal.subject_and_next-subject-requires
subject_and_next-subject-requires c = observer_there c.args.edges.now c.in-Some.edge c.args.node
    (subst (λ (f : Option ℕ). IfSome f (λ edge. HasObserver c.args.edges.now edge c.args.node)) c.in-Some.is c.loop-at.invariant.of)

pub push-requires : goal.push-requires
push-requires c =
    let is = ap (subjects_from c.args.edges.now) c.in-Some.is in
    let has = subst (λ (f : Option ℕ). IfSome f (λ edge. HasObserver c.args.edges.now edge c.args.node)) c.in-Some.is c.loop-at.invariant.of in
    let step = is ∙ subjects_step c.args.edges.now c.in-Some.edge c.subject_and_next-subject.result.0 c.args.node
    c.subject_and_next-subject.result.1 c.subject_and_next-subject.ensures.next
    (record { subject = c.subject_and_next-subject.ensures.subject; observer = has }) in
    let holds = c.loop-at.invariant.ahead c.subject_and_next-subject.result.0
    (subst (λ (xs : List ℕ). Among c.subject_and_next-subject.result.0 xs) (sym step) (inl refl)) in
    let w = c.requires.within c.subject_and_next-subject.result.0 holds in let l = c.loop-at.invariant.puts.len in omega arith

pub loop-at-preserved : goal.loop-at-preserved
loop-at-preserved c =
    let is = ap (subjects_from c.args.edges.now) c.in-Some.is in
    let has = subst (λ (f : Option ℕ). IfSome f (λ edge. HasObserver c.args.edges.now edge c.args.node)) c.in-Some.is c.loop-at.invariant.of in
    let step = is ∙ subjects_step c.args.edges.now c.in-Some.edge c.subject_and_next-subject.result.0 c.args.node
    c.subject_and_next-subject.result.1 c.subject_and_next-subject.ensures.next
    (record { subject = c.subject_and_next-subject.ensures.subject; observer = has }) in
    let holds = c.loop-at.invariant.ahead c.subject_and_next-subject.result.0
    (subst (λ (xs : List ℕ). Among c.subject_and_next-subject.result.0 xs) (sym step) (inl refl)) in
    let low : c.subject_and_next-subject.result.0 < length c.loop-at.wave.marks =
    let w = c.requires.within c.subject_and_next-subject.result.0 holds in let l = c.loop-at.invariant.puts.len in omega arith in
    record {
      of = observer_next c.args.edges.now c.in-Some.edge c.args.node c.subject_and_next-subject.result.1
          c.subject_and_next-subject.ensures.next has;
      ahead = λ o a. c.loop-at.invariant.ahead o (subst (λ (xs : List ℕ). Among o xs) (sym step) (inr a));
      all = λ o pair. elim (c.loop-at.invariant.all o pair) [
        | inl on ↦ inl (ap (λ (m : List Bool). is_marked m o) c.push.ensures.marks
            ∙ (marked_more c.loop-at.wave.marks c.subject_and_next-subject.result.0 o low).1 (inl on))
        | inr a ↦ elim (subst (λ (xs : List ℕ). Among o xs) step a) [
          | inl same ↦ inl (ap (λ (m : List Bool). is_marked m o) c.push.ensures.marks
              ∙ (marked_more c.loop-at.wave.marks c.subject_and_next-subject.result.0 o low).1 (inr same))
          | inr rest ↦ inr rest
        ]
      ];
      puts = puts_more c.args.wave.now c.loop-at.wave c.push.new.self (λ o. IsPair c.args.edges.now o c.args.node)
          c.subject_and_next-subject.result.0 c.push.result c.loop-at.invariant.puts holds low c.push.ensures.was
          c.push.ensures.marks c.push.ensures.waiting;
    }

pub returns-clause-all : goal.returns-clause-all
returns-clause-all c = λ o pair. elim (c.loop-at.invariant.all o pair) [
  | inl on ↦ on
  | inr a ↦ absurd (subjects_none c.args.edges.now o
      (subst (λ (f : Option ℕ). Among o (subjects_from c.args.edges.now f)) c.in_default.is a))
]
