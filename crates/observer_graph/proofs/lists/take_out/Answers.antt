use Rattle.std.proofs.Common.{◌≡◌, ℕ, refl, sym, ap, subst, ◌∙◌, ◌<◌, length}
use Rattle.std.specs.Prelude.{position, slice_index_or, ◌==◌}
use Rattle.std.proofs.lemmas.List.Edits.{length-remove}
use Rattle.walks.specs.Walk.{Among, IsOnce}
use Rattle.observer_graph.proofs.Members.{none_found, found_place, among_at, taken_out, once_left}
use Rattle.observer_graph.proofs.lists.take_out.Goals as goal

absent : (c : goal.In-None) → Among c.args.node c.args.list.now.items → ⊥
absent c = none_found c.args.list.now.items c.args.node (ap (position (λ x. x == c.args.node))
    (sym c.deref.ensures.value) ∙ sym c.place_of.ensures ∙ c.in-None.is)

found : (c : goal.After-remove) → (c.in-Some.at < length c.args.list.now.items)
    × (slice_index_or c.args.list.now.items c.in-Some.at 0 ≡ c.args.node)
found c = found_place c.args.list.now.items c.args.node c.in-Some.at 0 (ap (position (λ x. x == c.args.node))
    (sym c.deref.ensures.value) ∙ sym c.place_of.ensures ∙ c.in-Some.is)

pub returns-in-None-clause-was : goal.returns-in-None-clause-was
returns-in-None-clause-was c = (λ no. absurd (cc), λ a. absurd (absent c a))

pub returns-in-None-clause-left : goal.returns-in-None-clause-left
returns-in-None-clause-left c = λ o. (
  λ a. (
    a,
    λ same. absent c (subst (λ (z : ℕ). Among z c.args.list.now.items)
        same a),
  ),
  λ a. a.0,
)

pub returns-in-Some-clause-was : goal.returns-in-Some-clause-was
returns-in-Some-clause-was c = (
  λ yes. let f = found c in subst (λ (z : ℕ). Among z c.args.list.now.items) f.1
      (among_at c.args.list.now.items c.in-Some.at 0 f.0),
  λ a. refl,
)

pub returns-in-Some-clause-left : goal.returns-in-Some-clause-left
returns-in-Some-clause-left c = λ o. let f = found c in rw c.remove.ensures.items
    (taken_out c.args.list.now.items c.in-Some.at c.args.node 0 o f.0 f.1 c.requires.once)

pub returns-in-Some-clause-once : goal.returns-in-Some-clause-once
returns-in-Some-clause-once c = subst IsOnce (sym c.remove.ensures.items)
    (once_left c.args.list.now.items c.in-Some.at c.requires.once)

pub returns-in-Some-clause-len : goal.returns-in-Some-clause-len
returns-in-Some-clause-len c = λ yes. rw c.remove.ensures.items (length-remove c.args.list.now.items c.in-Some.at
    (found c).0)
