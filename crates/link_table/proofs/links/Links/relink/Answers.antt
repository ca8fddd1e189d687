use Rattle.std.proofs.Common.{◌≡◌, ◌∙◌, ◌+◌, ◌<◌, ◌≤◌, ℕ, List, Option, Some, ap, refl, sym, subst, arith}
use Rattle.std.specs.Prelude.{slice_set, is_some, is_none}
use Rattle.std.proofs.lemmas.Bool.{false≢true}
use Rattle.link_table.specs.declared.links.Link.{Link}
use Rattle.link_table.specs.Links.{Fits, IsHolder, Leaves, Relinks, free_count, target_at}
use Rattle.link_table.proofs.Counting.{count_relinked, free_most, free_some, none_is, one_if, spare_for, spare_relinked}
use Rattle.link_table.proofs.Maps.{changes_set, holder_within}
use Rattle.link_table.proofs.Fitting.{fits_relinked, live_there, relinks_other, relinks_same}
use Rattle.link_table.proofs.links.Links.relink.Goals as goal

pub returns-then-is_same-clause-pairs : goal.returns-then-is_same-clause-pairs
returns-then-is_same-clause-pairs c = relinks_same c.args.graph.now c.args.self.now c.args.holder c.args.target
    c.requires.fit (sym c.target-held.ensures ∙ c.is_same.ensures.0 c.if-is_same.true)

pub returns-then-is_same-clause-spare : goal.returns-then-is_same-clause-spare
returns-then-is_same-clause-spare c = ap (λ (t : Option ℕ). c.args.graph.now.spare + one_if (is_some t))
    (sym (c.is_same.ensures.0 c.if-is_same.true) ∙ c.target-held.ensures)

relinked : (c : goal.After-self-2-1) → Relinks c.args.graph.now c.watch_target.new.graph c.args.holder
    (target_at c.args.self.now c.args.holder) c.args.target
relinked c = relinks_other c.args.graph.now c.unwatch_target.new.graph c.watch_target.new.graph c.args.holder
    (target_at c.args.self.now c.args.holder) c.args.target
    (subst (Leaves c.args.graph.now c.unwatch_target.new.graph c.args.holder)
    c.target-held.ensures c.unwatch_target.ensures.leaves)
    c.watch_target.ensures.joins

pub returns-clause-pairs : goal.returns-clause-pairs
returns-clause-pairs c = relinked c

pub unwatch_target-requires-clause-target : goal.unwatch_target-requires-clause-target
unwatch_target-requires-clause-target c = λ t is.
    let o = c.requires.fit.linked c.args.holder t (sym c.target-held.ensures ∙ is) in (o.1, o.2)

pub watch_target-requires-clause-new : goal.watch_target-requires-clause-new
watch_target-requires-clause-new c = λ t is pair. c.requires.new t is
    (λ same. false≢true (sym c.if-is_same.false ∙ c.is_same.ensures.1 (c.target-held.ensures ∙ same)))
    ((c.unwatch_target.ensures.leaves.pairs t c.args.holder).0 pair).0

pub watch_target-requires-clause-live : goal.watch_target-requires-clause-live
watch_target-requires-clause-live c = live_there c.args.graph.now c.unwatch_target.new.graph
    c.unwatch_target.ensures.leaves.nodes c.args.holder c.requires.live

pub watch_target-requires-clause-target : goal.watch_target-requires-clause-target
watch_target-requires-clause-target c = λ t is. live_there c.args.graph.now c.unwatch_target.new.graph
    c.unwatch_target.ensures.leaves.nodes t (c.requires.target t is)

pub watch_target-requires-clause-room : goal.watch_target-requires-clause-room
watch_target-requires-clause-room c = λ some. spare_for c.args.self.now c.args.holder c.args.graph.now.spare
    c.unwatch_target.new.graph.spare c.requires.holder c.requires.fit.spare
    (c.unwatch_target.ensures.spare ∙ ap (λ (t : Option ℕ). c.args.graph.now.spare + one_if (is_some t)) c.target-held.ensures)

pub returns-clause-spare : goal.returns-clause-spare
returns-clause-spare c = c.watch_target.ensures.spare ∙ c.unwatch_target.ensures.spare
    ∙ ap (λ (t : Option ℕ). c.args.graph.now.spare + one_if (is_some t)) c.target-held.ensures

pub recounted-self-inside-requires-clause-some : goal.recounted-self-inside-requires-clause-some
recounted-self-inside-requires-clause-some c = λ none.
    let some = free_some c.args.self.now c.args.holder c.requires.holder
    (ap is_none (sym c.target-held.ensures) ∙ none_is c.target-held.result c.is_none.result c.is_none.ensures ∙ none) in
    let same = ap free_count c.self.view_is in let count = c.self.invariant in omega arith

pub invariant_of-self : goal.invariant_of-self
invariant_of-self c = count_relinked c.self.inside.links.items c.place.result c.args.holder
    c.recounted-self-inside.result c.self.inside.free c.args.target c.place.ensures
    (subst (λ (l : List (Option Link)). IsHolder l c.args.holder) (sym c.self.view_is) c.requires.holder)
    c.self.invariant
    (let was : one_if (is_none (target_at c.self.inside.links.items c.args.holder)) ≡ one_if c.is_none.result =
    ap (λ (l : List (Option Link)). one_if (is_none (target_at l c.args.holder))) c.self.view_is
    ∙ ap (λ (t : Option ℕ). one_if (is_none t)) (sym c.target-held.ensures)
    ∙ ap one_if (none_is c.target-held.result c.is_none.result c.is_none.ensures) in
    let now : one_if (is_none c.args.target) ≡ one_if c.is_none-2.result =
    ap one_if (none_is c.args.target c.is_none-2.result c.is_none-2.ensures) in
    let e = c.recounted-self-inside.ensures in omega arith)

pub returns-clause-fit : goal.returns-clause-fit
returns-clause-fit c =
    let holder = subst (λ (l : List (Option Link)). IsHolder l c.args.holder) (sym c.self.view_is) c.requires.holder in
    let fits = subst (λ (l : List (Option Link)). Fits l c.args.graph.now) (sym c.self.view_is) c.requires.fit in
    fits_relinked c.self.inside.links.items (slice_set c.self.inside.links.items c.place.result
    (Some (record { target = c.args.target }))) c.args.graph.now c.watch_target.new.graph c.args.holder
    c.args.target fits
    (changes_set c.self.inside.links.items c.self.inside.links.items c.place.result c.args.holder
    (Some (record { target = c.args.target })) c.place.ensures
    (holder_within c.self.inside.links.items c.args.holder holder)
    (λ h. refl))
    (subst (λ (l : List (Option Link)). Relinks c.args.graph.now c.watch_target.new.graph c.args.holder
    (target_at l c.args.holder) c.args.target) (sym c.self.view_is) (relinked c))
    c.requires.live c.requires.target
    (spare_relinked c.self.inside.links.items c.place.result c.args.holder c.args.graph.now.spare
    c.unwatch_target.new.graph.spare c.watch_target.new.graph.spare c.args.target c.place.ensures holder fits.spare
    (c.unwatch_target.ensures.spare ∙ ap (λ (t : Option ℕ). c.args.graph.now.spare + one_if (is_some t))
    (c.target-held.ensures ∙ ap (λ (l : List (Option Link)). target_at l c.args.holder) (sym c.self.view_is)))
    c.watch_target.ensures.spare)

pub recounted-self-inside-requires-clause-room : goal.recounted-self-inside-requires-clause-room
recounted-self-inside-requires-clause-room c =
    let most = free_most c.self.inside.links.items in let count = c.self.invariant in
    let len = c.self.inside.links.ok.0 in let held = c.self.inside.links.ok.1 in let small = c.self.inside.links.small in
    omega arith
