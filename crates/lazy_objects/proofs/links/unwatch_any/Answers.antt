use Rattle.std.proofs.Common.{◌+◌, ℕ, Bool, sym, ◌∙◌, ap, subst}
use Rattle.std.specs.Prelude.{Option, if◌then◌else◌}
use Rattle.object_store.specs.Store.{StoreView, LeavesAny, held_count}
use Rattle.object_store.proofs.Lent.{seen_with, pair, leaves}
use Rattle.lazy_objects.proofs.links.unwatch_any.Goals as goal

pub returns-clause-leaves : goal.returns-clause-leaves
returns-clause-leaves c = subst (λ (x : Option ℕ). LeavesAny x c.args.observer c.args.store.now (seen_with c.store.inside c.unwatch.new.self)) (sym c.in-Some.is)
    (leaves c.store.inside c.store.invariant c.args.store.now c.store.view_is c.unwatch.new.self c.in-Some.object c.args.observer c.unwatch.ensures.pairs)

pub returns-clause-spare : goal.returns-clause-spare
returns-clause-spare c =
    let was = pair c.store.inside c.store.invariant c.args.store.now c.store.view_is c.in-Some.object c.args.observer c.unwatch.result c.unwatch.ensures.was in
    let there = was.1 (c.requires.watched c.in-Some.object c.in-Some.is) in
    c.unwatch.ensures.spare ∙ ap (λ (b : Bool). c.store.inside.deferral.graph.spare + (if b then 1 else 0)) there
    ∙ ap (λ (v : StoreView). v.shape.spare + 1) c.store.view_is
    ∙ ap (λ (s : Option ℕ). c.args.store.now.shape.spare + held_count s) (sym c.in-Some.is)
