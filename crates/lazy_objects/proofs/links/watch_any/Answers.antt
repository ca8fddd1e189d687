use Rattle.std.proofs.Common.{ℕ, sym, subst}
use Rattle.std.specs.Prelude.{Option}
use Rattle.object_store.specs.Store.{JoinsAny}
use Rattle.object_store.proofs.Lent.{seen_with, joins}
use Rattle.lazy_objects.proofs.links.watch_any.Goals as goal

pub returns-clause-joins : goal.returns-clause-joins
returns-clause-joins c = subst (λ (x : Option ℕ). JoinsAny x c.args.observer c.args.store.now (seen_with c.store.inside c.watch_spare.new.self)) (sym c.in-Some.is)
    (joins c.store.inside c.store.invariant c.args.store.now c.store.view_is c.watch_spare.new.self c.in-Some.object c.args.observer c.watch_spare.ensures.pair)
