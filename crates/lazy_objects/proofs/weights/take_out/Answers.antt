use Rattle.object_store.proofs.Lent.{leaves}
use Rattle.lazy_objects.proofs.weights.take_out.Goals as goal

pub returns-clause-left : goal.returns-clause-left
returns-clause-left c = leaves c.store.inside c.store.invariant c.args.store.now c.store.view_is c.unwatch.new.self c.args.member c.args.composite c.unwatch.ensures.pairs
