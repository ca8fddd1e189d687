use Rattle.std.proofs.Common.{Bool, sym, ◌∙◌, ap}
use Rattle.object_store.proofs.Lent.{outdated}
use Rattle.ask_walk.specs.Recalcs.{refused_as}
use Rattle.ask_walk.proofs.recalculating.outdate_refused.Goals as goal

pub returns-then-refused : goal.returns-then-refused
returns-then-refused c = outdated c.store.inside c.store.invariant c.args.store.now c.store.view_is c.args.object c.requires c.outdate.new.self c.outdate.ensures
    ∙ sym (ap (λ (b : Bool). refused_as c.args.object b c.args.store.now) c.if-refused.true)
