use Rattle.std.proofs.Common.{sym, ◌∙◌, ap}
use Rattle.observer_graph.specs.declared.node.Flags.{Flags}
use Rattle.object_store.specs.Store.{StoreView, stored_at}
use Rattle.object_store.proofs.HeldBack.{frozen_node, frozen_gone}
use Rattle.object_store.proofs.store.Store.is_frozen.Goals as goal

pub returns-then-not-is_live : goal.returns-then-not-is_live
returns-then-not-is_live c = sym (frozen_gone c.self.inside.deferral.graph c.self.inside.lasts.items c.self.inside.deferral.on (record { nodes = c.self.invariant.0; sources = c.self.invariant.1 }) c.args.object (sym c.is_live.ensures ∙ c.if-not-is_live.true))
    ∙ ap (λ (v : StoreView). (stored_at v c.args.object).frozen) c.self.view_is

pub returns : goal.returns
returns c = ap (λ (f : Flags). f.frozen) c.flags.ensures
    ∙ sym (frozen_node c.self.inside.deferral.graph c.self.inside.lasts.items c.self.inside.deferral.on (record { nodes = c.self.invariant.0; sources = c.self.invariant.1 }) c.args.object)
    ∙ ap (λ (v : StoreView). (stored_at v c.args.object).frozen) c.self.view_is
