use Rattle.std.proofs.Common.{◌≡◌, true, Some, refl, sym, ap, subst}
use Rattle.std.specs.Prelude.{is_some}
use Rattle.observer_graph.specs.declared.node.Role.TheVariants.{Lazy}
use Rattle.observer_graph.specs.GraphView.{flags_at}
use Rattle.object_store.specs.Shape.{role_at, shape_of}
use Rattle.object_store.specs.Store.{StoreView}
use Rattle.object_store.proofs.Kept.{live_node, place_within, valued_kept, flagged_shape}
use Rattle.object_store.proofs.store.Store.keep.Goals as goal

pub returns-clause-kept : goal.returns-clause-kept
returns-clause-kept c =
    let is : is_some (role_at (shape_of c.self.inside.deferral.graph) c.args.object) ≡ true = ap is_some (subst (λ (v : StoreView). role_at v.shape c.args.object ≡ Some Lazy) (sym c.self.view_is) c.requires) in
    let flags = record (flags_at c.self.inside.deferral.graph c.args.object) { current = true } in
    rw (← c.self.view_is, c.place.ensures, c.settle.ensures)
    (valued_kept c.self.inside.deferral.graph c.self.inside.lasts.items (record { nodes = c.self.invariant.0; sources = c.self.invariant.1 }) c.args.object (place_within c.self.inside.deferral.graph c.self.inside.lasts.items (record { nodes = c.self.invariant.0; sources = c.self.invariant.1 }) c.args.object is) flags refl c.args.value (live_node c.self.inside.deferral.graph c.args.object is))

pub returns-clause-shape : goal.returns-clause-shape
returns-clause-shape c =
    let is : is_some (role_at (shape_of c.self.inside.deferral.graph) c.args.object) ≡ true = ap is_some (subst (λ (v : StoreView). role_at v.shape c.args.object ≡ Some Lazy) (sym c.self.view_is) c.requires) in
    let flags = record (flags_at c.self.inside.deferral.graph c.args.object) { current = true } in
    rw (← c.self.view_is, c.settle.ensures)
    (flagged_shape c.self.inside.deferral.graph c.self.inside.lasts.items (record { nodes = c.self.invariant.0; sources = c.self.invariant.1 }) c.args.object (place_within c.self.inside.deferral.graph c.self.inside.lasts.items (record { nodes = c.self.invariant.0; sources = c.self.invariant.1 }) c.args.object is) flags)
