use Rattle.std.proofs.Common.{sym, ◌∙◌, ap}
use Rattle.desk_model.specs.declared.kept.Kept.{Kept}
use Rattle.observer_graph.specs.GraphView.{node_at, is_source}
use Rattle.object_store.specs.Shape.{kept_as}
use Rattle.object_store.specs.Store.{StoreView, stored_at}
use Rattle.object_store.proofs.Kept.{kept_at_node}
use Rattle.object_store.proofs.store.StoreDeref.deref.Goals as goal

pub returns-clause-kept : goal.returns-clause-kept
returns-clause-kept c o =
    let g = c.self.inside.deferral.graph in
    let at = ap (λ (v : StoreView). stored_at v o) (sym c.self.view_is) ∙ kept_at_node g c.self.inside.lasts.items (record { nodes = c.self.invariant.0; sources = c.self.invariant.1 }) o in
    at ∙ sym (ap (λ (k : Kept). kept_as (node_at g o) (is_source g o) k.last) at)
