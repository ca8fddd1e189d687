use Rattle.std.proofs.Common.{◌≡◌, true, false, Some, sym, ◌∙◌, ap, subst}
use Rattle.desk_model.specs.declared.kept.Kept.{Kept}
use Rattle.object_store.specs.Store.{stored_at}
use Rattle.std.specs.Prelude.{is_some}
use Rattle.observer_graph.specs.declared.node.Role.TheVariants.{Lazy}
use Rattle.observer_graph.specs.declared.node.Flags.{Flags}
use Rattle.object_store.specs.Shape.{role_at, shape_of}
use Rattle.object_store.specs.Store.{StoreView}
use Rattle.object_store.proofs.Kept.{kept_at_node, frozen_view}
use Rattle.object_store.proofs.store.Store.thaw.Goals as goal

pub returns-then-flags-clause-answer : goal.returns-then-flags-clause-answer
returns-then-flags-clause-answer c = ap (λ (f : Flags). f.frozen) c.flags-flags.ensures
    ∙ sym (ap (λ (k : Kept). k.frozen) (kept_at_node c.self.inside.deferral.graph c.self.inside.lasts.items (record { nodes = c.self.invariant.0; sources = c.self.invariant.1 }) c.args.object)) ∙ ap (λ (v : StoreView). (stored_at v c.args.object).frozen) c.self.view_is

pub returns-else-flags-clause-answer : goal.returns-else-flags-clause-answer
returns-else-flags-clause-answer c = ap (λ (f : Flags). f.frozen) c.flags-flags.ensures
    ∙ sym (ap (λ (k : Kept). k.frozen) (kept_at_node c.self.inside.deferral.graph c.self.inside.lasts.items (record { nodes = c.self.invariant.0; sources = c.self.invariant.1 }) c.args.object)) ∙ ap (λ (v : StoreView). (stored_at v c.args.object).frozen) c.self.view_is

pub returns-then-flags-clause-thawed : goal.returns-then-flags-clause-thawed
returns-then-flags-clause-thawed c =
    let is : is_some (role_at (shape_of c.self.inside.deferral.graph) c.args.object) ≡ true = ap is_some (subst (λ (v : StoreView). role_at v.shape c.args.object ≡ Some Lazy) (sym c.self.view_is) c.requires) in
    let flags = c.frozen_as.ensures ∙ ap (λ (f : Flags). record f { frozen = false }) c.flags-flags.ensures in
    rw (← c.self.view_is) (λ frozen. frozen_view c.self.inside.deferral.graph c.self.inside.lasts.items c.self.inside.deferral.on (record { nodes = c.self.invariant.0; sources = c.self.invariant.1 }) c.args.object is c.set_flags.new.self c.frozen_as.result false c.set_flags.ensures flags)
