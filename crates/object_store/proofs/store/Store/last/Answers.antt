use Rattle.std.proofs.Common.{◌∙◌, List, Option, None, ap, sym}
use Rattle.std.specs.Prelude.{slice_index_or}
use Rattle.desk_terms.specs.declared.value.Value.{Value}
use Rattle.desk_model.specs.declared.kept.Kept.{Kept}
use Rattle.object_store.specs.Store.{StoreView, stored_at}
use Rattle.object_store.proofs.Kept.{kept_at_node}
use Rattle.object_store.proofs.store.Store.last.Goals as goal

pub returns : goal.returns
returns c = c.last_in.ensures ∙ ap (λ (l : List (Option Value)). slice_index_or l c.args.object None) c.deref.ensures.value
    ∙ sym (ap (λ (k : Kept). k.last) (kept_at_node c.self.inside.deferral.graph c.self.inside.lasts.items (record { nodes = c.self.invariant.0; sources = c.self.invariant.1 }) c.args.object))
    ∙ ap (λ (v : StoreView). (stored_at v c.args.object).last) c.self.view_is
