use Rattle.std.proofs.Common.{List, ◌∙◌, ap}
use Rattle.std.specs.Prelude.{slice_index_or}
use Rattle.desk_model.specs.declared.slot.Slot.{Slot}
use Rattle.desk_model.specs.declared.slot.Slot.TheVariants.{Free}
use Rattle.desk_model.specs.Market.{kind_in}
use Rattle.object_store.proofs.Boarded.{kind_of_slot}
use Rattle.object_store.proofs.objects.Objects.kind.Goals as goal

pub returns : goal.returns
returns c = c.kind_of.ensures ∙ ap (λ (l : List Slot). kind_in (slice_index_or l c.args.object Free)) c.deref.ensures.value
    ∙ kind_of_slot c.self.inside.board c.self.inside.slots.items c.args.object ∙ ap (λ (l : List Slot). kind_in (slice_index_or l c.args.object Free)) c.self.view_is
