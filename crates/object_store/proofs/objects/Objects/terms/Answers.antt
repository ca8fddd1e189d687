use Rattle.std.proofs.Common.{List, sym, ◌∙◌, ap}
use Rattle.std.specs.Prelude.{slice_index_or}
use Rattle.desk_model.specs.declared.slot.Slot.{Slot}
use Rattle.desk_model.specs.declared.slot.Slot.TheVariants.{Free}
use Rattle.desk_model.specs.Market.{terms_in}
use Rattle.object_store.specs.Objects.{bare}
use Rattle.object_store.proofs.Boarded.{bare_terms, object_at}
use Rattle.quote_board.specs.Board.{entry}
use Rattle.object_store.proofs.objects.Objects.terms.Goals as goal

pub returns : goal.returns
returns c = c.terms_of.ensures ∙ ap (λ (l : List Slot). terms_in (slice_index_or l c.args.object Free)) c.deref.ensures.value
    ∙ bare_terms (entry c.self.inside.board c.args.object) (slice_index_or c.self.inside.slots.items c.args.object Free) (c.self.invariant.bare c.args.object)
    ∙ ap (λ (s : Slot). bare (terms_in s)) (sym (object_at c.self.inside.board c.self.inside.slots.items c.args.object))
    ∙ ap (λ (l : List Slot). bare (terms_in (slice_index_or l c.args.object Free))) c.self.view_is
