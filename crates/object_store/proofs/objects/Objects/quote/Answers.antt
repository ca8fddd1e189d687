use Rattle.std.proofs.Common.{◌≡◌, List, Some, sym, ◌∙◌, ap, subst}
use Rattle.std.specs.Prelude.{slice_index_or}
use Rattle.desk_terms.specs.declared.kind.Kind.TheVariants.{Quote}
use Rattle.desk_model.specs.declared.slot.Slot.{Slot}
use Rattle.desk_model.specs.declared.slot.Slot.TheVariants.{Free}
use Rattle.desk_model.specs.Market.{kind_in, terms_in}
use Rattle.object_store.specs.Objects.{objects_of}
use Rattle.object_store.proofs.Boarded.{kind_quote, quote_there, quote_terms}
use Rattle.object_store.proofs.objects.Objects.quote.Goals as goal

pub get-requires : goal.get-requires
get-requires c =
    let is = subst (λ (l : List Slot). kind_in (slice_index_or l c.args.quote Free) ≡ Some Quote) (sym c.self.view_is) c.requires in
    quote_there c.self.inside.board c.self.inside.slots.items c.args.quote c.self.invariant (kind_quote (slice_index_or (objects_of c.self.inside.board c.self.inside.slots.items) c.args.quote Free) is)

pub returns : goal.returns
returns c =
    let is = subst (λ (l : List Slot). kind_in (slice_index_or l c.args.quote Free) ≡ Some Quote) (sym c.self.view_is) c.requires in
    ap (λ (l : List Slot). terms_in (slice_index_or l c.args.quote Free)) (sym c.self.view_is)
    ∙ ap terms_in (quote_terms c.self.inside.board c.self.inside.slots.items c.args.quote c.get.result (kind_quote (slice_index_or (objects_of c.self.inside.board c.self.inside.slots.items) c.args.quote Free) is) c.get.ensures)
