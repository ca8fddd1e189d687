use Rattle.std.proofs.Common.{◌≡◌, List, true, sym, ◌∙◌, ap, subst}
use Rattle.std.specs.Prelude.{not, slice_index_or, slice_set}
use Rattle.desk_model.specs.declared.slot.Slot.{Slot}
use Rattle.desk_model.specs.declared.slot.Slot.TheVariants.{Free, Live}
use Rattle.desk_terms.specs.declared.terms.Terms.TheVariants.{Quote}
use Rattle.object_store.specs.Objects.{has_quote}
use Rattle.object_store.specs.Slots.{holds_value}
use Rattle.object_store.proofs.Boarded.{quote_there, quote_set_is, quote_set_boarded, value_is}
use Rattle.object_store.proofs.objects.Objects.set.Goals as goal

pub set-requires : goal.set-requires
set-requires c = quote_there c.self.inside.board c.self.inside.slots.items c.args.quote c.self.invariant (subst (λ (l : List Slot). has_quote (slice_index_or l c.args.quote Free) ≡ true) (sym c.self.view_is) c.requires)

pub invariant_of-self : goal.invariant_of-self
invariant_of-self c = quote_set_boarded c.self.inside.board c.set.new.self c.self.inside.slots.items c.args.quote c.args.value (subst (λ (l : List Slot). has_quote (slice_index_or l c.args.quote Free) ≡ true) (sym c.self.view_is) c.requires) c.set.ensures.set c.self.invariant

pub returns-clause-changed : goal.returns-clause-changed
returns-clause-changed c = c.set.ensures.changed
    ∙ ap not (value_is c.self.inside.board c.self.inside.slots.items c.args.quote c.args.value c.self.invariant (subst (λ (l : List Slot). has_quote (slice_index_or l c.args.quote Free) ≡ true) (sym c.self.view_is) c.requires))
    ∙ ap (λ (l : List Slot). not (holds_value c.args.value (slice_index_or l c.args.quote Free))) c.self.view_is

pub returns-clause-set : goal.returns-clause-set
returns-clause-set c = quote_set_is c.self.inside.board c.set.new.self c.self.inside.slots.items c.args.quote c.args.value (subst (λ (l : List Slot). has_quote (slice_index_or l c.args.quote Free) ≡ true) (sym c.self.view_is) c.requires) c.set.ensures.set
    ∙ ap (λ (l : List Slot). slice_set l c.args.quote (Live (Quote c.args.value))) c.self.view_is
