use Rattle.std.proofs.Common.{ℕ, ◌<◌, ◌≡◌, List, length, false, sym, ◌∙◌, ap, subst, arith}
use Rattle.std.specs.Prelude.{slice_index_or, slice_set}
use Rattle.desk_model.specs.declared.slot.Slot.{Slot}
use Rattle.desk_model.specs.declared.slot.Slot.TheVariants.{Free, Live}
use Rattle.object_store.specs.Objects.{has_quote, objects_of, IsBoarded}
use Rattle.object_store.proofs.Boarded.{length-objects, replaced_is, replaced_boarded}
use Rattle.object_store.proofs.objects.Objects.replace.Goals as goal

pub index_mut-requires : goal.index_mut-requires
index_mut-requires c = let w = subst (λ (n : ℕ). c.args.object < n) (ap (λ (l : List Slot). length l) (sym c.self.view_is) ∙ length-objects c.self.inside.board c.self.inside.slots.items) c.requires.within in let e = c.place.ensures in omega (arith, w, e)

pub invariant_of-self : goal.invariant_of-self
invariant_of-self c = subst (λ (n : ℕ). IsBoarded c.self.inside.board (slice_set c.self.inside.slots.items n (Live c.args.terms))) (sym c.place.ensures)
    (replaced_boarded c.self.inside.board c.self.inside.slots.items c.args.object c.args.terms (subst (λ (l : List Slot). c.args.object < length l) (sym c.self.view_is) c.requires.within) c.self.invariant
    (subst (λ (l : List Slot). has_quote (slice_index_or l c.args.object Free) ≡ false) (sym c.self.view_is) c.requires.old) c.requires.new)

pub returns : goal.returns
returns c = ap (λ (n : ℕ). objects_of c.self.inside.board (slice_set c.self.inside.slots.items n (Live c.args.terms))) c.place.ensures
    ∙ replaced_is c.self.inside.board c.self.inside.slots.items c.args.object c.args.terms (subst (λ (l : List Slot). c.args.object < length l) (sym c.self.view_is) c.requires.within) c.self.invariant
    (subst (λ (l : List Slot). has_quote (slice_index_or l c.args.object Free) ≡ false) (sym c.self.view_is) c.requires.old) c.requires.new
    ∙ ap (λ (l : List Slot). slice_set l c.args.object (Live c.args.terms)) c.self.view_is
