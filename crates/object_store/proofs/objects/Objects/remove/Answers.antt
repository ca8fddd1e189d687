use Rattle.std.proofs.Common.{ℕ, ◌<◌, List, length, sym, ◌∙◌, ap, subst, arith}
use Rattle.std.specs.Prelude.{slice_set}
use Rattle.desk_model.specs.declared.slot.Slot.{Slot}
use Rattle.desk_model.specs.declared.slot.Slot.TheVariants.{Free}
use Rattle.object_store.specs.Objects.{objects_of, IsBoarded}
use Rattle.object_store.proofs.Boarded.{length-objects, removed_is, removed_boarded}
use Rattle.object_store.proofs.objects.Objects.remove.Goals as goal

pub index_mut-requires : goal.index_mut-requires
index_mut-requires c = let w = subst (λ (n : ℕ). c.args.object < n) (ap (λ (l : List Slot). length l) (sym c.self.view_is) ∙ length-objects c.self.inside.board c.self.inside.slots.items) c.requires.within in let e = c.place.ensures in omega (arith, w, e)

pub invariant_of-self : goal.invariant_of-self
invariant_of-self c = subst (λ (n : ℕ). IsBoarded c.remove.new.self (slice_set c.self.inside.slots.items n Free)) (sym c.place.ensures)
    (removed_boarded c.self.inside.board c.remove.new.self c.self.inside.slots.items c.args.object (subst (λ (l : List Slot). c.args.object < length l) (sym c.self.view_is) c.requires.within) c.self.invariant c.remove.ensures)

pub returns : goal.returns
returns c = ap (λ (n : ℕ). objects_of c.remove.new.self (slice_set c.self.inside.slots.items n Free)) c.place.ensures
    ∙ removed_is c.self.inside.board c.remove.new.self c.self.inside.slots.items c.args.object (subst (λ (l : List Slot). c.args.object < length l) (sym c.self.view_is) c.requires.within) c.self.invariant c.remove.ensures
    ∙ ap (λ (l : List Slot). slice_set l c.args.object Free) c.self.view_is
