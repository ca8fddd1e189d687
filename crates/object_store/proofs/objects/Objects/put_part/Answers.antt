use Rattle.std.proofs.Common.{ℕ, ◌≡◌, ◌<◌, List, Option, Some, length, refl, sym, ◌∙◌, ap, subst, arith}
use Rattle.std.specs.Prelude.{slice_index_or, slice_set}
use Rattle.desk_model.specs.declared.slot.Slot.{Slot}
use Rattle.desk_model.specs.declared.slot.Slot.TheVariants.{Free, Live}
use Rattle.desk_terms.specs.declared.kind.Kind.TheVariants as kind
use Rattle.desk_terms.specs.declared.terms.Terms.{Terms}
use Rattle.desk_terms.specs.declared.terms.Terms.TheVariants.{Composite}
use Rattle.desk_model.specs.Changeable.{changeable}
use Rattle.desk_model.specs.Market.{kind_in, terms_in}
use Rattle.object_store.specs.Objects.{objects_of, IsBoarded}
use Rattle.object_store.specs.Parts.{parts_held}
use Rattle.object_store.proofs.Boarded.{parts_slot, slot_within, read_terms, changed_is, changed_boarded}
use Rattle.object_store.proofs.objects.Objects.put_part.Goals as goal

pub index_mut-requires : goal.index_mut-requires
index_mut-requires c =
    let f = parts_slot (slice_index_or (objects_of c.self.inside.board c.self.inside.slots.items) c.args.composite Free) (subst (λ (l : List Slot). kind_in (slice_index_or l c.args.composite Free) ≡ Some kind.Composite) (sym c.self.view_is) c.requires.composite) in
    let w = slot_within c.self.inside.board c.self.inside.slots.items c.args.composite (Composite f.0) c.self.invariant f.1 refl in
    let e = c.place.ensures in omega (arith, w, e)

pub put_in-requires : goal.put_in-requires
put_in-requires c =
    let f = parts_slot (slice_index_or (objects_of c.self.inside.board c.self.inside.slots.items) c.args.composite Free) (subst (λ (l : List Slot). kind_in (slice_index_or l c.args.composite Free) ≡ Some kind.Composite) (sym c.self.view_is) c.requires.composite) in
    let read = subst (λ (n : ℕ). c.index_mut.result.now ≡ slice_index_or c.self.inside.slots.items n c.index_mut.result.now) c.place.ensures c.index_mut.ensures.value in
    let held = read_terms c.self.inside.board c.self.inside.slots.items c.args.composite (Composite f.0) c.self.invariant f.1 refl c.index_mut.result.now read in
    subst (λ (t : Option Terms). c.args.at < length (parts_held (changeable t)))
    (ap (λ (l : List Slot). terms_in (slice_index_or l c.args.composite Free)) (sym c.self.view_is) ∙ f.1 ∙ sym held) c.requires.within

pub invariant_of-self : goal.invariant_of-self
invariant_of-self c =
    let f = parts_slot (slice_index_or (objects_of c.self.inside.board c.self.inside.slots.items) c.args.composite Free) (subst (λ (l : List Slot). kind_in (slice_index_or l c.args.composite Free) ≡ Some kind.Composite) (sym c.self.view_is) c.requires.composite) in
    let read = subst (λ (n : ℕ). c.index_mut.result.now ≡ slice_index_or c.self.inside.slots.items n c.index_mut.result.now) c.place.ensures c.index_mut.ensures.value in
    let new = c.put_in.ensures f.0 (read_terms c.self.inside.board c.self.inside.slots.items c.args.composite (Composite f.0) c.self.invariant f.1 refl c.index_mut.result.now read) in
    subst (λ (n : ℕ). IsBoarded c.self.inside.board (slice_set c.self.inside.slots.items n c.put_in.new.slot)) (sym c.place.ensures)
    (changed_boarded c.self.inside.board c.self.inside.slots.items c.args.composite (Composite f.0) c.self.invariant f.1 refl c.put_in.new.slot (Composite (slice_set f.0 c.args.at c.args.part)) new refl)

pub returns : goal.returns
returns c = λ parts is.
    let terms = ap (λ (l : List Slot). terms_in (slice_index_or l c.args.composite Free)) c.self.view_is ∙ is in
    let read = subst (λ (n : ℕ). c.index_mut.result.now ≡ slice_index_or c.self.inside.slots.items n c.index_mut.result.now) c.place.ensures c.index_mut.ensures.value in
    let new = c.put_in.ensures parts (read_terms c.self.inside.board c.self.inside.slots.items c.args.composite (Composite parts) c.self.invariant terms refl c.index_mut.result.now read) in
    ap (λ (n : ℕ). objects_of c.self.inside.board (slice_set c.self.inside.slots.items n c.put_in.new.slot)) c.place.ensures
    ∙ changed_is c.self.inside.board c.self.inside.slots.items c.args.composite (Composite parts) c.self.invariant terms refl c.put_in.new.slot (Composite (slice_set parts c.args.at c.args.part)) new refl
    ∙ ap (λ (l : List Slot). slice_set l c.args.composite (Live (Composite (slice_set parts c.args.at c.args.part)))) c.self.view_is
