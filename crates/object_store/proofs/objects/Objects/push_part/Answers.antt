use Rattle.std.proofs.Common.{ℕ, ◌≡◌, List, [], ◌∷◌, ◌++◌, Some, refl, sym, ◌∙◌, ap, subst, arith}
use Rattle.std.specs.Prelude.{slice_index_or, slice_set}
use Rattle.desk_model.specs.declared.slot.Slot.{Slot}
use Rattle.desk_model.specs.declared.slot.Slot.TheVariants.{Free, Live}
use Rattle.desk_terms.specs.declared.kind.Kind.TheVariants as kind
use Rattle.desk_terms.specs.declared.terms.Terms.TheVariants.{Composite}
use Rattle.desk_model.specs.Market.{kind_in, terms_in}
use Rattle.object_store.specs.Objects.{objects_of, IsBoarded}
use Rattle.object_store.proofs.Boarded.{parts_slot, slot_within, read_terms, changed_is, changed_boarded, same_slot, either_way, on_ok, on_err}
use Rattle.object_store.proofs.objects.Objects.push_part.Goals as goal

pub index_mut-requires : goal.index_mut-requires
index_mut-requires c =
    let f = parts_slot (slice_index_or (objects_of c.self.inside.board c.self.inside.slots.items) c.args.composite Free) (subst (λ (l : List Slot). kind_in (slice_index_or l c.args.composite Free) ≡ Some kind.Composite) (sym c.self.view_is) c.requires) in
    let w = slot_within c.self.inside.board c.self.inside.slots.items c.args.composite (Composite f.0) c.self.invariant f.1 refl in
    let e = c.place.ensures in omega (arith, w, e)

pub invariant_of-self : goal.invariant_of-self
invariant_of-self c =
    let f = parts_slot (slice_index_or (objects_of c.self.inside.board c.self.inside.slots.items) c.args.composite Free) (subst (λ (l : List Slot). kind_in (slice_index_or l c.args.composite Free) ≡ Some kind.Composite) (sym c.self.view_is) c.requires) in
    let read = subst (λ (n : ℕ). c.index_mut.result.now ≡ slice_index_or c.self.inside.slots.items n c.index_mut.result.now) c.place.ensures c.index_mut.ensures.value in
    let held = read_terms c.self.inside.board c.self.inside.slots.items c.args.composite (Composite f.0) c.self.invariant f.1 refl c.index_mut.result.now read in
    subst (λ (n : ℕ). IsBoarded c.self.inside.board (slice_set c.self.inside.slots.items n c.push_in.new.slot)) (sym c.place.ensures)
    (either_way c.push_in.result c.push_in.ensures.pushed c.push_in.ensures.same
    (λ pushed. changed_boarded c.self.inside.board c.self.inside.slots.items c.args.composite (Composite f.0) c.self.invariant f.1 refl c.push_in.new.slot (Composite (f.0 ++ c.args.part ∷ [])) (pushed f.0 held) refl)
    (λ same. subst (IsBoarded c.self.inside.board) (sym (same_slot c.self.inside.board c.self.inside.slots.items c.args.composite (Composite f.0) c.self.invariant f.1 refl c.push_in.new.slot c.index_mut.result.now read same)) c.self.invariant))

pub returns-clause-pushed : goal.returns-clause-pushed
returns-clause-pushed c =
    let read = subst (λ (n : ℕ). c.index_mut.result.now ≡ slice_index_or c.self.inside.slots.items n c.index_mut.result.now) c.place.ensures c.index_mut.ensures.value in
    on_ok c.push_in.result c.push_in.ensures.pushed (λ pushed parts is.
    let view = ap (λ (l : List Slot). terms_in (slice_index_or l c.args.composite Free)) c.self.view_is ∙ is in
    let held = read_terms c.self.inside.board c.self.inside.slots.items c.args.composite (Composite parts) c.self.invariant view refl c.index_mut.result.now read in
    ap (λ (n : ℕ). objects_of c.self.inside.board (slice_set c.self.inside.slots.items n c.push_in.new.slot)) c.place.ensures
    ∙ changed_is c.self.inside.board c.self.inside.slots.items c.args.composite (Composite parts) c.self.invariant view refl c.push_in.new.slot (Composite (parts ++ c.args.part ∷ [])) (pushed parts held) refl
    ∙ ap (λ (l : List Slot). slice_set l c.args.composite (Live (Composite (parts ++ c.args.part ∷ [])))) c.self.view_is)

pub returns-clause-same : goal.returns-clause-same
returns-clause-same c =
    let f = parts_slot (slice_index_or (objects_of c.self.inside.board c.self.inside.slots.items) c.args.composite Free) (subst (λ (l : List Slot). kind_in (slice_index_or l c.args.composite Free) ≡ Some kind.Composite) (sym c.self.view_is) c.requires) in
    let read = subst (λ (n : ℕ). c.index_mut.result.now ≡ slice_index_or c.self.inside.slots.items n c.index_mut.result.now) c.place.ensures c.index_mut.ensures.value in
    on_err c.push_in.result c.push_in.ensures.same (λ same.
    ap (λ (n : ℕ). objects_of c.self.inside.board (slice_set c.self.inside.slots.items n c.push_in.new.slot)) c.place.ensures
    ∙ ap (objects_of c.self.inside.board) (same_slot c.self.inside.board c.self.inside.slots.items c.args.composite (Composite f.0) c.self.invariant f.1 refl c.push_in.new.slot c.index_mut.result.now read same) ∙ c.self.view_is)
