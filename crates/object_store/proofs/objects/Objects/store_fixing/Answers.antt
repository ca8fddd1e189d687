use Rattle.std.proofs.Common.{ℕ, ◌≡◌, List, true, Option, refl, sym, ◌∙◌, ap, subst, arith}
use Rattle.std.specs.Prelude.{slice_index_or, slice_set}
use Rattle.desk_model.specs.declared.slot.Slot.{Slot}
use Rattle.desk_model.specs.declared.slot.Slot.TheVariants.{Free, Live}
use Rattle.desk_terms.specs.declared.terms.Terms.{Terms}
use Rattle.desk_terms.specs.declared.terms.Terms.TheVariants.{Index}
use Rattle.desk_model.specs.Changeable.{changeable}
use Rattle.desk_model.specs.Market.{terms_in}
use Rattle.object_store.specs.Slots.{has_fixings}
use Rattle.flow_terms.specs.Fixings.{with_fixing}
use Rattle.object_store.specs.Objects.{objects_of, IsBoarded}
use Rattle.object_store.proofs.Boarded.{index_slot, slot_within, read_terms, changed_is, changed_boarded, same_slot, either_way, on_ok, on_err}
use Rattle.object_store.proofs.objects.Objects.store_fixing.Goals as goal

pub index_mut-requires : goal.index_mut-requires
index_mut-requires c =
    let f = index_slot (slice_index_or (objects_of c.self.inside.board c.self.inside.slots.items) c.args.index Free) (subst (λ (l : List Slot). has_fixings (changeable (terms_in (slice_index_or l c.args.index Free))) ≡ true) (sym c.self.view_is) c.requires.index) in
    let w = slot_within c.self.inside.board c.self.inside.slots.items c.args.index (Index f.0 f.1) c.self.invariant f.2 refl in
    let e = c.place.ensures in omega (arith, w, e)

pub store_in-requires-clause-index : goal.store_in-requires-clause-index
store_in-requires-clause-index c =
    let f = index_slot (slice_index_or (objects_of c.self.inside.board c.self.inside.slots.items) c.args.index Free) (subst (λ (l : List Slot). has_fixings (changeable (terms_in (slice_index_or l c.args.index Free))) ≡ true) (sym c.self.view_is) c.requires.index) in
    let read = subst (λ (n : ℕ). c.index_mut.result.now ≡ slice_index_or c.self.inside.slots.items n c.index_mut.result.now) c.place.ensures c.index_mut.ensures.value in
    ap (λ (t : Option Terms). has_fixings (changeable t)) (read_terms c.self.inside.board c.self.inside.slots.items c.args.index (Index f.0 f.1) c.self.invariant f.2 refl c.index_mut.result.now read)

pub invariant_of-self : goal.invariant_of-self
invariant_of-self c =
    let f = index_slot (slice_index_or (objects_of c.self.inside.board c.self.inside.slots.items) c.args.index Free) (subst (λ (l : List Slot). has_fixings (changeable (terms_in (slice_index_or l c.args.index Free))) ≡ true) (sym c.self.view_is) c.requires.index) in
    let read = subst (λ (n : ℕ). c.index_mut.result.now ≡ slice_index_or c.self.inside.slots.items n c.index_mut.result.now) c.place.ensures c.index_mut.ensures.value in
    let held = read_terms c.self.inside.board c.self.inside.slots.items c.args.index (Index f.0 f.1) c.self.invariant f.2 refl c.index_mut.result.now read in
    subst (λ (n : ℕ). IsBoarded c.self.inside.board (slice_set c.self.inside.slots.items n c.store_in.new.slot)) (sym c.place.ensures)
    (either_way c.store_in.result c.store_in.ensures.added c.store_in.ensures.same
    (λ added. changed_boarded c.self.inside.board c.self.inside.slots.items c.args.index (Index f.0 f.1) c.self.invariant f.2 refl c.store_in.new.slot (Index f.0 (with_fixing f.1 c.args.day c.args.rate)) (added f.0 f.1 held) refl)
    (λ same. subst (IsBoarded c.self.inside.board) (sym (same_slot c.self.inside.board c.self.inside.slots.items c.args.index (Index f.0 f.1) c.self.invariant f.2 refl c.store_in.new.slot c.index_mut.result.now read same)) c.self.invariant))

pub returns-clause-exists : goal.returns-clause-exists
returns-clause-exists c = λ terms fixings is kept.
    let view = ap (λ (l : List Slot). terms_in (slice_index_or l c.args.index Free)) c.self.view_is ∙ is in
    let read = subst (λ (n : ℕ). c.index_mut.result.now ≡ slice_index_or c.self.inside.slots.items n c.index_mut.result.now) c.place.ensures c.index_mut.ensures.value in
    c.store_in.ensures.exists terms fixings (read_terms c.self.inside.board c.self.inside.slots.items c.args.index (Index terms fixings) c.self.invariant view refl c.index_mut.result.now read) kept

pub returns-clause-added : goal.returns-clause-added
returns-clause-added c =
    let read = subst (λ (n : ℕ). c.index_mut.result.now ≡ slice_index_or c.self.inside.slots.items n c.index_mut.result.now) c.place.ensures c.index_mut.ensures.value in
    on_ok c.store_in.result c.store_in.ensures.added (λ added terms fixings is.
    let view = ap (λ (l : List Slot). terms_in (slice_index_or l c.args.index Free)) c.self.view_is ∙ is in
    let held = read_terms c.self.inside.board c.self.inside.slots.items c.args.index (Index terms fixings) c.self.invariant view refl c.index_mut.result.now read in
    ap (λ (n : ℕ). objects_of c.self.inside.board (slice_set c.self.inside.slots.items n c.store_in.new.slot)) c.place.ensures
    ∙ changed_is c.self.inside.board c.self.inside.slots.items c.args.index (Index terms fixings) c.self.invariant view refl c.store_in.new.slot (Index terms (with_fixing fixings c.args.day c.args.rate)) (added terms fixings held) refl
    ∙ ap (λ (l : List Slot). slice_set l c.args.index (Live (Index terms (with_fixing fixings c.args.day c.args.rate)))) c.self.view_is)

pub returns-clause-same : goal.returns-clause-same
returns-clause-same c =
    let f = index_slot (slice_index_or (objects_of c.self.inside.board c.self.inside.slots.items) c.args.index Free) (subst (λ (l : List Slot). has_fixings (changeable (terms_in (slice_index_or l c.args.index Free))) ≡ true) (sym c.self.view_is) c.requires.index) in
    let read = subst (λ (n : ℕ). c.index_mut.result.now ≡ slice_index_or c.self.inside.slots.items n c.index_mut.result.now) c.place.ensures c.index_mut.ensures.value in
    on_err c.store_in.result c.store_in.ensures.same (λ same.
    ap (λ (n : ℕ). objects_of c.self.inside.board (slice_set c.self.inside.slots.items n c.store_in.new.slot)) c.place.ensures
    ∙ ap (objects_of c.self.inside.board) (same_slot c.self.inside.board c.self.inside.slots.items c.args.index (Index f.0 f.1) c.self.invariant f.2 refl c.store_in.new.slot c.index_mut.result.now read same) ∙ c.self.view_is)
