use Rattle.std.proofs.Common.{List, [], ◌∷◌, ◌++◌, ℤ, sym, ◌∙◌, ap, w64}
use Rattle.std.specs.Prelude.{slice_index_or, slice_set}
use Rattle.std.proofs.lemmas.Bool.{false≢true}
use Rattle.std.proofs.lemmas.Int.{to_z-of_z}
use Rattle.desk_terms.specs.declared.terms.Part.{Part}
use Rattle.desk_terms.specs.declared.terms.Terms.TheVariants.{Composite}
use Rattle.desk_model.specs.declared.slot.Slot.TheVariants.{Free, Live}
use Rattle.object_store.specs.Parts.{parts_in}
use Rattle.object_store.proofs.Boarded.{on_ok}
use Rattle.desk_model.specs.Changeable.{reweighted}
use Rattle.lazy_objects.proofs.Places.{no_place, has_placed, place_within, set_there}
use Rattle.lazy_objects.proofs.Weighed.{parts_stand}
use Rattle.lazy_objects.proofs.Reweighted.{not_zero, some_weight, with_new, with_other}
use Rattle.lazy_objects.proofs.Rewatched.{is_zero, no_member, rewatched_less, rewatched_same, rewatched_more}
use Rattle.lazy_objects.proofs.weights.weigh.Goals as goal

pub join-requires-clause-new : goal.join-requires-clause-new
join-requires-clause-new c = λ a.
    no_member (parts_in (slice_index_or c.args.objects.now c.args.composite Free)) c.args.member (no_place (parts_in (slice_index_or c.args.objects.now c.args.composite Free)) c.args.member (sym c.requires.place ∙ c.in-None.is)) ((c.requires.watched c.args.member).0 a)

pub returns-in-None-clause-weighed : goal.returns-in-None-clause-weighed
returns-in-None-clause-weighed c =
    let parts = parts_in (slice_index_or c.args.objects.now c.args.composite Free) in
    let none = no_place parts c.args.member (sym c.requires.place ∙ c.in-None.is) in
    let some = some_weight parts c.args.member c.args.weight none c.requires.differs in
    let bits = to_z-of_z w64 c.args.weight c.ranges.weight in
    on_ok c.join.result c.join.ensures.joined (λ e.
    e
    ∙ ap (λ (weight : ℤ). slice_set c.args.objects.now c.args.composite (Live (Composite (parts_in (slice_index_or c.args.objects.now c.args.composite Free) ++ record { weight = weight; member = c.args.member } ∷ [])))) bits
    ∙ ap (λ (l : List Part). slice_set c.args.objects.now c.args.composite (Live (Composite l))) (with_new parts c.args.member c.args.weight some none))

pub returns-in-None-clause-rewatched : goal.returns-in-None-clause-rewatched
returns-in-None-clause-rewatched c =
    let parts = parts_in (slice_index_or c.args.objects.now c.args.composite Free) in
    let none = no_place parts c.args.member (sym c.requires.place ∙ c.in-None.is) in
    let some = some_weight parts c.args.member c.args.weight none c.requires.differs in
    on_ok c.join.result c.join.ensures.watched (λ joins.
    rewatched_more c.args.composite c.args.member c.args.weight parts c.args.store.now c.requires.watched c.join.new.store some none joins c.join.ensures.spare)

pub returns-in-Some-clause-rewatched : goal.returns-in-Some-clause-rewatched
returns-in-Some-clause-rewatched c =
    on_ok c.take_out.result c.take_out.ensures.left (λ leaves.
    rewatched_less c.args.composite c.args.member c.args.weight (parts_in (slice_index_or c.args.objects.now c.args.composite Free)) c.args.store.now c.requires.watched c.take_out.new.store
    (is_zero c.args.weight c.if-weight-eq0.true (to_z-of_z w64 c.args.weight c.ranges.weight)) leaves c.take_out.ensures.spare)

pub put_part-requires-clause-within : goal.put_part-requires-clause-within
put_part-requires-clause-within c = place_within (parts_in (slice_index_or c.args.objects.now c.args.composite Free)) c.args.member c.in-Some-2.at (sym c.requires.place ∙ c.in-Some-2.is)

pub returns-in-Some-2-clause-weighed : goal.returns-in-Some-2-clause-weighed
returns-in-Some-2-clause-weighed c =
    let parts = parts_in (slice_index_or c.args.objects.now c.args.composite Free) in
    let at = sym c.requires.place ∙ c.in-Some-2.is in
    let there = has_placed parts c.args.member c.in-Some-2.at at in
    c.put_part.ensures parts (parts_stand c.args.objects.now c.args.composite c.requires.composite)
    ∙ ap (λ (l : List Part). slice_set c.args.objects.now c.args.composite (Live (Composite l))) (set_there parts c.args.member c.in-Some-2.at at _ c.requires.each)
    ∙ ap (λ (weight : ℤ). slice_set c.args.objects.now c.args.composite (Live (Composite (reweighted (parts_in (slice_index_or c.args.objects.now c.args.composite Free)) c.args.member weight)))) (to_z-of_z w64 c.args.weight c.ranges.weight)
    ∙ ap (λ (l : List Part). slice_set c.args.objects.now c.args.composite (Live (Composite l))) (with_other parts c.args.member c.args.weight (not_zero c.args.weight c.if-weight-eq0.false) there)

pub returns-in-Some-2-clause-rewatched : goal.returns-in-Some-2-clause-rewatched
returns-in-Some-2-clause-rewatched c =
    let parts = parts_in (slice_index_or c.args.objects.now c.args.composite Free) in
    rewatched_same c.args.composite c.args.member c.args.weight parts c.args.store.now c.requires.watched
    (not_zero c.args.weight c.if-weight-eq0.false) (has_placed parts c.args.member c.in-Some-2.at (sym c.requires.place ∙ c.in-Some-2.is))

pub returns-in-None-clause-stays : goal.returns-in-None-clause-stays
returns-in-None-clause-stays c = λ has some.
    absurd (false≢true (sym (no_place (parts_in (slice_index_or c.args.objects.now c.args.composite Free)) c.args.member (sym c.requires.place ∙ c.in-None.is)) ∙ has))
