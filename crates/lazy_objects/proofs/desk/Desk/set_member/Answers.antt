use Rattle.std.proofs.Common.{◌≡◌, List, ℤ, Some, sym, ◌∙◌, ap, subst, true, w64}
use Rattle.std.specs.Prelude.{◌↔◌, slice_index_or, slice_set}
use Rattle.std.specs.Ordering.{int_eq}
use Rattle.std.proofs.lemmas.Int.{to_z-of_z}
use Rattle.walks.specs.Walk.{Among}
use Rattle.desk_terms.specs.declared.kind.Kind.TheVariants as kind
use Rattle.desk_terms.specs.declared.terms.Terms.TheVariants as terms_of
use Rattle.desk_terms.specs.declared.terms.Part.{Part}
use Rattle.desk_model.specs.declared.slot.Slot.TheVariants.{Live, Free}
use Rattle.desk_model.specs.State.{State}
use Rattle.desk_model.specs.Market.{kind_at}
use Rattle.desk_model.specs.Changeable.{weight_of, has_member, with_member}
use Rattle.desk_model.specs.Sound.{IsSound, KeepsCurrent}
use Rattle.desk_model.specs.Effect.{member_set}
use Rattle.object_store.specs.Shape.{Shape, observed_by}
use Rattle.object_store.specs.Slots.{state_of}
use Rattle.object_store.specs.Parts.{parts_in}
use Rattle.object_store.specs.Store.{registry_of, IsRewatched}
use Rattle.object_store.proofs.Joined.{composite_watches}
use Rattle.lazy_objects.proofs.Rewatched.{is_member_as}
use Rattle.lazy_objects.proofs.Weighed.{MayWeigh, Ranges, parts_each, weight_as, weighed_live, weighed_joined, weighed_marks, weighed_tells, weighed_left}
use Rattle.lazy_objects.proofs.desk.Desk.set_member.Goals as goal

pub place_of-place-requires : goal.place_of-place-requires
place_of-place-requires c =
    let is = subst (λ (t : State). kind_at t.market c.args.composite ≡ Some kind.Composite) (sym c.self.view_is) c.requires.composite in
    let watches = composite_watches c.self.inside.market.today c.self.inside.market.objects c.self.inside.books.store.shape c.args.composite c.self.invariant.1 is c.args.member in
    let pair = subst (λ (s : Shape). (c.has_pair-is_member.result ≡ true) ↔ Among c.args.member (observed_by s c.args.composite)) c.deref.ensures.shape c.has_pair-is_member.ensures in
    is_member_as (parts_in (slice_index_or c.self.inside.market.objects c.args.composite Free)) c.args.member c.has_pair-is_member.result (λ e. watches.0 (pair.0 e), λ a. pair.1 (watches.1 a))
    ∙ ap (λ (p : List Part). has_member p c.args.member) (sym c.parts_of-parts.ensures)

pub returns-then-has_weight-clause-set : goal.returns-then-has_weight-clause-set
returns-then-has_weight-clause-set c =
    let is = subst (λ (t : State). MayWeigh t.market c.args.composite c.args.member c.args.weight) (sym c.self.view_is) (c.requires.composite, c.requires.member, c.requires.open) in
    let bits = to_z-of_z w64 c.args.weight c.ranges.weight in
    let parts = c.parts_of-parts.ensures in
    let held = ap (λ (p : List Part). int_eq (weight_of p c.args.member) c.args.weight) (sym parts) ∙ ap (int_eq (weight_of c.parts_of-parts.result.now c.args.member)) (sym bits) ∙ sym c.has_weight.ensures ∙ c.if-has_weight.true in
    subst (λ (s : State). s ≡ member_set c.args.composite c.args.member c.args.weight s) c.self.view_is
    (sym (weight_as (state_of c.self.inside.market.today c.self.inside.market.objects c.self.inside.books.store.kept (registry_of c.self.inside.books.store)) c.args.composite c.args.member c.args.weight is.0 true held))

pub weigh-requires-clause-watched : goal.weigh-requires-clause-watched
weigh-requires-clause-watched c = λ x.
    let is = subst (λ (t : State). MayWeigh t.market c.args.composite c.args.member c.args.weight) (sym c.self.view_is) (c.requires.composite, c.requires.member, c.requires.open) in
    composite_watches c.self.inside.market.today c.self.inside.market.objects c.self.inside.books.store.shape c.args.composite c.self.invariant.1 is.0 x

pub weigh-requires-clause-each : goal.weigh-requires-clause-each
weigh-requires-clause-each c =
    let is = subst (λ (t : State). MayWeigh t.market c.args.composite c.args.member c.args.weight) (sym c.self.view_is) (c.requires.composite, c.requires.member, c.requires.open) in
    parts_each c.self.inside.market.today c.self.inside.market.objects c.self.inside.books.store.kept (registry_of c.self.inside.books.store) c.self.inside.books.scratch c.self.invariant.0
    c.args.composite is.0

pub tell_changed-requires-clause-live : goal.tell_changed-requires-clause-live
tell_changed-requires-clause-live c =
    let is = subst (λ (t : State). MayWeigh t.market c.args.composite c.args.member c.args.weight) (sym c.self.view_is) (c.requires.composite, c.requires.member, c.requires.open) in
    let ranges = subst (λ (t : State). Ranges t.market c.args.composite c.args.member c.args.weight) (sym c.self.view_is) (record { limit = c.requires.limit; count = c.requires.count }) in
    let bits = to_z-of_z w64 c.args.weight c.ranges.weight in
    let parts = c.parts_of-parts.ensures in
    let differs = ap (λ (p : List Part). int_eq (weight_of p c.args.member) c.args.weight) (sym parts) ∙ ap (int_eq (weight_of c.parts_of-parts.result.now c.args.member)) (sym bits) ∙ sym c.has_weight.ensures ∙ c.if-has_weight.false in
    let are = c.in_ok-weigh.ensures.weighed ∙ ap (λ (w : ℤ). slice_set c.self.inside.market.objects c.args.composite (Live (terms_of.Composite (with_member (parts_in (slice_index_or c.self.inside.market.objects c.args.composite Free)) c.args.member w)))) bits in
    let rewatched = subst (λ (w : ℤ). IsRewatched c.args.composite (with_member (parts_in (slice_index_or c.self.inside.market.objects c.args.composite Free)) c.args.member w) c.self.inside.books.store c.weigh.new.store) bits c.in_ok-weigh.ensures.rewatched in
    weighed_live c.self.inside.market.today c.self.inside.market.objects c.weigh.new.objects c.self.inside.books.store c.weigh.new.store c.self.inside.books.scratch c.args.composite c.args.member c.args.weight
    c.self.invariant.0 c.self.invariant.1 is ranges differs are rewatched

pub tell_changed-requires-clause-joined : goal.tell_changed-requires-clause-joined
tell_changed-requires-clause-joined c =
    let is = subst (λ (t : State). MayWeigh t.market c.args.composite c.args.member c.args.weight) (sym c.self.view_is) (c.requires.composite, c.requires.member, c.requires.open) in
    let ranges = subst (λ (t : State). Ranges t.market c.args.composite c.args.member c.args.weight) (sym c.self.view_is) (record { limit = c.requires.limit; count = c.requires.count }) in
    let bits = to_z-of_z w64 c.args.weight c.ranges.weight in
    let parts = c.parts_of-parts.ensures in
    let differs = ap (λ (p : List Part). int_eq (weight_of p c.args.member) c.args.weight) (sym parts) ∙ ap (int_eq (weight_of c.parts_of-parts.result.now c.args.member)) (sym bits) ∙ sym c.has_weight.ensures ∙ c.if-has_weight.false in
    let are = c.in_ok-weigh.ensures.weighed ∙ ap (λ (w : ℤ). slice_set c.self.inside.market.objects c.args.composite (Live (terms_of.Composite (with_member (parts_in (slice_index_or c.self.inside.market.objects c.args.composite Free)) c.args.member w)))) bits in
    let rewatched = subst (λ (w : ℤ). IsRewatched c.args.composite (with_member (parts_in (slice_index_or c.self.inside.market.objects c.args.composite Free)) c.args.member w) c.self.inside.books.store c.weigh.new.store) bits c.in_ok-weigh.ensures.rewatched in
    weighed_joined c.self.inside.market.today c.self.inside.market.objects c.weigh.new.objects c.self.inside.books.store c.weigh.new.store c.self.inside.books.scratch c.args.composite c.args.member c.args.weight
    c.self.invariant.0 c.self.invariant.1 is ranges differs are rewatched

pub tell_changed-requires-clause-sources : goal.tell_changed-requires-clause-sources
tell_changed-requires-clause-sources c =
    let is = subst (λ (t : State). MayWeigh t.market c.args.composite c.args.member c.args.weight) (sym c.self.view_is) (c.requires.composite, c.requires.member, c.requires.open) in
    let ranges = subst (λ (t : State). Ranges t.market c.args.composite c.args.member c.args.weight) (sym c.self.view_is) (record { limit = c.requires.limit; count = c.requires.count }) in
    let bits = to_z-of_z w64 c.args.weight c.ranges.weight in
    let parts = c.parts_of-parts.ensures in
    let differs = ap (λ (p : List Part). int_eq (weight_of p c.args.member) c.args.weight) (sym parts) ∙ ap (int_eq (weight_of c.parts_of-parts.result.now c.args.member)) (sym bits) ∙ sym c.has_weight.ensures ∙ c.if-has_weight.false in
    let are = c.in_ok-weigh.ensures.weighed ∙ ap (λ (w : ℤ). slice_set c.self.inside.market.objects c.args.composite (Live (terms_of.Composite (with_member (parts_in (slice_index_or c.self.inside.market.objects c.args.composite Free)) c.args.member w)))) bits in
    let rewatched = subst (λ (w : ℤ). IsRewatched c.args.composite (with_member (parts_in (slice_index_or c.self.inside.market.objects c.args.composite Free)) c.args.member w) c.self.inside.books.store c.weigh.new.store) bits c.in_ok-weigh.ensures.rewatched in
    weighed_marks c.self.inside.market.today c.self.inside.market.objects c.weigh.new.objects c.self.inside.books.store c.weigh.new.store c.self.inside.books.scratch c.args.composite c.args.member c.args.weight
    c.self.invariant.0 c.self.invariant.1 is ranges differs are rewatched

pub tell_changed-requires-clause-told : goal.tell_changed-requires-clause-told
tell_changed-requires-clause-told c =
    let is = subst (λ (t : State). MayWeigh t.market c.args.composite c.args.member c.args.weight) (sym c.self.view_is) (c.requires.composite, c.requires.member, c.requires.open) in
    let ranges = subst (λ (t : State). Ranges t.market c.args.composite c.args.member c.args.weight) (sym c.self.view_is) (record { limit = c.requires.limit; count = c.requires.count }) in
    let bits = to_z-of_z w64 c.args.weight c.ranges.weight in
    let parts = c.parts_of-parts.ensures in
    let differs = ap (λ (p : List Part). int_eq (weight_of p c.args.member) c.args.weight) (sym parts) ∙ ap (int_eq (weight_of c.parts_of-parts.result.now c.args.member)) (sym bits) ∙ sym c.has_weight.ensures ∙ c.if-has_weight.false in
    let are = c.in_ok-weigh.ensures.weighed ∙ ap (λ (w : ℤ). slice_set c.self.inside.market.objects c.args.composite (Live (terms_of.Composite (with_member (parts_in (slice_index_or c.self.inside.market.objects c.args.composite Free)) c.args.member w)))) bits in
    let rewatched = subst (λ (w : ℤ). IsRewatched c.args.composite (with_member (parts_in (slice_index_or c.self.inside.market.objects c.args.composite Free)) c.args.member w) c.self.inside.books.store c.weigh.new.store) bits c.in_ok-weigh.ensures.rewatched in
    weighed_tells c.self.inside.market.today c.self.inside.market.objects c.weigh.new.objects c.self.inside.books.store c.weigh.new.store c.self.inside.books.scratch c.args.composite c.args.member c.args.weight
    c.self.invariant.0 c.self.invariant.1 is ranges differs are rewatched

pub invariant_of-self-2 : goal.invariant_of-self-2
invariant_of-self-2 c =
    let is = subst (λ (t : State). MayWeigh t.market c.args.composite c.args.member c.args.weight) (sym c.self.view_is) (c.requires.composite, c.requires.member, c.requires.open) in
    let ranges = subst (λ (t : State). Ranges t.market c.args.composite c.args.member c.args.weight) (sym c.self.view_is) (record { limit = c.requires.limit; count = c.requires.count }) in
    let bits = to_z-of_z w64 c.args.weight c.ranges.weight in
    let parts = c.parts_of-parts.ensures in
    let differs = ap (λ (p : List Part). int_eq (weight_of p c.args.member) c.args.weight) (sym parts) ∙ ap (int_eq (weight_of c.parts_of-parts.result.now c.args.member)) (sym bits) ∙ sym c.has_weight.ensures ∙ c.if-has_weight.false in
    let are = c.in_ok-weigh.ensures.weighed ∙ ap (λ (w : ℤ). slice_set c.self.inside.market.objects c.args.composite (Live (terms_of.Composite (with_member (parts_in (slice_index_or c.self.inside.market.objects c.args.composite Free)) c.args.member w)))) bits in
    let rewatched = subst (λ (w : ℤ). IsRewatched c.args.composite (with_member (parts_in (slice_index_or c.self.inside.market.objects c.args.composite Free)) c.args.member w) c.self.inside.books.store c.weigh.new.store) bits c.in_ok-weigh.ensures.rewatched in
    let d = weighed_left c.self.inside.market.today c.self.inside.market.objects c.weigh.new.objects c.self.inside.books.store c.weigh.new.store c.self.inside.books.scratch c.args.composite c.args.member c.args.weight
    c.self.invariant.0 c.self.invariant.1 is ranges differs are rewatched c.tell_changed.new.store c.tell_changed.ensures.state c.tell_changed.ensures.shape in
    (d.changed.stands, d.joined)

pub returns-clause-set : goal.returns-clause-set
returns-clause-set c =
    let is = subst (λ (t : State). MayWeigh t.market c.args.composite c.args.member c.args.weight) (sym c.self.view_is) (c.requires.composite, c.requires.member, c.requires.open) in
    let ranges = subst (λ (t : State). Ranges t.market c.args.composite c.args.member c.args.weight) (sym c.self.view_is) (record { limit = c.requires.limit; count = c.requires.count }) in
    let bits = to_z-of_z w64 c.args.weight c.ranges.weight in
    let parts = c.parts_of-parts.ensures in
    let differs = ap (λ (p : List Part). int_eq (weight_of p c.args.member) c.args.weight) (sym parts) ∙ ap (int_eq (weight_of c.parts_of-parts.result.now c.args.member)) (sym bits) ∙ sym c.has_weight.ensures ∙ c.if-has_weight.false in
    let are = c.in_ok-weigh.ensures.weighed ∙ ap (λ (w : ℤ). slice_set c.self.inside.market.objects c.args.composite (Live (terms_of.Composite (with_member (parts_in (slice_index_or c.self.inside.market.objects c.args.composite Free)) c.args.member w)))) bits in
    let rewatched = subst (λ (w : ℤ). IsRewatched c.args.composite (with_member (parts_in (slice_index_or c.self.inside.market.objects c.args.composite Free)) c.args.member w) c.self.inside.books.store c.weigh.new.store) bits c.in_ok-weigh.ensures.rewatched in
    let d = weighed_left c.self.inside.market.today c.self.inside.market.objects c.weigh.new.objects c.self.inside.books.store c.weigh.new.store c.self.inside.books.scratch c.args.composite c.args.member c.args.weight
    c.self.invariant.0 c.self.invariant.1 is ranges differs are rewatched c.tell_changed.new.store c.tell_changed.ensures.state c.tell_changed.ensures.shape in
    d.changed.state ∙ ap (member_set c.args.composite c.args.member c.args.weight) c.self.view_is

pub returns-clause-keeps : goal.returns-clause-keeps
returns-clause-keeps c =
    let is = subst (λ (t : State). MayWeigh t.market c.args.composite c.args.member c.args.weight) (sym c.self.view_is) (c.requires.composite, c.requires.member, c.requires.open) in
    let ranges = subst (λ (t : State). Ranges t.market c.args.composite c.args.member c.args.weight) (sym c.self.view_is) (record { limit = c.requires.limit; count = c.requires.count }) in
    let bits = to_z-of_z w64 c.args.weight c.ranges.weight in
    let parts = c.parts_of-parts.ensures in
    let differs = ap (λ (p : List Part). int_eq (weight_of p c.args.member) c.args.weight) (sym parts) ∙ ap (int_eq (weight_of c.parts_of-parts.result.now c.args.member)) (sym bits) ∙ sym c.has_weight.ensures ∙ c.if-has_weight.false in
    let are = c.in_ok-weigh.ensures.weighed ∙ ap (λ (w : ℤ). slice_set c.self.inside.market.objects c.args.composite (Live (terms_of.Composite (with_member (parts_in (slice_index_or c.self.inside.market.objects c.args.composite Free)) c.args.member w)))) bits in
    let rewatched = subst (λ (w : ℤ). IsRewatched c.args.composite (with_member (parts_in (slice_index_or c.self.inside.market.objects c.args.composite Free)) c.args.member w) c.self.inside.books.store c.weigh.new.store) bits c.in_ok-weigh.ensures.rewatched in
    let d = weighed_left c.self.inside.market.today c.self.inside.market.objects c.weigh.new.objects c.self.inside.books.store c.weigh.new.store c.self.inside.books.scratch c.args.composite c.args.member c.args.weight
    c.self.invariant.0 c.self.invariant.1 is ranges differs are rewatched c.tell_changed.new.store c.tell_changed.ensures.state c.tell_changed.ensures.shape in
    subst (λ (t : State). KeepsCurrent t (state_of c.self.inside.market.today c.weigh.new.objects c.tell_changed.new.store.kept (registry_of c.tell_changed.new.store))) c.self.view_is d.changed.keeps

pub returns-clause-sound : goal.returns-clause-sound
returns-clause-sound c calc sound =
    let is = subst (λ (t : State). MayWeigh t.market c.args.composite c.args.member c.args.weight) (sym c.self.view_is) (c.requires.composite, c.requires.member, c.requires.open) in
    let ranges = subst (λ (t : State). Ranges t.market c.args.composite c.args.member c.args.weight) (sym c.self.view_is) (record { limit = c.requires.limit; count = c.requires.count }) in
    let bits = to_z-of_z w64 c.args.weight c.ranges.weight in
    let parts = c.parts_of-parts.ensures in
    let differs = ap (λ (p : List Part). int_eq (weight_of p c.args.member) c.args.weight) (sym parts) ∙ ap (int_eq (weight_of c.parts_of-parts.result.now c.args.member)) (sym bits) ∙ sym c.has_weight.ensures ∙ c.if-has_weight.false in
    let are = c.in_ok-weigh.ensures.weighed ∙ ap (λ (w : ℤ). slice_set c.self.inside.market.objects c.args.composite (Live (terms_of.Composite (with_member (parts_in (slice_index_or c.self.inside.market.objects c.args.composite Free)) c.args.member w)))) bits in
    let rewatched = subst (λ (w : ℤ). IsRewatched c.args.composite (with_member (parts_in (slice_index_or c.self.inside.market.objects c.args.composite Free)) c.args.member w) c.self.inside.books.store c.weigh.new.store) bits c.in_ok-weigh.ensures.rewatched in
    let d = weighed_left c.self.inside.market.today c.self.inside.market.objects c.weigh.new.objects c.self.inside.books.store c.weigh.new.store c.self.inside.books.scratch c.args.composite c.args.member c.args.weight
    c.self.invariant.0 c.self.invariant.1 is ranges differs are rewatched c.tell_changed.new.store c.tell_changed.ensures.state c.tell_changed.ensures.shape in
    d.changed.sound calc (subst (IsSound calc) (sym c.self.view_is) sound)
