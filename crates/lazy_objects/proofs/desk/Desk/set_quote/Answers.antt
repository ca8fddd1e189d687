use Rattle.std.proofs.Common.{◌≡◌, List, Some, refl, sym, ◌∙◌, ap, subst}
use Rattle.std.specs.Prelude.{slice_index_or}
use Rattle.desk_terms.specs.declared.terms.Terms.TheVariants as quote
use Rattle.desk_terms.specs.declared.kind.Kind.TheVariants.{Quote}
use Rattle.desk_model.specs.declared.slot.Slot.{Slot}
use Rattle.desk_model.specs.declared.slot.Slot.TheVariants.{Free}
use Rattle.desk_model.specs.Market.{kind_at}
use Rattle.desk_model.specs.State.{State}
use Rattle.desk_model.specs.Links.{CanTell}
use Rattle.desk_model.specs.Sound.{IsSound, KeepsCurrent}
use Rattle.desk_model.specs.Effect.{quote_set}
use Rattle.object_store.specs.Market.{state_in}
use Rattle.object_store.specs.Slots.{market_of, state_of, holds_value}
use Rattle.object_store.specs.Store.{registry_of}
use Rattle.desk_model.specs.Market.{Market}
use Rattle.object_store.specs.Shape.{registrations_of, Shape, IsJoined}
use Rattle.object_store.proofs.Joined.{joined_quote, quote_watch, revised_market}
use Rattle.object_store.proofs.Telling.{revised_told, no_marks}
use Rattle.lazy_objects.proofs.Revised.{tells_then, change_links, kind_within, quote_may, quote_changed, value_held}
use Rattle.desk_model.proofs.Carried.{keeps_itself}
use Rattle.lazy_objects.specs.Stands.{Stands}
use Rattle.object_store.proofs.Boarded.{kind_quote, held_same, unless_not, if_not}
use Rattle.lazy_objects.proofs.desk.Desk.set_quote.Goals as goal

pub set-requires : goal.set-requires
set-requires c = kind_quote (slice_index_or c.self.inside.market.objects c.args.quote Free) (subst (λ (t : State). kind_at t.market c.args.quote ≡ Some Quote) (sym c.self.view_is) c.requires)

pub tell_changed-requires-clause-told : goal.tell_changed-requires-clause-told
tell_changed-requires-clause-told c =
    let is = subst (λ (t : State). kind_at t.market c.args.quote ≡ Some Quote) (sym c.self.view_is) c.requires in
    subst (λ (l : List Slot). CanTell (market_of c.self.inside.market.today l) (registrations_of c.self.inside.books.store.shape) c.self.inside.books.store.noticed) (sym c.set.ensures.set)
    (tells_then c.self.inside.market.today c.self.inside.market.objects c.args.quote (quote.Quote c.args.value) (kind_within c.self.inside.market.objects c.self.inside.market.today c.args.quote Quote is)
    (quote_watch (slice_index_or c.self.inside.market.objects c.args.quote Free) is) c.self.inside.books.store c.self.inside.books.store c.self.invariant.0.whole refl
    (change_links c.self.inside.market.today c.self.inside.market.objects c.self.inside.books.store.kept (registry_of c.self.inside.books.store) c.self.inside.books.scratch c.self.invariant.0 c.args.quote (quote.Quote c.args.value) is (quote_may c.self.inside.market.objects c.self.inside.market.today c.args.quote c.args.value) tt tt))

pub tell_changed-requires-clause-joined : goal.tell_changed-requires-clause-joined
tell_changed-requires-clause-joined c =
    let is = subst (λ (t : State). kind_at t.market c.args.quote ≡ Some Quote) (sym c.self.view_is) c.requires in
    subst (λ (l : List Slot). IsJoined (market_of c.self.inside.market.today l) c.self.inside.books.store.shape) (sym c.set.ensures.set)
    (joined_quote c.self.inside.market.today c.self.inside.market.objects c.self.inside.books.store.shape c.args.quote c.args.value c.self.invariant.1 (kind_within c.self.inside.market.objects c.self.inside.market.today c.args.quote Quote is) is)

pub tell_changed-requires-clause-sources : goal.tell_changed-requires-clause-sources
tell_changed-requires-clause-sources c = no_marks c.self.inside.market.today c.self.inside.market.objects c.self.inside.books.store c.self.invariant.0.sources

pub invariant_of-self : goal.invariant_of-self
invariant_of-self c =
    let s = state_in c.self.inside.market c.self.inside.books.store in
    let is = subst (λ (t : State). kind_at t.market c.args.quote ≡ Some Quote) (sym c.self.view_is) c.requires in
    let e = revised_told c.self.inside.market.today c.self.inside.market.objects c.set.new.self c.self.inside.books.store.kept (registry_of c.self.inside.books.store) (state_of c.self.inside.market.today c.set.new.self c.tell_changed.new.store.kept (registry_of c.tell_changed.new.store)) c.args.quote (quote.Quote c.args.value) c.set.ensures.set c.tell_changed.ensures.state in
    let d = quote_changed c.self.inside.market.today c.self.inside.market.objects c.self.inside.books.store.kept (registry_of c.self.inside.books.store) c.self.inside.books.scratch c.args.quote c.args.value (state_of c.self.inside.market.today c.set.new.self c.tell_changed.new.store.kept (registry_of c.tell_changed.new.store)) c.self.invariant.0 is
    (unless_not (holds_value c.args.value (slice_index_or c.self.inside.market.objects c.args.quote Free)) (sym c.set.ensures.changed ∙ c.if-set.true)) e in
    let market = ap (λ (t : State). t.market) e ∙ revised_market c.args.quote (quote.Quote c.args.value) s in (
      d.stands,
      subst (λ (h : Shape). IsJoined (market_of c.self.inside.market.today c.set.new.self) h) (sym c.tell_changed.ensures.shape)
          (subst (λ (m : Market). IsJoined m c.self.inside.books.store.shape) (sym market)
          (joined_quote c.self.inside.market.today c.self.inside.market.objects c.self.inside.books.store.shape c.args.quote c.args.value c.self.invariant.1 (kind_within c.self.inside.market.objects c.self.inside.market.today c.args.quote Quote is) is)),
    )

pub returns-then-set-clause-set : goal.returns-then-set-clause-set
returns-then-set-clause-set c =
    let is = subst (λ (t : State). kind_at t.market c.args.quote ≡ Some Quote) (sym c.self.view_is) c.requires in
    let e = revised_told c.self.inside.market.today c.self.inside.market.objects c.set.new.self c.self.inside.books.store.kept (registry_of c.self.inside.books.store) (state_of c.self.inside.market.today c.set.new.self c.tell_changed.new.store.kept (registry_of c.tell_changed.new.store)) c.args.quote (quote.Quote c.args.value) c.set.ensures.set c.tell_changed.ensures.state in
    let d = quote_changed c.self.inside.market.today c.self.inside.market.objects c.self.inside.books.store.kept (registry_of c.self.inside.books.store) c.self.inside.books.scratch c.args.quote c.args.value (state_of c.self.inside.market.today c.set.new.self c.tell_changed.new.store.kept (registry_of c.tell_changed.new.store)) c.self.invariant.0 is
    (unless_not (holds_value c.args.value (slice_index_or c.self.inside.market.objects c.args.quote Free)) (sym c.set.ensures.changed ∙ c.if-set.true)) e in
    d.state ∙ ap (quote_set c.args.quote c.args.value) c.self.view_is

pub returns-then-set-clause-keeps : goal.returns-then-set-clause-keeps
returns-then-set-clause-keeps c =
    let is = subst (λ (t : State). kind_at t.market c.args.quote ≡ Some Quote) (sym c.self.view_is) c.requires in
    let e = revised_told c.self.inside.market.today c.self.inside.market.objects c.set.new.self c.self.inside.books.store.kept (registry_of c.self.inside.books.store) (state_of c.self.inside.market.today c.set.new.self c.tell_changed.new.store.kept (registry_of c.tell_changed.new.store)) c.args.quote (quote.Quote c.args.value) c.set.ensures.set c.tell_changed.ensures.state in
    let d = quote_changed c.self.inside.market.today c.self.inside.market.objects c.self.inside.books.store.kept (registry_of c.self.inside.books.store) c.self.inside.books.scratch c.args.quote c.args.value (state_of c.self.inside.market.today c.set.new.self c.tell_changed.new.store.kept (registry_of c.tell_changed.new.store)) c.self.invariant.0 is
    (unless_not (holds_value c.args.value (slice_index_or c.self.inside.market.objects c.args.quote Free)) (sym c.set.ensures.changed ∙ c.if-set.true)) e in
    subst (λ (t : State). KeepsCurrent t (state_of c.self.inside.market.today c.set.new.self c.tell_changed.new.store.kept (registry_of c.tell_changed.new.store))) c.self.view_is d.keeps

pub returns-then-set-clause-sound : goal.returns-then-set-clause-sound
returns-then-set-clause-sound c calc sound =
    let is = subst (λ (t : State). kind_at t.market c.args.quote ≡ Some Quote) (sym c.self.view_is) c.requires in
    let e = revised_told c.self.inside.market.today c.self.inside.market.objects c.set.new.self c.self.inside.books.store.kept (registry_of c.self.inside.books.store) (state_of c.self.inside.market.today c.set.new.self c.tell_changed.new.store.kept (registry_of c.tell_changed.new.store)) c.args.quote (quote.Quote c.args.value) c.set.ensures.set c.tell_changed.ensures.state in
    let d = quote_changed c.self.inside.market.today c.self.inside.market.objects c.self.inside.books.store.kept (registry_of c.self.inside.books.store) c.self.inside.books.scratch c.args.quote c.args.value (state_of c.self.inside.market.today c.set.new.self c.tell_changed.new.store.kept (registry_of c.tell_changed.new.store)) c.self.invariant.0 is
    (unless_not (holds_value c.args.value (slice_index_or c.self.inside.market.objects c.args.quote Free)) (sym c.set.ensures.changed ∙ c.if-set.true)) e in
    d.sound calc (subst (IsSound calc) (sym c.self.view_is) sound)

pub invariant_of-self-else-set : goal.invariant_of-self-else-set
invariant_of-self-else-set c =
    let same = c.set.ensures.set ∙ held_same c.self.inside.market.objects c.args.quote c.args.value (if_not (holds_value c.args.value (slice_index_or c.self.inside.market.objects c.args.quote Free)) (sym c.set.ensures.changed ∙ c.if-set.false)) in
    subst (λ (l : List Slot). Stands (state_of c.self.inside.market.today l c.self.inside.books.store.kept (registry_of c.self.inside.books.store)) c.self.inside.books.scratch × IsJoined (market_of c.self.inside.market.today l) c.self.inside.books.store.shape) (sym same) c.self.invariant

pub returns-else-set-clause-set : goal.returns-else-set-clause-set
returns-else-set-clause-set c =
    let is = subst (λ (t : State). kind_at t.market c.args.quote ≡ Some Quote) (sym c.self.view_is) c.requires in
    let held = if_not (holds_value c.args.value (slice_index_or c.self.inside.market.objects c.args.quote Free)) (sym c.set.ensures.changed ∙ c.if-set.false) in
    let same = c.set.ensures.set ∙ held_same c.self.inside.market.objects c.args.quote c.args.value held in
    ap (λ (l : List Slot). state_of c.self.inside.market.today l c.self.inside.books.store.kept (registry_of c.self.inside.books.store)) same
    ∙ value_held (state_in c.self.inside.market c.self.inside.books.store) c.args.quote c.args.value is held ∙ ap (quote_set c.args.quote c.args.value) c.self.view_is

pub returns-else-set-clause-keeps : goal.returns-else-set-clause-keeps
returns-else-set-clause-keeps c =
    let s = state_in c.self.inside.market c.self.inside.books.store in
    let same = c.set.ensures.set ∙ held_same c.self.inside.market.objects c.args.quote c.args.value (if_not (holds_value c.args.value (slice_index_or c.self.inside.market.objects c.args.quote Free)) (sym c.set.ensures.changed ∙ c.if-set.false)) in
    subst (λ (t : State). KeepsCurrent t (state_of c.self.inside.market.today c.set.new.self c.self.inside.books.store.kept (registry_of c.self.inside.books.store))) c.self.view_is
    (subst (λ (l : List Slot). KeepsCurrent s (state_of c.self.inside.market.today l c.self.inside.books.store.kept (registry_of c.self.inside.books.store))) (sym same) (keeps_itself s c.self.invariant.0.whole).current)

pub returns-else-set-clause-sound : goal.returns-else-set-clause-sound
returns-else-set-clause-sound c calc sound =
    let same = c.set.ensures.set ∙ held_same c.self.inside.market.objects c.args.quote c.args.value (if_not (holds_value c.args.value (slice_index_or c.self.inside.market.objects c.args.quote Free)) (sym c.set.ensures.changed ∙ c.if-set.false)) in
    subst (λ (l : List Slot). IsSound calc (state_of c.self.inside.market.today l c.self.inside.books.store.kept (registry_of c.self.inside.books.store))) (sym same) (subst (IsSound calc) (sym c.self.view_is) sound)
