use Rattle.std.proofs.Common.{refl, arith, ◌≡◌, List, length, Some, sym, ◌∙◌, ap, subst}
use Rattle.std.specs.Prelude.{slice_index_or, Ok, Err}
use Rattle.std.proofs.lemmas.Result.{err_from_is_err_and}
use Rattle.std.proofs.lemmas.List.{length-set}
use Rattle.desk_terms.specs.declared.terms.Terms.TheVariants.{Index}
use Rattle.desk_terms.specs.declared.kind.Kind.TheVariants as kind
use Rattle.flow_terms.specs.Fixings.{with_fixing}
use Rattle.desk_model.specs.declared.slot.Slot.{Slot}
use Rattle.desk_model.specs.declared.slot.Slot.TheVariants.{Free, Live}
use Rattle.desk_model.specs.Market.{kind_at}
use Rattle.desk_model.specs.Uses.{index_at, fixings_in}
use Rattle.desk_model.specs.State.{State}
use Rattle.desk_model.specs.Links.{CanTell}
use Rattle.desk_model.specs.Sound.{IsSound, KeepsCurrent}
use Rattle.desk_model.specs.Effect.{fixing_added}
use Rattle.object_store.specs.Market.{market_in, state_in}
use Rattle.object_store.specs.Slots.{market_of, state_of}
use Rattle.object_store.specs.Store.{registry_of}
use Rattle.object_store.specs.Shape.{registrations_of, IsJoined}
use Rattle.object_store.proofs.Telling.{given_set, no_marks}
use Rattle.lazy_objects.proofs.Revised.{tells_then, kind_within}
use Rattle.lazy_objects.proofs.Ends.{keeps_same}
use Rattle.lazy_objects.proofs.Stored.{index_there, fixings_are, refused_as, joined_fixing, fixing_links, fixing_left}
use Rattle.object_store.proofs.Joined.{terms_watch}
use Rattle.lazy_objects.proofs.desk.Desk.add_fixing.Goals as goal

pub returns-in_err-store_fixing-clause-exists : goal.returns-in_err-store_fixing-clause-exists
returns-in_err-store_fixing-clause-exists c kept =
    let is = subst (λ (t : State). kind_at t.market c.args.index ≡ Some kind.Index) (sym c.self.view_is) c.requires.index in
    let f = index_there (market_in c.self.inside.market) c.args.index is in
    let p = err_from_is_err_and c.from_residual.result c.from_residual.ensures.1 in
    refused_as f.1 (fixings_in (index_at c.args.self.now.market (Some c.args.index))) c.store_fixing.result c.from_residual.result c.args.day kept
    (ap (λ (t : State). fixings_in (index_at t.market (Some c.args.index))) (sym c.self.view_is) ∙ fixings_are (market_in c.self.inside.market) c.args.index f.0 f.1 f.2)
    (p.1 ∙ ap Err p.2 ∙ sym c.in_err-store_fixing.was)
    (c.store_fixing.ensures.exists f.0 f.1 f.2 kept)

pub returns-in_err-store_fixing-clause-keeps : goal.returns-in_err-store_fixing-clause-keeps
returns-in_err-store_fixing-clause-keeps c =
    let same = c.in_err-store_fixing.ensures.same in
    subst (λ (t : State). KeepsCurrent t (state_of c.self.inside.market.today c.store_fixing.new.self c.self.inside.books.store.kept (registry_of c.self.inside.books.store))) c.self.view_is
    (subst (λ (l : List Slot). KeepsCurrent (state_in c.self.inside.market c.self.inside.books.store) (state_of c.self.inside.market.today l c.self.inside.books.store.kept (registry_of c.self.inside.books.store))) (sym same)
    (keeps_same (state_in c.self.inside.market c.self.inside.books.store) c.self.inside.books.scratch c.self.invariant.0))

pub tell_changed-requires-clause-within : goal.tell_changed-requires-clause-within
tell_changed-requires-clause-within c =
    let is = subst (λ (t : State). kind_at t.market c.args.index ≡ Some kind.Index) (sym c.self.view_is) c.requires.index in
    let f = index_there (market_in c.self.inside.market) c.args.index is in
    let are = c.in_ok-store_fixing.ensures.added f.0 f.1 f.2 in
    let long = ap (λ (l : List Slot). length l) are ∙ length-set c.self.inside.market.objects c.args.index (Live (Index f.0 (with_fixing f.1 c.args.day c.args.rate))) in
    let within = kind_within c.self.inside.market.objects c.self.inside.market.today c.args.index kind.Index is in
    omega (arith, long, within)

pub tell_changed-requires-clause-kept : goal.tell_changed-requires-clause-kept
tell_changed-requires-clause-kept c =
    let is = subst (λ (t : State). kind_at t.market c.args.index ≡ Some kind.Index) (sym c.self.view_is) c.requires.index in
    let f = index_there (market_in c.self.inside.market) c.args.index is in
    let are = c.in_ok-store_fixing.ensures.added f.0 f.1 f.2 in
    c.self.invariant.0.whole.length ∙ sym (ap (λ (l : List Slot). length l) are ∙ length-set c.self.inside.market.objects c.args.index (Live (Index f.0 (with_fixing f.1 c.args.day c.args.rate))))

pub tell_changed-requires-clause-live : goal.tell_changed-requires-clause-live
tell_changed-requires-clause-live c =
    let is = subst (λ (t : State). kind_at t.market c.args.index ≡ Some kind.Index) (sym c.self.view_is) c.requires.index in
    let f = index_there (market_in c.self.inside.market) c.args.index is in
    let are = c.in_ok-store_fixing.ensures.added f.0 f.1 f.2 in
    given_set c.self.inside.market.objects c.store_fixing.new.self c.args.index (Index f.0 (with_fixing f.1 c.args.day c.args.rate)) are (kind_within c.self.inside.market.objects c.self.inside.market.today c.args.index kind.Index is)

pub tell_changed-requires-clause-joined : goal.tell_changed-requires-clause-joined
tell_changed-requires-clause-joined c =
    let is = subst (λ (t : State). kind_at t.market c.args.index ≡ Some kind.Index) (sym c.self.view_is) c.requires.index in
    let f = index_there (market_in c.self.inside.market) c.args.index is in
    let are = c.in_ok-store_fixing.ensures.added f.0 f.1 f.2 in
    subst (λ (l : List Slot). IsJoined (market_of c.self.inside.market.today l) c.self.inside.books.store.shape) (sym are)
    (joined_fixing c.self.inside.market.today c.self.inside.market.objects c.self.inside.books.store.shape c.args.index f.0 f.1 (with_fixing f.1 c.args.day c.args.rate) c.self.invariant.1 (kind_within c.self.inside.market.objects c.self.inside.market.today c.args.index kind.Index is) f.2)

pub tell_changed-requires-clause-sources : goal.tell_changed-requires-clause-sources
tell_changed-requires-clause-sources c = no_marks c.self.inside.market.today c.self.inside.market.objects c.self.inside.books.store c.self.invariant.0.sources

pub tell_changed-requires-clause-told : goal.tell_changed-requires-clause-told
tell_changed-requires-clause-told c =
    let is = subst (λ (t : State). kind_at t.market c.args.index ≡ Some kind.Index) (sym c.self.view_is) c.requires.index in
    let f = index_there (market_in c.self.inside.market) c.args.index is in
    let are = c.in_ok-store_fixing.ensures.added f.0 f.1 f.2 in
    subst (λ (l : List Slot). CanTell (market_of c.self.inside.market.today l) (registrations_of c.self.inside.books.store.shape) c.self.inside.books.store.noticed) (sym are)
    (tells_then c.self.inside.market.today c.self.inside.market.objects c.args.index (Index f.0 (with_fixing f.1 c.args.day c.args.rate)) (kind_within c.self.inside.market.objects c.self.inside.market.today c.args.index kind.Index is)
    (terms_watch (slice_index_or c.self.inside.market.objects c.args.index Free) (Index f.0 f.1) f.2) c.self.inside.books.store c.self.inside.books.store c.self.invariant.0.whole refl
    (fixing_links c.self.inside.market.today c.self.inside.market.objects c.self.inside.books.store.kept (registry_of c.self.inside.books.store) c.self.inside.books.scratch c.self.invariant.0 c.args.index f.0 f.1 c.args.day c.args.rate f.2))

pub invariant_of-self-2 : goal.invariant_of-self-2
invariant_of-self-2 c =
    let is = subst (λ (t : State). kind_at t.market c.args.index ≡ Some kind.Index) (sym c.self.view_is) c.requires.index in
    let f = index_there (market_in c.self.inside.market) c.args.index is in
    let are = c.in_ok-store_fixing.ensures.added f.0 f.1 f.2 in
    let d = fixing_left c.self.inside.market.today c.self.inside.market.objects c.store_fixing.new.self c.self.inside.books.store c.tell_changed.new.store c.self.inside.books.scratch c.args.index f.0 f.1 c.args.day c.args.rate
    c.self.invariant.0 c.self.invariant.1 (kind_within c.self.inside.market.objects c.self.inside.market.today c.args.index kind.Index is) f.2 are
    c.tell_changed.ensures.state c.tell_changed.ensures.shape in
    (d.changed.stands, d.joined)

pub returns-clause-exists : goal.returns-clause-exists
returns-clause-exists c kept =
    let is = subst (λ (t : State). kind_at t.market c.args.index ≡ Some kind.Index) (sym c.self.view_is) c.requires.index in
    let f = index_there (market_in c.self.inside.market) c.args.index is in
    refused_as f.1 (fixings_in (index_at c.args.self.now.market (Some c.args.index))) c.store_fixing.result (Ok tt) c.args.day kept
    (ap (λ (t : State). fixings_in (index_at t.market (Some c.args.index))) (sym c.self.view_is) ∙ fixings_are (market_in c.self.inside.market) c.args.index f.0 f.1 f.2)
    (sym c.in_ok-store_fixing.was)
    (c.store_fixing.ensures.exists f.0 f.1 f.2 kept)

pub returns-clause-added : goal.returns-clause-added
returns-clause-added c =
    let is = subst (λ (t : State). kind_at t.market c.args.index ≡ Some kind.Index) (sym c.self.view_is) c.requires.index in
    let f = index_there (market_in c.self.inside.market) c.args.index is in
    let are = c.in_ok-store_fixing.ensures.added f.0 f.1 f.2 in
    let d = fixing_left c.self.inside.market.today c.self.inside.market.objects c.store_fixing.new.self c.self.inside.books.store c.tell_changed.new.store c.self.inside.books.scratch c.args.index f.0 f.1 c.args.day c.args.rate
    c.self.invariant.0 c.self.invariant.1 (kind_within c.self.inside.market.objects c.self.inside.market.today c.args.index kind.Index is) f.2 are
    c.tell_changed.ensures.state c.tell_changed.ensures.shape in
    d.changed.state ∙ ap (fixing_added c.args.index c.args.day c.args.rate) c.self.view_is

pub returns-clause-keeps : goal.returns-clause-keeps
returns-clause-keeps c =
    let is = subst (λ (t : State). kind_at t.market c.args.index ≡ Some kind.Index) (sym c.self.view_is) c.requires.index in
    let f = index_there (market_in c.self.inside.market) c.args.index is in
    let are = c.in_ok-store_fixing.ensures.added f.0 f.1 f.2 in
    let d = fixing_left c.self.inside.market.today c.self.inside.market.objects c.store_fixing.new.self c.self.inside.books.store c.tell_changed.new.store c.self.inside.books.scratch c.args.index f.0 f.1 c.args.day c.args.rate
    c.self.invariant.0 c.self.invariant.1 (kind_within c.self.inside.market.objects c.self.inside.market.today c.args.index kind.Index is) f.2 are
    c.tell_changed.ensures.state c.tell_changed.ensures.shape in
    subst (λ (t : State). KeepsCurrent t (state_of c.self.inside.market.today c.store_fixing.new.self c.tell_changed.new.store.kept (registry_of c.tell_changed.new.store))) c.self.view_is d.changed.keeps

pub returns-clause-sound : goal.returns-clause-sound
returns-clause-sound c calc sound =
    let is = subst (λ (t : State). kind_at t.market c.args.index ≡ Some kind.Index) (sym c.self.view_is) c.requires.index in
    let f = index_there (market_in c.self.inside.market) c.args.index is in
    let are = c.in_ok-store_fixing.ensures.added f.0 f.1 f.2 in
    let d = fixing_left c.self.inside.market.today c.self.inside.market.objects c.store_fixing.new.self c.self.inside.books.store c.tell_changed.new.store c.self.inside.books.scratch c.args.index f.0 f.1 c.args.day c.args.rate
    c.self.invariant.0 c.self.invariant.1 (kind_within c.self.inside.market.objects c.self.inside.market.today c.args.index kind.Index is) f.2 are
    c.tell_changed.ensures.state c.tell_changed.ensures.shape in
    d.changed.sound calc (subst (IsSound calc) (sym c.self.view_is) sound)
