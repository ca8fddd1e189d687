use Rattle.std.proofs.Common.{◌≡◌, ℕ, true, Option, Some, sym, ◌∙◌, ap, subst}
use Rattle.std.specs.Prelude.{slice_index_or}
use Rattle.desk_terms.specs.declared.terms.Terms.TheVariants.{Handle}
use Rattle.desk_terms.specs.declared.terms.HandleKind.{HandleKind}
use Rattle.desk_model.specs.Market.{Market, terms_at}
use Rattle.desk_model.specs.State.{State}
use Rattle.desk_model.specs.Links.{AreOfKind}
use Rattle.desk_model.specs.Laws.{MayLink}
use Rattle.desk_model.specs.Sound.{IsSound, KeepsCurrent}
use Rattle.desk_model.specs.Effect.{revised, relinked}
use Rattle.object_store.specs.Market.{market_in, state_in}
use Rattle.object_store.specs.Store.{registry_of}
use Rattle.object_store.specs.Shape.{IsJoined}
use Rattle.object_store.proofs.Telling.{kept_state, kept_marks, no_marks}
use Rattle.object_store.proofs.Joined.{revised_market, terms_watch}
use Rattle.desk_model.specs.declared.slot.Slot.TheVariants.{Free}
use Rattle.lazy_objects.proofs.Revised.{tells_then}
use Rattle.lazy_objects.proofs.Linked.{handle_plain, handle_within, handle_there, target_there, held_there, target_new, target_watched, target_room, joined_linked, linked_kept, link_as, link_links, link_changed}
use Rattle.lazy_objects.proofs.desk.Desk.relink.Goals as goal

pub returns-then-eq-clause-set : goal.returns-then-eq-clause-set
returns-then-eq-clause-set c =
    let is = c.link_of-link.ensures in
    subst (λ (s : State). s ≡ relinked c.args.handle c.args.target s) c.self.view_is
    (sym (link_as (state_in c.self.inside.market c.self.inside.books.store) c.args.handle c.link_of-link.result.kind c.link_of-link.result.target c.args.target true is (sym c.eq.ensures ∙ c.if-eq.true)))

pub watch_instead-requires-clause-held : goal.watch_instead-requires-clause-held
watch_instead-requires-clause-held c = held_there c.self.inside.market.today c.self.inside.market.objects c.args.handle c.link_of-link.result.kind c.link_of-link.result.target c.args.target c.self.inside.books.store c.self.invariant.1 c.link_of-link.ensures c.self.invariant.0.whole.links

pub watch_instead-requires-clause-target : goal.watch_instead-requires-clause-target
watch_instead-requires-clause-target c =
    target_there c.self.inside.market.today c.self.inside.market.objects c.args.handle c.link_of-link.result.kind c.link_of-link.result.target c.args.target c.self.inside.books.store c.self.invariant.1 c.link_of-link.ensures
    (subst (λ (t : State). MayLink t.market c.args.handle c.args.target) (sym c.self.view_is) c.requires.open)

pub watch_instead-requires-clause-observer : goal.watch_instead-requires-clause-observer
watch_instead-requires-clause-observer c = handle_there c.self.inside.market.today c.self.inside.market.objects c.args.handle c.link_of-link.result.kind c.link_of-link.result.target c.args.target c.self.inside.books.store c.self.invariant.1 c.link_of-link.ensures

pub watch_instead-requires-clause-watched : goal.watch_instead-requires-clause-watched
watch_instead-requires-clause-watched c = target_watched c.self.inside.market.today c.self.inside.market.objects c.args.handle c.link_of-link.result.kind c.link_of-link.result.target c.args.target c.self.inside.books.store c.self.invariant.1 c.link_of-link.ensures

pub watch_instead-requires-clause-new : goal.watch_instead-requires-clause-new
watch_instead-requires-clause-new c = target_new c.self.inside.market.today c.self.inside.market.objects c.args.handle c.link_of-link.result.kind c.link_of-link.result.target c.args.target c.self.inside.books.store c.self.invariant.1 c.link_of-link.ensures

pub watch_instead-requires-clause-room : goal.watch_instead-requires-clause-room
watch_instead-requires-clause-room c = target_room c.self.inside.market.today c.self.inside.market.objects c.args.handle c.link_of-link.result.kind c.link_of-link.result.target c.args.target c.self.inside.books.store c.self.invariant.1 c.link_of-link.ensures

pub revise-requires-clause-joined : goal.revise-requires-clause-joined
revise-requires-clause-joined c =
    let is = c.link_of-link.ensures in
    (joined_linked c.self.inside.market.today c.self.inside.market.objects c.args.handle c.link_of-link.result.kind c.link_of-link.result.target c.args.target c.self.inside.books.store c.self.invariant.1 is c.watch_instead.new.store c.watch_instead.ensures)

pub revise-requires-clause-sources : goal.revise-requires-clause-sources
revise-requires-clause-sources c = kept_marks c.self.inside.books.store c.watch_instead.new.store (linked_kept c.link_of-link.result.target c.args.target c.args.handle c.self.inside.books.store c.watch_instead.new.store
    (handle_plain c.self.inside.market.today c.self.inside.market.objects c.args.handle c.link_of-link.result.kind c.link_of-link.result.target c.args.target c.self.inside.books.store c.self.invariant.1 c.link_of-link.ensures) c.watch_instead.ensures)
    (no_marks c.self.inside.market.today c.self.inside.market.objects c.self.inside.books.store c.self.invariant.0.sources)

pub revise-requires-clause-told : goal.revise-requires-clause-told
revise-requires-clause-told c =
    let is = c.link_of-link.ensures in
    let may = subst (λ (t : State). MayLink t.market c.args.handle c.args.target) (sym c.self.view_is) c.requires.open in
    let differs = sym c.eq.ensures ∙ c.if-eq.false in
    tells_then c.self.inside.market.today c.self.inside.market.objects c.args.handle (Handle c.link_of-link.result.kind c.args.target)
    (handle_within c.self.inside.market.today c.self.inside.market.objects c.args.handle c.link_of-link.result.kind c.link_of-link.result.target c.args.target c.self.inside.books.store c.self.invariant.1 is)
    (terms_watch (slice_index_or c.self.inside.market.objects c.args.handle Free) (Handle c.link_of-link.result.kind c.link_of-link.result.target) is)
    c.self.inside.books.store c.watch_instead.new.store c.self.invariant.0.whole
    (linked_kept c.link_of-link.result.target c.args.target c.args.handle c.self.inside.books.store c.watch_instead.new.store (handle_plain c.self.inside.market.today c.self.inside.market.objects c.args.handle c.link_of-link.result.kind c.link_of-link.result.target c.args.target c.self.inside.books.store c.self.invariant.1 c.link_of-link.ensures) c.watch_instead.ensures).registry
    (link_links c.self.inside.market.today c.self.inside.market.objects c.self.inside.books.store.kept (registry_of c.self.inside.books.store) c.self.inside.books.scratch c.self.invariant.0 c.args.handle c.link_of-link.result.kind c.link_of-link.result.target c.args.target is may differs)

pub invariant_of-self : goal.invariant_of-self
invariant_of-self c =
    let is = c.link_of-link.ensures in
    let may = subst (λ (t : State). MayLink t.market c.args.handle c.args.target) (sym c.self.view_is) c.requires.open in
    let differs = sym c.eq.ensures ∙ c.if-eq.false in
    let kinds = subst (λ (t : State). (k : HandleKind) (u : Option ℕ) → terms_at t.market c.args.handle ≡ Some (Handle k u) → AreOfKind t.market (Some (Handle k c.args.target))) (sym c.self.view_is) c.requires.kinds in
    let e = c.revise.ensures.state
    ∙ ap (revised c.args.handle (Handle c.link_of-link.result.kind c.args.target)) (kept_state c.self.inside.market.today c.self.inside.market.objects c.self.inside.books.store c.watch_instead.new.store (linked_kept c.link_of-link.result.target c.args.target c.args.handle c.self.inside.books.store c.watch_instead.new.store
    (handle_plain c.self.inside.market.today c.self.inside.market.objects c.args.handle c.link_of-link.result.kind c.link_of-link.result.target c.args.target c.self.inside.books.store c.self.invariant.1 c.link_of-link.ensures) c.watch_instead.ensures)) in
    let d = link_changed c.self.inside.market.today c.self.inside.market.objects c.self.inside.books.store.kept (registry_of c.self.inside.books.store) c.self.inside.books.scratch c.self.invariant.0 c.args.handle c.link_of-link.result.kind c.link_of-link.result.target c.args.target is may differs kinds (state_in c.revise.new.market c.revise.new.store) e in
    let market = ap (λ (t : State). t.market) e ∙ revised_market c.args.handle (Handle c.link_of-link.result.kind c.args.target) (state_in c.self.inside.market c.self.inside.books.store) in (
      d.stands,
      subst (IsJoined (market_in c.revise.new.market)) (sym c.revise.ensures.shape)
          (subst (λ (m : Market). IsJoined m c.watch_instead.new.store.shape) (sym market)
          (joined_linked c.self.inside.market.today c.self.inside.market.objects c.args.handle c.link_of-link.result.kind c.link_of-link.result.target c.args.target c.self.inside.books.store c.self.invariant.1 is c.watch_instead.new.store c.watch_instead.ensures)),
    )

pub returns-clause-set : goal.returns-clause-set
returns-clause-set c =
    let is = c.link_of-link.ensures in
    let may = subst (λ (t : State). MayLink t.market c.args.handle c.args.target) (sym c.self.view_is) c.requires.open in
    let differs = sym c.eq.ensures ∙ c.if-eq.false in
    let kinds = subst (λ (t : State). (k : HandleKind) (u : Option ℕ) → terms_at t.market c.args.handle ≡ Some (Handle k u) → AreOfKind t.market (Some (Handle k c.args.target))) (sym c.self.view_is) c.requires.kinds in
    let e = c.revise.ensures.state
    ∙ ap (revised c.args.handle (Handle c.link_of-link.result.kind c.args.target)) (kept_state c.self.inside.market.today c.self.inside.market.objects c.self.inside.books.store c.watch_instead.new.store (linked_kept c.link_of-link.result.target c.args.target c.args.handle c.self.inside.books.store c.watch_instead.new.store
    (handle_plain c.self.inside.market.today c.self.inside.market.objects c.args.handle c.link_of-link.result.kind c.link_of-link.result.target c.args.target c.self.inside.books.store c.self.invariant.1 c.link_of-link.ensures) c.watch_instead.ensures)) in
    let d = link_changed c.self.inside.market.today c.self.inside.market.objects c.self.inside.books.store.kept (registry_of c.self.inside.books.store) c.self.inside.books.scratch c.self.invariant.0 c.args.handle c.link_of-link.result.kind c.link_of-link.result.target c.args.target is may differs kinds (state_in c.revise.new.market c.revise.new.store) e in
    d.state ∙ ap (relinked c.args.handle c.args.target) c.self.view_is

pub returns-clause-keeps : goal.returns-clause-keeps
returns-clause-keeps c =
    let is = c.link_of-link.ensures in
    let may = subst (λ (t : State). MayLink t.market c.args.handle c.args.target) (sym c.self.view_is) c.requires.open in
    let differs = sym c.eq.ensures ∙ c.if-eq.false in
    let kinds = subst (λ (t : State). (k : HandleKind) (u : Option ℕ) → terms_at t.market c.args.handle ≡ Some (Handle k u) → AreOfKind t.market (Some (Handle k c.args.target))) (sym c.self.view_is) c.requires.kinds in
    let e = c.revise.ensures.state
    ∙ ap (revised c.args.handle (Handle c.link_of-link.result.kind c.args.target)) (kept_state c.self.inside.market.today c.self.inside.market.objects c.self.inside.books.store c.watch_instead.new.store (linked_kept c.link_of-link.result.target c.args.target c.args.handle c.self.inside.books.store c.watch_instead.new.store
    (handle_plain c.self.inside.market.today c.self.inside.market.objects c.args.handle c.link_of-link.result.kind c.link_of-link.result.target c.args.target c.self.inside.books.store c.self.invariant.1 c.link_of-link.ensures) c.watch_instead.ensures)) in
    let d = link_changed c.self.inside.market.today c.self.inside.market.objects c.self.inside.books.store.kept (registry_of c.self.inside.books.store) c.self.inside.books.scratch c.self.invariant.0 c.args.handle c.link_of-link.result.kind c.link_of-link.result.target c.args.target is may differs kinds (state_in c.revise.new.market c.revise.new.store) e in
    subst (λ (t : State). KeepsCurrent t (state_in c.revise.new.market c.revise.new.store)) c.self.view_is d.keeps

pub returns-clause-sound : goal.returns-clause-sound
returns-clause-sound c calc sound =
    let is = c.link_of-link.ensures in
    let may = subst (λ (t : State). MayLink t.market c.args.handle c.args.target) (sym c.self.view_is) c.requires.open in
    let differs = sym c.eq.ensures ∙ c.if-eq.false in
    let kinds = subst (λ (t : State). (k : HandleKind) (u : Option ℕ) → terms_at t.market c.args.handle ≡ Some (Handle k u) → AreOfKind t.market (Some (Handle k c.args.target))) (sym c.self.view_is) c.requires.kinds in
    let e = c.revise.ensures.state
    ∙ ap (revised c.args.handle (Handle c.link_of-link.result.kind c.args.target)) (kept_state c.self.inside.market.today c.self.inside.market.objects c.self.inside.books.store c.watch_instead.new.store (linked_kept c.link_of-link.result.target c.args.target c.args.handle c.self.inside.books.store c.watch_instead.new.store
    (handle_plain c.self.inside.market.today c.self.inside.market.objects c.args.handle c.link_of-link.result.kind c.link_of-link.result.target c.args.target c.self.inside.books.store c.self.invariant.1 c.link_of-link.ensures) c.watch_instead.ensures)) in
    let d = link_changed c.self.inside.market.today c.self.inside.market.objects c.self.inside.books.store.kept (registry_of c.self.inside.books.store) c.self.inside.books.scratch c.self.invariant.0 c.args.handle c.link_of-link.result.kind c.link_of-link.result.target c.args.target is may differs kinds (state_in c.revise.new.market c.revise.new.store) e in
    d.sound calc (subst (IsSound calc) (sym c.self.view_is) sound)
