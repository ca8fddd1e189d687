use Rattle.std.proofs.Common.{◌≡◌, true, sym, ◌∙◌, ap, subst}
use Rattle.std.specs.Prelude.{◌↔◌, not}
use Rattle.walks.specs.Walk.{Among}
use Rattle.std.proofs.lemmas.Bool.{false≢true}
use Rattle.desk_model.specs.Market.{slot_at, is_watcher, is_observable}
use Rattle.desk_model.specs.State.{State}
use Rattle.desk_model.specs.Told.{is_registered}
use Rattle.desk_model.specs.Sound.{IsSound, KeepsCurrent}
use Rattle.desk_model.specs.Effect.{registered_with}
use Rattle.object_store.specs.Market.{market_in, state_in}
use Rattle.object_store.specs.Shape.{Shape, observed_by}
use Rattle.object_store.specs.Store.{StoreView}
use Rattle.object_store.proofs.Joined.{there_seen}
use Rattle.object_store.proofs.Kept.{live_as}
use Rattle.object_store.proofs.Lent.{seen_with, live, joins}
use Rattle.lazy_objects.proofs.Watched.{watcher_there, is_registered_is, registered_left}
use Rattle.lazy_objects.proofs.desk.Desk.register.Goals as goal

pub has_pair-requires-clause-subject : goal.has_pair-requires-clause-subject
has_pair-requires-clause-subject c =
    let observed = subst (λ (t : State). is_observable (slot_at t.market c.args.object) ≡ true) (sym c.self.view_is) c.requires.subject in
    live_as c.deref.result.now c.self.inside.books.store.shape c.deref.ensures.shape c.args.object
    ∙ there_seen (market_in c.self.inside.market) c.self.inside.books.store.shape c.self.invariant.1 c.args.object observed

pub has_pair-requires-clause-observer : goal.has_pair-requires-clause-observer
has_pair-requires-clause-observer c =
    let watcher = subst (λ (t : State). is_watcher (slot_at t.market c.args.watcher) ≡ true) (sym c.self.view_is) c.requires.watcher in
    live_as c.deref.result.now c.self.inside.books.store.shape c.deref.ensures.shape c.args.watcher
    ∙ watcher_there c.self.inside.market.today c.self.inside.market.objects c.self.inside.books.store c.self.inside.books.store.kept c.self.invariant.1 c.args.watcher watcher

pub returns-then-has_pair-clause-was : goal.returns-then-has_pair-clause-was
returns-then-has_pair-clause-was c =
    let watcher = subst (λ (t : State). is_watcher (slot_at t.market c.args.watcher) ≡ true) (sym c.self.view_is) c.requires.watcher in
    ap not (sym c.if-has_pair.true ∙ is_registered_is c.self.inside.market.today c.self.inside.market.objects c.self.inside.books.store c.self.inside.books.store.kept c.self.invariant.1 c.args.watcher watcher c.args.object c.has_pair.result (subst (λ (s : Shape). (c.has_pair.result ≡ true) ↔ Among c.args.object (observed_by s c.args.watcher)) c.deref.ensures.shape c.has_pair.ensures) ∙ ap (λ (t : State). is_registered t c.args.watcher c.args.object) c.self.view_is)

pub watch-requires-clause-subject : goal.watch-requires-clause-subject
watch-requires-clause-subject c =
    let observed = subst (λ (t : State). is_observable (slot_at t.market c.args.object) ≡ true) (sym c.self.view_is) c.requires.subject in
    live c.store.inside c.store.invariant c.self.inside.books.store c.store.view_is c.args.object
    (there_seen (market_in c.self.inside.market) c.self.inside.books.store.shape c.self.invariant.1 c.args.object observed)

pub watch-requires-clause-observer : goal.watch-requires-clause-observer
watch-requires-clause-observer c =
    let watcher = subst (λ (t : State). is_watcher (slot_at t.market c.args.watcher) ≡ true) (sym c.self.view_is) c.requires.watcher in
    live c.store.inside c.store.invariant c.self.inside.books.store c.store.view_is c.args.watcher
    (watcher_there c.self.inside.market.today c.self.inside.market.objects c.self.inside.books.store c.self.inside.books.store.kept c.self.invariant.1 c.args.watcher watcher)

pub watch-requires-clause-new : goal.watch-requires-clause-new
watch-requires-clause-new c = λ among.
    let there = subst (λ (v : StoreView). Among c.args.object (observed_by v.shape c.args.watcher)) c.store.view_is among in
    false≢true (sym c.if-has_pair.false ∙ (subst (λ (s : Shape). (c.has_pair.result ≡ true) ↔ Among c.args.object (observed_by s c.args.watcher)) c.deref.ensures.shape c.has_pair.ensures).1 there)

pub invariant_of-self-2 : goal.invariant_of-self-2
invariant_of-self-2 c =
    let watcher = subst (λ (t : State). is_watcher (slot_at t.market c.args.watcher) ≡ true) (sym c.self.view_is) c.requires.watcher in
    let observed = subst (λ (t : State). is_observable (slot_at t.market c.args.object) ≡ true) (sym c.self.view_is) c.requires.subject in
    let d = registered_left c.self.inside.market.today c.self.inside.market.objects c.self.inside.books.store (seen_with c.store.inside c.watch.new.self) c.self.inside.books.scratch c.self.invariant.0 c.self.invariant.1 c.args.watcher c.args.object watcher observed (joins c.store.inside c.store.invariant c.self.inside.books.store c.store.view_is c.watch.new.self c.args.object c.args.watcher c.in_ok-watch.ensures.ok) (c.watch.ensures.spare ∙ ap (λ (v : StoreView). v.shape.spare) c.store.view_is) in
    (d.changed.stands, d.joined)

pub returns-clause-was : goal.returns-clause-was
returns-clause-was c =
    let watcher = subst (λ (t : State). is_watcher (slot_at t.market c.args.watcher) ≡ true) (sym c.self.view_is) c.requires.watcher in
    ap not (sym c.if-has_pair.false ∙ is_registered_is c.self.inside.market.today c.self.inside.market.objects c.self.inside.books.store c.self.inside.books.store.kept c.self.invariant.1 c.args.watcher watcher c.args.object c.has_pair.result (subst (λ (s : Shape). (c.has_pair.result ≡ true) ↔ Among c.args.object (observed_by s c.args.watcher)) c.deref.ensures.shape c.has_pair.ensures) ∙ ap (λ (t : State). is_registered t c.args.watcher c.args.object) c.self.view_is)

pub returns-clause-set : goal.returns-clause-set
returns-clause-set c =
    let watcher = subst (λ (t : State). is_watcher (slot_at t.market c.args.watcher) ≡ true) (sym c.self.view_is) c.requires.watcher in
    let observed = subst (λ (t : State). is_observable (slot_at t.market c.args.object) ≡ true) (sym c.self.view_is) c.requires.subject in
    let d = registered_left c.self.inside.market.today c.self.inside.market.objects c.self.inside.books.store (seen_with c.store.inside c.watch.new.self) c.self.inside.books.scratch c.self.invariant.0 c.self.invariant.1 c.args.watcher c.args.object watcher observed (joins c.store.inside c.store.invariant c.self.inside.books.store c.store.view_is c.watch.new.self c.args.object c.args.watcher c.in_ok-watch.ensures.ok) (c.watch.ensures.spare ∙ ap (λ (v : StoreView). v.shape.spare) c.store.view_is) in
    d.changed.state ∙ ap (registered_with c.args.watcher c.args.object) c.self.view_is

pub returns-clause-keeps : goal.returns-clause-keeps
returns-clause-keeps c =
    let watcher = subst (λ (t : State). is_watcher (slot_at t.market c.args.watcher) ≡ true) (sym c.self.view_is) c.requires.watcher in
    let observed = subst (λ (t : State). is_observable (slot_at t.market c.args.object) ≡ true) (sym c.self.view_is) c.requires.subject in
    let d = registered_left c.self.inside.market.today c.self.inside.market.objects c.self.inside.books.store (seen_with c.store.inside c.watch.new.self) c.self.inside.books.scratch c.self.invariant.0 c.self.invariant.1 c.args.watcher c.args.object watcher observed (joins c.store.inside c.store.invariant c.self.inside.books.store c.store.view_is c.watch.new.self c.args.object c.args.watcher c.in_ok-watch.ensures.ok) (c.watch.ensures.spare ∙ ap (λ (v : StoreView). v.shape.spare) c.store.view_is) in
    subst (λ (t : State). KeepsCurrent t (state_in c.self.inside.market (seen_with c.store.inside c.watch.new.self))) c.self.view_is d.changed.keeps

pub returns-clause-sound : goal.returns-clause-sound
returns-clause-sound c calc sound =
    let watcher = subst (λ (t : State). is_watcher (slot_at t.market c.args.watcher) ≡ true) (sym c.self.view_is) c.requires.watcher in
    let observed = subst (λ (t : State). is_observable (slot_at t.market c.args.object) ≡ true) (sym c.self.view_is) c.requires.subject in
    let d = registered_left c.self.inside.market.today c.self.inside.market.objects c.self.inside.books.store (seen_with c.store.inside c.watch.new.self) c.self.inside.books.scratch c.self.invariant.0 c.self.invariant.1 c.args.watcher c.args.object watcher observed (joins c.store.inside c.store.invariant c.self.inside.books.store c.store.view_is c.watch.new.self c.args.object c.args.watcher c.in_ok-watch.ensures.ok) (c.watch.ensures.spare ∙ ap (λ (v : StoreView). v.shape.spare) c.store.view_is) in
    d.changed.sound calc (subst (IsSound calc) (sym c.self.view_is) sound)
