use Rattle.std.proofs.Common.{arith, ◌≡◌, true, sym, ◌∙◌, ap, subst}
use Rattle.desk_model.specs.Market.{slot_at, is_watcher, is_observable}
use Rattle.desk_model.specs.State.{State}
use Rattle.desk_model.specs.Told.{is_registered}
use Rattle.desk_model.specs.Sound.{IsSound, KeepsCurrent}
use Rattle.desk_model.specs.Effect.{unregistered}
use Rattle.object_store.specs.Market.{market_in, state_in}
use Rattle.object_store.specs.Store.{StoreView}
use Rattle.object_store.proofs.Joined.{there_seen}
use Rattle.object_store.proofs.Lent.{seen_with, live, pair, leaves}
use Rattle.lazy_objects.proofs.Revised.{After}
use Rattle.lazy_objects.proofs.Watched.{watcher_there, is_registered_is, unregistered_left}
use Rattle.lazy_objects.proofs.desk.Desk.unregister.Goals as goal

pub unwatch-requires-clause-subject : goal.unwatch-requires-clause-subject
unwatch-requires-clause-subject c =
    let observed = subst (λ (t : State). is_observable (slot_at t.market c.args.object) ≡ true) (sym c.self.view_is) c.requires.subject in
    live c.store.inside c.store.invariant c.self.inside.books.store c.store.view_is c.args.object
    (there_seen (market_in c.self.inside.market) c.self.inside.books.store.shape c.self.invariant.1 c.args.object observed)

pub unwatch-requires-clause-observer : goal.unwatch-requires-clause-observer
unwatch-requires-clause-observer c =
    let watcher = subst (λ (t : State). is_watcher (slot_at t.market c.args.watcher) ≡ true) (sym c.self.view_is) c.requires.watcher in
    live c.store.inside c.store.invariant c.self.inside.books.store c.store.view_is c.args.watcher
    (watcher_there c.self.inside.market.today c.self.inside.market.objects c.self.inside.books.store c.self.inside.books.store.kept c.self.invariant.1 c.args.watcher watcher)

abbrev after : goal.After-unwatch → StoreView
after c = seen_with c.store.inside c.unwatch.new.self

left : (c : goal.After-unwatch) → After (state_in c.self.inside.market c.self.inside.books.store) (state_in c.self.inside.market (after c)) (unregistered c.args.watcher c.args.object (state_in c.self.inside.market c.self.inside.books.store)) c.self.inside.books.scratch (after c).shape
left c =
    let watcher = subst (λ (t : State). is_watcher (slot_at t.market c.args.watcher) ≡ true) (sym c.self.view_is) c.requires.watcher in
    let less = leaves c.store.inside c.store.invariant c.self.inside.books.store c.store.view_is c.unwatch.new.self c.args.object c.args.watcher c.unwatch.ensures.pairs in
    unregistered_left c.self.inside.market.today c.self.inside.market.objects c.self.inside.books.store (after c) c.self.inside.books.scratch c.self.invariant.0 c.self.invariant.1 c.args.watcher c.args.object watcher less
    (let spare = c.unwatch.ensures.spare in let was = ap (λ (v : StoreView). v.shape.spare) c.store.view_is in omega (arith, spare, was))

pub invariant_of-self : goal.invariant_of-self
invariant_of-self c = ((left c).changed.stands, (left c).joined)

pub returns-clause-was : goal.returns-clause-was
returns-clause-was c =
    let watcher = subst (λ (t : State). is_watcher (slot_at t.market c.args.watcher) ≡ true) (sym c.self.view_is) c.requires.watcher in
    let was = pair c.store.inside c.store.invariant c.self.inside.books.store c.store.view_is c.args.object c.args.watcher c.unwatch.result c.unwatch.ensures.was in
    is_registered_is c.self.inside.market.today c.self.inside.market.objects c.self.inside.books.store c.self.inside.books.store.kept c.self.invariant.1 c.args.watcher watcher c.args.object c.unwatch.result was ∙ ap (λ (t : State). is_registered t c.args.watcher c.args.object) c.self.view_is

pub returns-clause-set : goal.returns-clause-set
returns-clause-set c = (left c).changed.state ∙ ap (unregistered c.args.watcher c.args.object) c.self.view_is

pub returns-clause-keeps : goal.returns-clause-keeps
returns-clause-keeps c = subst (λ (t : State). KeepsCurrent t (state_in c.self.inside.market (after c))) c.self.view_is (left c).changed.keeps

pub returns-clause-sound : goal.returns-clause-sound
returns-clause-sound c calc sound = (left c).changed.sound calc (subst (IsSound calc) (sym c.self.view_is) sound)
