use Rattle.std.proofs.Common.{◌≡◌, true, sym, ◌∙◌, ap, subst}
use Rattle.std.specs.Prelude.{◌↔◌, ◌==◌}
use Rattle.std.specs.List.{list_any}
use Rattle.std.proofs.lemmas.Bool.{false≢true}
use Rattle.walks.specs.Walk.{Among}
use Rattle.desk_model.specs.Market.{slot_at, is_watcher}
use Rattle.desk_model.specs.State.{State}
use Rattle.desk_model.specs.Told.{is_registered}
use Rattle.desk_model.specs.Links.{IsWhole}
use Rattle.object_store.specs.Market.{market_in, state_in}
use Rattle.object_store.specs.Shape.{Shape, observed_by}
use Rattle.object_store.proofs.Joined.{there_seen}
use Rattle.object_store.proofs.Kept.{live_as}
use Rattle.lazy_objects.proofs.Handed.{registered_with_none, unobserved}
use Rattle.lazy_objects.proofs.Watched.{watcher_there, is_registered_is}
use Rattle.lazy_objects.proofs.desk.Desk.is_registered.Goals as goal

pub returns-then-not-is_live : goal.returns-then-not-is_live
returns-then-not-is_live c =
    let state = state_in c.self.inside.market c.self.inside.books.store in
    sym (unobserved state c.args.watcher c.args.object c.self.invariant.0.whole (λ seen.
    false≢true (sym c.if-not-is_live.true ∙ c.is_live.ensures
    ∙ live_as c.deref.result.now c.self.inside.books.store.shape c.deref.ensures.shape c.args.object
    ∙ there_seen (market_in c.self.inside.market) c.self.inside.books.store.shape c.self.invariant.1 c.args.object seen)))
    ∙ ap (λ (t : State). is_registered t c.args.watcher c.args.object) c.self.view_is

pub returns-then-not-is_watcher : goal.returns-then-not-is_watcher
returns-then-not-is_watcher c = sym (ap (list_any (λ x. x == c.args.object)) (registered_with_none c.args.self.now c.args.watcher (subst IsWhole c.self.view_is c.self.invariant.0.whole)
    (sym c.is_watcher.ensures ∙ c.if-not-is_watcher.true)))

pub has_pair-requires-clause-subject : goal.has_pair-requires-clause-subject
has_pair-requires-clause-subject c = live_as c.deref-2.result.now c.self.inside.books.store.shape c.deref-2.ensures.shape c.args.object
    ∙ sym (live_as c.deref.result.now c.self.inside.books.store.shape c.deref.ensures.shape c.args.object) ∙ sym c.is_live.ensures ∙ c.if-not-is_live.false

pub has_pair-requires-clause-observer : goal.has_pair-requires-clause-observer
has_pair-requires-clause-observer c =
    let watcher = subst (λ (t : State). is_watcher (slot_at t.market c.args.watcher) ≡ true) (sym c.self.view_is) (sym c.is_watcher.ensures ∙ c.if-not-is_watcher.false) in
    live_as c.deref-2.result.now c.self.inside.books.store.shape c.deref-2.ensures.shape c.args.watcher
    ∙ watcher_there c.self.inside.market.today c.self.inside.market.objects c.self.inside.books.store c.self.inside.books.store.kept c.self.invariant.1 c.args.watcher watcher

pub returns : goal.returns
returns c =
    let watcher = subst (λ (t : State). is_watcher (slot_at t.market c.args.watcher) ≡ true) (sym c.self.view_is) (sym c.is_watcher.ensures ∙ c.if-not-is_watcher.false) in
    let pair = subst (λ (s : Shape). (c.has_pair.result ≡ true) ↔ Among c.args.object (observed_by s c.args.watcher)) c.deref-2.ensures.shape c.has_pair.ensures in
    is_registered_is c.self.inside.market.today c.self.inside.market.objects c.self.inside.books.store c.self.inside.books.store.kept c.self.invariant.1 c.args.watcher watcher c.args.object c.has_pair.result pair ∙ ap (λ (t : State). is_registered t c.args.watcher c.args.object) c.self.view_is
