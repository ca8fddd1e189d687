use Rattle.std.proofs.Common.{◌≡◌, ℕ, true, sym, ◌∙◌, ap, subst}
use Rattle.std.specs.Prelude.{◌↔◌}
use Rattle.std.specs.List.{list_any}
use Rattle.walks.specs.Walk.{Among}
use Rattle.desk_model.specs.Market.{slot_at, is_watcher}
use Rattle.desk_model.specs.State.{State}
use Rattle.desk_model.specs.Told.{is_watching}
use Rattle.desk_model.specs.Links.{IsWhole}
use Rattle.object_store.specs.Shape.{Shape, observed_by}
use Rattle.object_store.proofs.Kept.{live_as}
use Rattle.lazy_objects.proofs.Handed.{registered_with_none}
use Rattle.lazy_objects.proofs.Watched.{watcher_there, is_watching_is}
use Rattle.lazy_objects.proofs.desk.Desk.watching.Goals as goal

pub returns-else-is_watcher : goal.returns-else-is_watcher
returns-else-is_watcher c = c.if-is_watcher.false ∙ sym (ap (list_any (λ (x : ℕ). true)) (registered_with_none c.args.self.now c.args.object (subst IsWhole c.self.view_is c.self.invariant.0.whole)
    (sym c.is_watcher.ensures ∙ c.if-is_watcher.false)))

pub has_subject-requires : goal.has_subject-requires
has_subject-requires c =
    let watcher = subst (λ (t : State). is_watcher (slot_at t.market c.args.object) ≡ true) (sym c.self.view_is) (sym c.is_watcher.ensures ∙ c.if-is_watcher.true) in
    live_as c.deref.result.now c.self.inside.books.store.shape c.deref.ensures.shape c.args.object
    ∙ watcher_there c.self.inside.market.today c.self.inside.market.objects c.self.inside.books.store c.self.inside.books.store.kept c.self.invariant.1 c.args.object watcher

pub returns-then-is_watcher : goal.returns-then-is_watcher
returns-then-is_watcher c =
    let watcher = subst (λ (t : State). is_watcher (slot_at t.market c.args.object) ≡ true) (sym c.self.view_is) (sym c.is_watcher.ensures ∙ c.if-is_watcher.true) in
    let any = subst (λ (s : Shape). (c.has_subject.result ≡ true) ↔ ((x : ℕ) × Among x (observed_by s c.args.object))) c.deref.ensures.shape c.has_subject.ensures in
    is_watching_is c.self.inside.market.today c.self.inside.market.objects c.self.inside.books.store c.self.inside.books.store.kept c.self.invariant.1 c.args.object watcher c.has_subject.result any
    ∙ ap (λ (t : State). is_watching t c.args.object) c.self.view_is
