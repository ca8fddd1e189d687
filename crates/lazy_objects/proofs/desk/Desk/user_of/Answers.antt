use Rattle.std.proofs.Common.{sym, ◌∙◌, ap, subst}
use Rattle.walks.specs.Walk.{Among}
use Rattle.observer_graph.specs.Notice.{IsLeast}
use Rattle.desk_model.specs.Market.{least_user}
use Rattle.desk_model.specs.State.{State}
use Rattle.object_store.specs.Market.{market_in}
use Rattle.object_store.specs.Shape.{Shape, edges_at}
use Rattle.object_store.proofs.HeldBack.{user_node}
use Rattle.object_store.proofs.Joined.{least_is, least_gone}
use Rattle.object_store.proofs.Kept.{live_as}
use Rattle.lazy_objects.proofs.desk.Desk.user_of.Goals as goal

pub returns-then-not-is_live : goal.returns-then-not-is_live
returns-then-not-is_live c = least_gone (market_in c.self.inside.market) c.self.inside.books.store.shape c.self.invariant.1 c.self.invariant.0.whole.links c.args.object
    (sym (live_as c.deref.result.now c.self.inside.books.store.shape c.deref.ensures.shape c.args.object) ∙ sym c.is_live.ensures ∙ c.if-not-is_live.true)
    ∙ ap (λ (t : State). least_user t.market c.args.object) c.self.view_is

pub returns : goal.returns
returns c =
    let least = subst (λ (s : Shape). IsLeast (λ o. Among c.args.object (edges_at s o)) c.least_observer.result) c.deref-2.ensures.shape
    (user_node c.deref-2.result.now c.args.object c.least_observer.result c.least_observer.ensures) in
    least_is (market_in c.self.inside.market) c.self.inside.books.store.shape c.self.invariant.1 c.self.invariant.0.whole.links c.args.object c.least_observer.result least
    ∙ ap (λ (t : State). least_user t.market c.args.object) c.self.view_is
