use Rattle.std.proofs.Common.{◌≡◌, ◌⊎◌, inl, inr, Bool, true, sym, ◌∙◌, ap, subst}
use Rattle.std.specs.Prelude.{◌↔◌, ◌==◌, ◌||◌}
use Rattle.walks.specs.Walk.{Below}
use Rattle.desk_model.specs.State.{State}
use Rattle.desk_model.specs.Links.{reaches}
use Rattle.object_store.specs.Market.{market_in}
use Rattle.object_store.specs.Shape.{edges_at}
use Rattle.object_store.specs.Store.{StoreView}
use Rattle.object_store.proofs.HeldBack.{reaches_node}
use Rattle.object_store.proofs.Joined.{reaches_is, reaches_gone}
use Rattle.object_store.proofs.Kept.{live_as}
use Rattle.lazy_objects.proofs.desk.Desk.reaches.Goals as goal
use Rattle.lazy_objects.proofs.desk.Desk.reaches.Goals.{then-not-is_live-via-then-not-is_live, then-not-is_live-via-else-not-is_live+then-not-is_live-2}

pub returns-then-not-is_live-clause-answer : goal.returns-then-not-is_live-clause-answer
returns-then-not-is_live-clause-answer c =
    let m = market_in c.self.inside.market in
    let shape = ap (λ (v : StoreView). v.shape) c.store.view_is in
    let gone = reaches_gone m c.self.inside.books.store.shape c.self.invariant.1 c.self.invariant.0.whole.links c.args.from c.args.to (elim c.then-not-is_live.branch [
      | then-not-is_live-via-then-not-is_live w ↦ inl (sym (live_as c.store.inside.deferral.graph c.self.inside.books.store.shape shape c.args.from) ∙ sym c.is_live.ensures ∙ w.if-not-is_live.true)
      | then-not-is_live-via-else-not-is_live+then-not-is_live-2 w ↦ inr (sym (live_as c.store.inside.deferral.graph c.self.inside.books.store.shape shape c.args.to) ∙ sym w.is_live-else-not-is_live.ensures ∙ w.if-not-is_live-2.true)
    ]) in
    sym (ap (λ (b : Bool). b || reaches c.args.self.now.market c.args.from c.args.to) (sym c.eq.ensures ∙ c.if-eq.false)
    ∙ ap (λ (t : State). reaches t.market c.args.from c.args.to) (sym c.self.view_is) ∙ gone)

pub returns-clause-answer : goal.returns-clause-answer
returns-clause-answer c =
    let answer = subst (λ (v : StoreView). (c.reaches.result ≡ true) ↔ ((c.args.from ≡ c.args.to) ⊎ Below (edges_at v.shape) (λ y. y == c.args.to) (λ y. true) c.args.from)) c.store.view_is
    (reaches_node c.store.inside.deferral.graph c.args.from c.args.to c.reaches.result c.reaches.ensures.answer) in
    reaches_is (market_in c.self.inside.market) c.self.inside.books.store.shape c.self.invariant.1 c.self.invariant.0.whole.links c.reaches.result c.args.from c.args.to (sym c.eq.ensures ∙ c.if-eq.false) answer
    ∙ ap (λ (t : State). (c.args.from == c.args.to) || reaches t.market c.args.from c.args.to) c.self.view_is
