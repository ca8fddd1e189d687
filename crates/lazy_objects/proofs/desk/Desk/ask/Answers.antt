use Rattle.std.proofs.Common.{◌≡◌, ◌≢◌, ◌⊎◌, true, None, sym, subst}
use Rattle.std.specs.Prelude.{IsOk, IfOk, OnErr}
use Rattle.desk_terms.specs.declared.asked.Asked.{Asked}
use Rattle.desk_model.specs.State.{State, kept_at, held_outcome}
use Rattle.ask_walk.specs.Asks.{Asks, Stops}
use Rattle.object_store.specs.Market.{market_in, state_in}
use Rattle.object_store.specs.Shape.{IsJoined}
use Rattle.object_store.specs.Store.{registry_of}
use Rattle.lazy_objects.proofs.Ends.{stands_then}
use Rattle.lazy_objects.proofs.desk.Desk.ask.Goals as goal

pub invariant_of-self : goal.invariant_of-self
invariant_of-self g c = (
  stands_then (g.B.Bench.calc c.args.bench.now) c.self.inside.market.today c.self.inside.market.objects c.self.inside.books.store.kept c.ask.new.self.store.kept (registry_of c.self.inside.books.store) (registry_of c.ask.new.self.store)
      c.self.inside.books.scratch c.ask.new.self.scratch c.self.invariant.0 c.ask.ensures.stays c.ask.ensures.empty,
  subst (IsJoined (market_in c.self.inside.market)) (sym c.ask.ensures.shape) c.self.invariant.1,
)

pub returns-clause-asks : goal.returns-clause-asks
returns-clause-asks g c =
    subst (λ (t : State). IfOk c.ask.result (λ (answer : Asked). Asks (g.B.Bench.calc c.args.bench.now) c.args.object t (state_in c.self.inside.market c.ask.new.self.store) answer
    (g.B.Bench.count c.args.bench.now) (g.B.Bench.count c.ask.new.bench) (g.B.Bench.log c.args.bench.now) (g.B.Bench.log c.ask.new.bench))) c.self.view_is c.ask.ensures.asks

pub returns-clause-stops : goal.returns-clause-stops
returns-clause-stops g c =
    subst (λ (t : State). OnErr c.ask.result (Stops (g.B.Bench.calc c.args.bench.now) c.args.object t (state_in c.self.inside.market c.ask.new.self.store)
    (g.B.Bench.count c.args.bench.now) (g.B.Bench.count c.ask.new.bench) (g.B.Bench.log c.args.bench.now) (g.B.Bench.log c.ask.new.bench))) c.self.view_is c.ask.ensures.stops

pub returns-clause-sound : goal.returns-clause-sound
returns-clause-sound g c = c.ask.ensures.stays.sound

pub returns-clause-valued : goal.returns-clause-valued
returns-clause-valued g c = λ value is. c.ask.ensures.stays.whole.valued c.args.object value is

pub returns-clause-ready : goal.returns-clause-ready
returns-clause-ready g c = subst (λ (t : State). (held_outcome t c.args.object ≢ None) ⊎ ((kept_at t c.args.object).current ≡ true) → IsOk c.ask.result) c.self.view_is c.ask.ensures.ready
