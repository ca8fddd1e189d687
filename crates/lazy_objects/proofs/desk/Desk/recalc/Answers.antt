use Rattle.std.proofs.Common.{◌≡◌, sym, subst}
use Rattle.std.specs.Prelude.{IfOk, OnErr}
use Rattle.ask_walk.specs.declared.recalced.Recalced.{Recalced}
use Rattle.desk_model.specs.State.{State, kept_at}
use Rattle.ask_walk.specs.Recalcs.{RecalcEnds, RecalcStops}
use Rattle.object_store.specs.Market.{market_in, state_in}
use Rattle.object_store.specs.Shape.{IsJoined}
use Rattle.object_store.specs.Store.{registry_of}
use Rattle.lazy_objects.specs.Untold.{TellsNobody}
use Rattle.lazy_objects.proofs.Ends.{stands_then}
use Rattle.lazy_objects.proofs.Untold.{stored_untold, on_err}
use Rattle.lazy_objects.proofs.desk.Desk.recalc.Goals as goal

pub invariant_of-self : goal.invariant_of-self
invariant_of-self g c = (
  stands_then (g.B.Bench.calc c.args.bench.now) c.self.inside.market.today c.self.inside.market.objects c.self.inside.books.store.kept c.recalc.new.self.store.kept (registry_of c.self.inside.books.store) (registry_of c.recalc.new.self.store)
      c.self.inside.books.scratch c.recalc.new.self.scratch c.self.invariant.0 c.recalc.ensures.stays c.recalc.ensures.empty,
  subst (IsJoined (market_in c.self.inside.market)) (sym c.recalc.ensures.shape) c.self.invariant.1,
)

pub returns-clause-ends : goal.returns-clause-ends
returns-clause-ends g c =
    subst (λ (t : State). IfOk c.recalc.result (λ (answer : Recalced). RecalcEnds (g.B.Bench.calc c.args.bench.now) c.args.object t (state_in c.self.inside.market c.recalc.new.self.store) answer
    (g.B.Bench.count c.args.bench.now) (g.B.Bench.count c.recalc.new.bench) (g.B.Bench.log c.args.bench.now) (g.B.Bench.log c.recalc.new.bench))) c.self.view_is c.recalc.ensures.ends

pub returns-clause-stops : goal.returns-clause-stops
returns-clause-stops g c =
    subst (λ (t : State). OnErr c.recalc.result (RecalcStops (g.B.Bench.calc c.args.bench.now) c.args.object t (state_in c.self.inside.market c.recalc.new.self.store)
    (g.B.Bench.count c.args.bench.now) (g.B.Bench.count c.recalc.new.bench) (g.B.Bench.log c.args.bench.now) (g.B.Bench.log c.recalc.new.bench))) c.self.view_is c.recalc.ensures.stops

pub returns-clause-sound : goal.returns-clause-sound
returns-clause-sound g c = c.recalc.ensures.stays.sound

pub returns-clause-kept : goal.returns-clause-kept
returns-clause-kept g c =
    let after : State = state_in c.self.inside.market c.recalc.new.self.store in
    on_err (RecalcStops (g.B.Bench.calc c.args.bench.now) c.args.object c.args.self.now after
    (g.B.Bench.count c.args.bench.now) (g.B.Bench.count c.recalc.new.bench) (g.B.Bench.log c.args.bench.now) (g.B.Bench.log c.recalc.new.bench))
    (kept_at after c.args.object ≡ kept_at c.args.self.now c.args.object) c.recalc.result (λ stops. stops.own) (returns-clause-stops g c)

pub returns-clause-untold : goal.returns-clause-untold
returns-clause-untold g c =
    let after : State = state_in c.self.inside.market c.recalc.new.self.store in
    on_err (RecalcStops (g.B.Bench.calc c.args.bench.now) c.args.object c.args.self.now after
    (g.B.Bench.count c.args.bench.now) (g.B.Bench.count c.recalc.new.bench) (g.B.Bench.log c.args.bench.now) (g.B.Bench.log c.recalc.new.bench))
    (TellsNobody c.args.self.now after) c.recalc.result (λ stops. stored_untold c.args.self.now after stops.front stops.state) (returns-clause-stops g c)
