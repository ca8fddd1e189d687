use Rattle.std.proofs.Common.{◌≡◌, ℕ, List, None, true, refl, sym, ◌∙◌, ap, subst, arith}
use Rattle.desk_terms.specs.Reading.{Calc}
use Rattle.desk_terms.specs.declared.asked.Mark.TheVariants.{Recalc}
use Rattle.desk_model.specs.declared.kept.Kept.{Kept}
use Rattle.desk_model.specs.Links.{is_lazy_at}
use Rattle.desk_model.specs.State.{held_outcome}
use Rattle.object_store.specs.Market.{market_in, state_in}
use Rattle.object_store.specs.Shape.{Shape, role_at}
use Rattle.object_store.specs.Slots.{Registry, state_of}
use Rattle.object_store.specs.Store.{registry_of}
use Rattle.object_store.proofs.Joined.{lazy_there}
use Rattle.ask_walk.specs.Asks.{Walks, Stops, MayAsk}
use Rattle.ask_walk.specs.declared.turning.Begun.{Begun}
use Rattle.ask_walk.specs.Begun.{IsBegun}
use Rattle.ask_walk.specs.Turns.{MayRun}
use Rattle.ask_walk.proofs.Fronted.{on_err}
use Rattle.ask_walk.proofs.Loop.{open_of}
use Rattle.ask_walk.proofs.Keeping.{still_begun, unread_begun}
use Rattle.ask_walk.proofs.Settling.{settling, settled_few, needed_may, needed_free, needed_stale, stopped_within, settling_refused, settling_on}
use Rattle.ask_walk.proofs.Repriced.{turns_of, fails_of, settled_run, reprice_stops, reprice_waits, reprice_ran, reprice_fails, fails_stay}
use Rattle.ask_walk.proofs.asking.Books.reprice.Goals as goal

pub loop-cause-init : goal.loop-cause-init
loop-cause-init g c = (
  refl,
  settling (g.B.Bench.calc c.args.bench.now) (state_in c.args.market.now c.args.self.now.store) c.args.object (g.B.Bench.count c.args.bench.now) (g.B.Bench.log c.args.bench.now) c.requires.may c.requires.early,
  c.requires.remembers,
  unread_begun (market_in c.args.market.now) c.args.self.now.store.kept c.args.object c.begin-top.result c.begin-top.ensures,
  refl,
  refl,
  ap (λ (b : Begun). b.object) c.begin-top.ensures,
)

pub turn-requires-clause-lazy : goal.turn-requires-clause-lazy
turn-requires-clause-lazy g c = subst (λ (n : ℕ). is_lazy_at (market_in c.args.market.now) n ≡ true) (sym c.loop-cause.invariant.6) c.loop-cause.invariant.1.may.lazy

pub turn-requires-clause-role : goal.turn-requires-clause-role
turn-requires-clause-role g c = ap (λ (h : Shape). role_at h c.loop-cause.top.object) c.loop-cause.invariant.4 ∙ ap (role_at c.args.self.now.store.shape) c.loop-cause.invariant.6
    ∙ lazy_there (market_in c.args.market.now) c.args.self.now.store.shape c.requires.joined c.args.object c.loop-cause.invariant.1.may.lazy

pub turn-requires-clause-kinds : goal.turn-requires-clause-kinds
turn-requires-clause-kinds g c = c.loop-cause.invariant.1.may.kinds

pub turn-requires-clause-linked : goal.turn-requires-clause-linked
turn-requires-clause-linked g c = c.loop-cause.invariant.1.may.whole.links

pub turn-requires-clause-ranged : goal.turn-requires-clause-ranged
turn-requires-clause-ranged g c = c.loop-cause.invariant.1.may.ranged

pub turn-requires-clause-remembers : goal.turn-requires-clause-remembers
turn-requires-clause-remembers g c = c.loop-cause.invariant.2

pub turn-requires-clause-begun : goal.turn-requires-clause-begun
turn-requires-clause-begun g c = c.loop-cause.invariant.3

pub turn-requires-clause-run : goal.turn-requires-clause-run
turn-requires-clause-run g c = subst (λ (n : ℕ). MayRun (market_in c.args.market.now) c.loop-cause.self.store.kept n) (sym c.loop-cause.invariant.6) (settled_run _ _ _ _ _ _ _ _ _ c.loop-cause.invariant.1)

pub returns-in_err-cause-clause-stops : goal.returns-in_err-cause-clause-stops
returns-in_err-cause-clause-stops g c = on_err _ (reprice_fails _ _ _ _ _ _ _ _ _ c.loop-cause.invariant.1 _ _ _ (fails_of _ _ _ _ _ _ _ _ _ c.loop-cause.invariant.6 c.in_err-cause.ensures.fails))

pub returns-in_err-cause-clause-stays : goal.returns-in_err-cause-clause-stays
returns-in_err-cause-clause-stays g c = on_err _ (fails_stay _ _ _ _ _ _ _ _ _ c.loop-cause.invariant.1 _ _ _ (fails_of _ _ _ _ _ _ _ _ _ c.loop-cause.invariant.6 c.in_err-cause.ensures.fails))

pub returns-in-Stops-clause-reprices : goal.returns-in-Stops-clause-reprices
returns-in-Stops-clause-reprices g c = reprice_stops _ _ _ _ _ _ _ _ _ c.loop-cause.invariant.1 _ _ _ _ (turns_of _ _ _ _ _ _ _ _ _ _ _ _ c.loop-cause.invariant.0 c.loop-cause.invariant.6 c.in_ok-cause.ensures.turns) c.in-Stops.cause c.answered.result c.in-Stops.is c.answered.ensures

pub returns-in-Ran-clause-reprices : goal.returns-in-Ran-clause-reprices
returns-in-Ran-clause-reprices g c = reprice_ran _ _ _ _ _ _ _ _ _ c.loop-cause.invariant.1 _ _ _ _ (turns_of _ _ _ _ _ _ _ _ _ _ _ _ c.loop-cause.invariant.0 c.loop-cause.invariant.6 c.in_ok-cause.ensures.turns) c.in-Ran.cause c.answered-in-Ran.result c.in-Ran.is c.answered-in-Ran.ensures

pub walk-requires-clause-may : goal.walk-requires-clause-may
walk-requires-clause-may g c =
    let w = reprice_waits _ _ _ _ _ _ _ _ _ c.loop-cause.invariant.1 _ _ _ _ (turns_of _ _ _ _ _ _ _ _ _ _ _ _ c.loop-cause.invariant.0 c.loop-cause.invariant.6 c.in_ok-cause.ensures.turns) c.in-Waits.needed c.in-Waits.is in
    subst (λ (on : Registry). MayAsk (g.B.Bench.calc c.turn.new.bench) (state_of c.args.market.now.today c.args.market.now.objects c.turn.new.self.store.kept on) c.in-Waits.needed) (sym (c.turn.ensures.registry ∙ c.loop-cause.invariant.5))
    (subst (λ (k : Calc). MayAsk k (state_of c.args.market.now.today c.args.market.now.objects c.turn.new.self.store.kept (registry_of c.args.self.now.store)) c.in-Waits.needed) (sym (c.turn.ensures.same ∙ c.loop-cause.invariant.0)) (needed_may _ _ _ _ _ _ _ _ _ w.0 c.in-Waits.needed w.1))

pub walk-requires-clause-free : goal.walk-requires-clause-free
walk-requires-clause-free g c =
    let w = reprice_waits _ _ _ _ _ _ _ _ _ c.loop-cause.invariant.1 _ _ _ _ (turns_of _ _ _ _ _ _ _ _ _ _ _ _ c.loop-cause.invariant.0 c.loop-cause.invariant.6 c.in_ok-cause.ensures.turns) c.in-Waits.needed c.in-Waits.is in
    subst (λ (on : Registry). held_outcome (state_of c.args.market.now.today c.args.market.now.objects c.turn.new.self.store.kept on) c.in-Waits.needed ≡ None) (sym (c.turn.ensures.registry ∙ c.loop-cause.invariant.5)) (needed_free _ _ _ _ _ _ _ _ _ w.0 c.in-Waits.needed w.1)

pub walk-requires-clause-stale : goal.walk-requires-clause-stale
walk-requires-clause-stale g c =
    let w = reprice_waits _ _ _ _ _ _ _ _ _ c.loop-cause.invariant.1 _ _ _ _ (turns_of _ _ _ _ _ _ _ _ _ _ _ _ c.loop-cause.invariant.0 c.loop-cause.invariant.6 c.in_ok-cause.ensures.turns) c.in-Waits.needed c.in-Waits.is in needed_stale _ _ _ _ _ _ _ _ _ w.0 c.in-Waits.needed w.1

pub returns-in_err-answer-in-Waits-clause-stops : goal.returns-in_err-answer-in-Waits-clause-stops
returns-in_err-answer-in-Waits-clause-stops g c =
    let w = reprice_waits _ _ _ _ _ _ _ _ _ c.loop-cause.invariant.1 _ _ _ _ (turns_of _ _ _ _ _ _ _ _ _ _ _ _ c.loop-cause.invariant.0 c.loop-cause.invariant.6 c.in_ok-cause.ensures.turns) c.in-Waits.needed c.in-Waits.is in
    on_err _ (stopped_within _ _ _ _ _ _ _ _ _ w.0 c.in-Waits.needed w.1 c.walk.new.self.store.kept (g.B.Bench.count c.walk.new.bench) (g.B.Bench.log c.walk.new.bench)
    (subst (λ (k : Calc). Stops k c.in-Waits.needed (state_of c.args.market.now.today c.args.market.now.objects c.turn.new.self.store.kept (registry_of c.args.self.now.store)) (state_of c.args.market.now.today c.args.market.now.objects c.walk.new.self.store.kept (registry_of c.args.self.now.store)) (g.B.Bench.count c.turn.new.bench) (g.B.Bench.count c.walk.new.bench) (g.B.Bench.log c.turn.new.bench) (g.B.Bench.log c.walk.new.bench)) (c.turn.ensures.same ∙ c.loop-cause.invariant.0)
    (subst (λ (on : Registry). Stops (g.B.Bench.calc c.turn.new.bench) c.in-Waits.needed (state_of c.args.market.now.today c.args.market.now.objects c.turn.new.self.store.kept on) (state_of c.args.market.now.today c.args.market.now.objects c.walk.new.self.store.kept on) (g.B.Bench.count c.turn.new.bench) (g.B.Bench.count c.walk.new.bench) (g.B.Bench.log c.turn.new.bench) (g.B.Bench.log c.walk.new.bench)) (c.turn.ensures.registry ∙ c.loop-cause.invariant.5) c.in_err-answer-in-Waits.ensures.stops)))

pub overflow_add-runs : goal.overflow_add-runs
overflow_add-runs g c =
    let f = settled_few _ _ _ _ _ _ _ _ _ c.loop-cause.invariant.1 in let n = c.in_ok-answer-in-Waits.ensures.few in omega (arith, f, n)

pub overflow_add-runs-in-Ran : goal.overflow_add-runs-in-Ran
overflow_add-runs-in-Ran g c =
    let f = settled_few _ _ _ _ _ _ _ _ _ c.loop-cause.invariant.1 in omega (arith, f)

pub returns-then-is_some-clause-reprices : goal.returns-then-is_some-clause-reprices
returns-then-is_some-clause-reprices g c =
    let w = reprice_waits _ _ _ _ _ _ _ _ _ c.loop-cause.invariant.1 _ _ _ _ (turns_of _ _ _ _ _ _ _ _ _ _ _ _ c.loop-cause.invariant.0 c.loop-cause.invariant.6 c.in_ok-cause.ensures.turns) c.in-Waits.needed c.in-Waits.is in
    settling_refused _ _ _ _ _ _ _ _ _ w.0 c.in-Waits.needed w.1 c.walk.new.self.store.kept c.in_ok-answer-in-Waits.answer (g.B.Bench.count c.walk.new.bench) (g.B.Bench.log c.walk.new.bench)
    (subst (λ (k : Calc). Walks k c.in-Waits.needed (state_of c.args.market.now.today c.args.market.now.objects c.turn.new.self.store.kept (registry_of c.args.self.now.store)) (state_of c.args.market.now.today c.args.market.now.objects c.walk.new.self.store.kept (registry_of c.args.self.now.store)) Recalc c.in_ok-answer-in-Waits.answer (g.B.Bench.count c.turn.new.bench) (g.B.Bench.count c.walk.new.bench) (g.B.Bench.log c.turn.new.bench) (g.B.Bench.log c.walk.new.bench)) (c.turn.ensures.same ∙ c.loop-cause.invariant.0)
    (subst (λ (on : Registry). Walks (g.B.Bench.calc c.turn.new.bench) c.in-Waits.needed (state_of c.args.market.now.today c.args.market.now.objects c.turn.new.self.store.kept on) (state_of c.args.market.now.today c.args.market.now.objects c.walk.new.self.store.kept on) Recalc c.in_ok-answer-in-Waits.answer (g.B.Bench.count c.turn.new.bench) (g.B.Bench.count c.walk.new.bench) (g.B.Bench.log c.turn.new.bench) (g.B.Bench.log c.walk.new.bench)) (c.turn.ensures.registry ∙ c.loop-cause.invariant.5) c.in_ok-answer-in-Waits.ensures.walks))
    (sym c.is_some.ensures ∙ c.if-is_some.true) c.answered-then-is_some.result c.answered-then-is_some.ensures

pub loop-cause-smaller : goal.loop-cause-smaller
loop-cause-smaller g c =
    let w = reprice_waits _ _ _ _ _ _ _ _ _ c.loop-cause.invariant.1 _ _ _ _ (turns_of _ _ _ _ _ _ _ _ _ _ _ _ c.loop-cause.invariant.0 c.loop-cause.invariant.6 c.in_ok-cause.ensures.turns) c.in-Waits.needed c.in-Waits.is in
    let l = (settling_on _ _ _ _ _ _ _ _ _ w.0 c.in-Waits.needed w.1 c.walk.new.self.store.kept c.in_ok-answer-in-Waits.answer (g.B.Bench.count c.walk.new.bench) (g.B.Bench.log c.walk.new.bench)
    (subst (λ (k : Calc). Walks k c.in-Waits.needed (state_of c.args.market.now.today c.args.market.now.objects c.turn.new.self.store.kept (registry_of c.args.self.now.store)) (state_of c.args.market.now.today c.args.market.now.objects c.walk.new.self.store.kept (registry_of c.args.self.now.store)) Recalc c.in_ok-answer-in-Waits.answer (g.B.Bench.count c.turn.new.bench) (g.B.Bench.count c.walk.new.bench) (g.B.Bench.log c.turn.new.bench) (g.B.Bench.log c.walk.new.bench)) (c.turn.ensures.same ∙ c.loop-cause.invariant.0)
    (subst (λ (on : Registry). Walks (g.B.Bench.calc c.turn.new.bench) c.in-Waits.needed (state_of c.args.market.now.today c.args.market.now.objects c.turn.new.self.store.kept on) (state_of c.args.market.now.today c.args.market.now.objects c.walk.new.self.store.kept on) Recalc c.in_ok-answer-in-Waits.answer (g.B.Bench.count c.turn.new.bench) (g.B.Bench.count c.walk.new.bench) (g.B.Bench.log c.turn.new.bench) (g.B.Bench.log c.walk.new.bench)) (c.turn.ensures.registry ∙ c.loop-cause.invariant.5) c.in_ok-answer-in-Waits.ensures.walks))
    (sym c.is_some.ensures ∙ c.if-is_some.false) c.in_ok-answer-in-Waits.ensures.few).1 in
    let same = ap (λ (k : List Kept). open_of k) w.2 in omega (arith, l, same)

pub loop-cause-preserved : goal.loop-cause-preserved
loop-cause-preserved g c =
    let w = reprice_waits _ _ _ _ _ _ _ _ _ c.loop-cause.invariant.1 _ _ _ _ (turns_of _ _ _ _ _ _ _ _ _ _ _ _ c.loop-cause.invariant.0 c.loop-cause.invariant.6 c.in_ok-cause.ensures.turns) c.in-Waits.needed c.in-Waits.is in (
      c.walk.ensures.same ∙ (c.turn.ensures.same ∙ c.loop-cause.invariant.0),
      (settling_on _ _ _ _ _ _ _ _ _ w.0 c.in-Waits.needed w.1 c.walk.new.self.store.kept c.in_ok-answer-in-Waits.answer (g.B.Bench.count c.walk.new.bench) (g.B.Bench.log c.walk.new.bench)
          (subst (λ (k : Calc). Walks k c.in-Waits.needed (state_of c.args.market.now.today c.args.market.now.objects c.turn.new.self.store.kept (registry_of c.args.self.now.store)) (state_of c.args.market.now.today c.args.market.now.objects c.walk.new.self.store.kept (registry_of c.args.self.now.store)) Recalc c.in_ok-answer-in-Waits.answer (g.B.Bench.count c.turn.new.bench) (g.B.Bench.count c.walk.new.bench) (g.B.Bench.log c.turn.new.bench) (g.B.Bench.log c.walk.new.bench)) (c.turn.ensures.same ∙ c.loop-cause.invariant.0)
          (subst (λ (on : Registry). Walks (g.B.Bench.calc c.turn.new.bench) c.in-Waits.needed (state_of c.args.market.now.today c.args.market.now.objects c.turn.new.self.store.kept on) (state_of c.args.market.now.today c.args.market.now.objects c.walk.new.self.store.kept on) Recalc c.in_ok-answer-in-Waits.answer (g.B.Bench.count c.turn.new.bench) (g.B.Bench.count c.walk.new.bench) (g.B.Bench.log c.turn.new.bench) (g.B.Bench.log c.walk.new.bench)) (c.turn.ensures.registry ∙ c.loop-cause.invariant.5) c.in_ok-answer-in-Waits.ensures.walks))
          (sym c.is_some.ensures ∙ c.if-is_some.false) c.in_ok-answer-in-Waits.ensures.few).0,
      c.in_ok-answer-in-Waits.ensures.remembers,
      still_begun (market_in c.args.market.now) c.turn.new.self.store.kept c.walk.new.self.store.kept c.turn.new.begun c.walk.ensures.keeps (subst (λ (k : List Kept). IsBegun (market_in c.args.market.now) k c.turn.new.begun) (sym w.2) c.turn.ensures.begun),
      c.walk.ensures.shape ∙ c.turn.ensures.shape ∙ c.loop-cause.invariant.4,
      c.walk.ensures.registry ∙ (c.turn.ensures.registry ∙ c.loop-cause.invariant.5),
      c.turn.ensures.object ∙ c.loop-cause.invariant.6,
    )
