use Rattle.std.proofs.Common.{ℕ, List, [], ◌∷◌, ◌++◌, length, take, ◌+◌, ◌*◌, ◌-◌, ◌<◌, refl, sym, ◌∙◌, ap, subst, arith}
use Rattle.desk_terms.specs.declared.asked.Asked.{Asked}
use Rattle.desk_model.specs.declared.kept.Kept.{Kept}
use Rattle.object_store.specs.Market.{market_in, state_in}
use Rattle.object_store.specs.Shape.{Shape, role_at}
use Rattle.object_store.proofs.Joined.{lazy_there}
use Rattle.ask_walk.specs.declared.turning.Begun.{Begun}
use Rattle.ask_walk.specs.Begun.{AreBegun, objects_of}
use Rattle.ask_walk.proofs.Loop.{left, top_lazy, open_of, begins, ends, stack_bound, few}
use Rattle.ask_walk.proofs.Stacks.{measure_more, measure_value}
use Rattle.ask_walk.proofs.Fronted.{on_err, stopped}
use Rattle.ask_walk.proofs.Keeping.{keeps_same, keeps_on, all_still, unread_begun, objects_length, pushed_length, pushed_stack, popped_stack, begun_waits, begun_pop}
use Rattle.ask_walk.proofs.Turned.{asking_on, turns_with, may_run, turn_stops, turn_stopped, turn_waits, turn_faulted, turn_refused, turn_valued, turn_keeps, turn_fails, fails_stays, fails_keeps}
use Rattle.ask_walk.proofs.asking.Books.walk.Goals as goal

pub loop-waiting-init : goal.loop-waiting-init
loop-waiting-init g c = (
  refl,
  asking_on _ _ _ _ _ (c.args.object ∷ []) (objects_of c.clear.new.self.items ++ c.begin-top.result.object ∷ []) _ _ _ _
      (ap (λ (b : Begun). objects_of c.clear.new.self.items ++ b.object ∷ []) c.begin-top.ensures ∙ ap (λ (l : List Begun). objects_of l ++ c.args.object ∷ []) c.clear.ensures.items) (begins _ _ _ _ _ c.requires.may c.requires.free c.requires.stale),
  c.requires.remembers,
  (
    unread_begun (market_in c.args.market.now) c.args.self.now.store.kept c.args.object c.begin-top.result c.begin-top.ensures,
    subst (λ (w : List Begun). AreBegun (market_in c.args.market.now) c.args.self.now.store.kept w) (sym c.clear.ensures.items) tt,
  ),
  refl,
  refl,
  (λ x i read. read),
)

pub turn-requires-clause-lazy : goal.turn-requires-clause-lazy
turn-requires-clause-lazy g c = top_lazy _ _ _ _ _ (objects_of c.loop-waiting.waiting.items) c.loop-waiting.top.object _ _ _ _ c.loop-waiting.invariant.1

pub turn-requires-clause-role : goal.turn-requires-clause-role
turn-requires-clause-role g c = ap (λ (h : Shape). role_at h c.loop-waiting.top.object) c.loop-waiting.invariant.4
    ∙ lazy_there (market_in c.args.market.now) c.args.self.now.store.shape c.requires.joined c.loop-waiting.top.object (top_lazy _ _ _ _ _ (objects_of c.loop-waiting.waiting.items) c.loop-waiting.top.object _ _ _ _ c.loop-waiting.invariant.1)

pub turn-requires-clause-kinds : goal.turn-requires-clause-kinds
turn-requires-clause-kinds g c = c.loop-waiting.invariant.1.may.kinds

pub turn-requires-clause-linked : goal.turn-requires-clause-linked
turn-requires-clause-linked g c = c.loop-waiting.invariant.1.may.whole.links

pub turn-requires-clause-ranged : goal.turn-requires-clause-ranged
turn-requires-clause-ranged g c = c.loop-waiting.invariant.1.may.ranged

pub turn-requires-clause-remembers : goal.turn-requires-clause-remembers
turn-requires-clause-remembers g c = c.loop-waiting.invariant.2

pub turn-requires-clause-begun : goal.turn-requires-clause-begun
turn-requires-clause-begun g c = c.loop-waiting.invariant.3.0

pub turn-requires-clause-run : goal.turn-requires-clause-run
turn-requires-clause-run g c = may_run _ _ _ _ _ (objects_of c.loop-waiting.waiting.items) c.loop-waiting.top.object _ _ _ _ c.loop-waiting.invariant.1

pub returns-in_err-cause-clause-same : goal.returns-in_err-cause-clause-same
returns-in_err-cause-clause-same g c = c.turn.ensures.same ∙ c.loop-waiting.invariant.0

pub returns-in_err-cause-clause-shape : goal.returns-in_err-cause-clause-shape
returns-in_err-cause-clause-shape g c = c.turn.ensures.shape ∙ c.loop-waiting.invariant.4

pub returns-in_err-cause-clause-registry : goal.returns-in_err-cause-clause-registry
returns-in_err-cause-clause-registry g c = c.turn.ensures.registry ∙ c.loop-waiting.invariant.5

pub returns-in_err-cause-clause-remembers : goal.returns-in_err-cause-clause-remembers
returns-in_err-cause-clause-remembers g c = c.turn.ensures.remembers

pub returns-in-Stops-clause-same : goal.returns-in-Stops-clause-same
returns-in-Stops-clause-same g c = c.turn.ensures.same ∙ c.loop-waiting.invariant.0

pub returns-in-Stops-clause-shape : goal.returns-in-Stops-clause-shape
returns-in-Stops-clause-shape g c = c.turn.ensures.shape ∙ c.loop-waiting.invariant.4

pub returns-in-Stops-clause-registry : goal.returns-in-Stops-clause-registry
returns-in-Stops-clause-registry g c = c.turn.ensures.registry ∙ c.loop-waiting.invariant.5

pub returns-in-Stops-clause-remembers : goal.returns-in-Stops-clause-remembers
returns-in-Stops-clause-remembers g c = c.turn.ensures.remembers

pub returns-in_err-push-in-Waits-clause-same : goal.returns-in_err-push-in-Waits-clause-same
returns-in_err-push-in-Waits-clause-same g c = c.turn.ensures.same ∙ c.loop-waiting.invariant.0

pub returns-in_err-push-in-Waits-clause-shape : goal.returns-in_err-push-in-Waits-clause-shape
returns-in_err-push-in-Waits-clause-shape g c = c.turn.ensures.shape ∙ c.loop-waiting.invariant.4

pub returns-in_err-push-in-Waits-clause-registry : goal.returns-in_err-push-in-Waits-clause-registry
returns-in_err-push-in-Waits-clause-registry g c = c.turn.ensures.registry ∙ c.loop-waiting.invariant.5

pub returns-in_err-push-in-Waits-clause-remembers : goal.returns-in_err-push-in-Waits-clause-remembers
returns-in_err-push-in-Waits-clause-remembers g c = c.turn.ensures.remembers

pub returns-then-is_some-clause-same : goal.returns-then-is_some-clause-same
returns-then-is_some-clause-same g c = c.turn.ensures.same ∙ c.loop-waiting.invariant.0

pub returns-then-is_some-clause-shape : goal.returns-then-is_some-clause-shape
returns-then-is_some-clause-shape g c = c.turn.ensures.shape ∙ c.loop-waiting.invariant.4

pub returns-then-is_some-clause-registry : goal.returns-then-is_some-clause-registry
returns-then-is_some-clause-registry g c = c.turn.ensures.registry ∙ c.loop-waiting.invariant.5

pub returns-then-is_some-clause-remembers : goal.returns-then-is_some-clause-remembers
returns-then-is_some-clause-remembers g c = c.turn.ensures.remembers

pub returns-in-None-clause-same : goal.returns-in-None-clause-same
returns-in-None-clause-same g c = c.turn.ensures.same ∙ c.loop-waiting.invariant.0

pub returns-in-None-clause-shape : goal.returns-in-None-clause-shape
returns-in-None-clause-shape g c = c.turn.ensures.shape ∙ c.loop-waiting.invariant.4

pub returns-in-None-clause-registry : goal.returns-in-None-clause-registry
returns-in-None-clause-registry g c = c.turn.ensures.registry ∙ c.loop-waiting.invariant.5

pub returns-in-None-clause-remembers : goal.returns-in-None-clause-remembers
returns-in-None-clause-remembers g c = c.turn.ensures.remembers

pub returns-in_err-cause-clause-stops : goal.returns-in_err-cause-clause-stops
returns-in_err-cause-clause-stops g c = on_err _ (turn_fails _ _ _ _ _ (objects_of c.loop-waiting.waiting.items) c.loop-waiting.top.object _ _ _ _ c.loop-waiting.invariant.1 _ _ _ c.in_err-cause.ensures.fails)

pub returns-in_err-cause-clause-stays : goal.returns-in_err-cause-clause-stays
returns-in_err-cause-clause-stays g c = fails_stays _ _ _ _ _ (objects_of c.loop-waiting.waiting.items) c.loop-waiting.top.object _ _ _ _ c.loop-waiting.invariant.1 _ _ _ c.in_err-cause.ensures.fails

pub returns-in_err-cause-clause-keeps : goal.returns-in_err-cause-clause-keeps
returns-in_err-cause-clause-keeps g c = keeps_on c.args.self.now.store.kept c.loop-waiting.self.store.kept c.turn.new.self.store.kept c.loop-waiting.invariant.6 (fails_keeps _ _ _ _ _ (objects_of c.loop-waiting.waiting.items) c.loop-waiting.top.object _ _ _ _ c.loop-waiting.invariant.1 _ _ _ c.in_err-cause.ensures.fails)

pub returns-in-Stops-clause-walks : goal.returns-in-Stops-clause-walks
returns-in-Stops-clause-walks g c = turn_stops _ _ _ _ _ (objects_of c.loop-waiting.waiting.items) c.loop-waiting.top.object _ _ _ _ c.loop-waiting.invariant.1 _ _ _ _ (turns_with _ _ _ _ _ _ _ _ _ _ _ c.loop-waiting.invariant.0 c.in_ok-cause.ensures.turns) c.in-Stops.cause c.args.mark c.answered.result c.in-Stops.is c.answered.ensures

pub returns-in-Stops-clause-stays : goal.returns-in-Stops-clause-stays
returns-in-Stops-clause-stays g c = left _ _ _ _ _ _ _ _ _ _ (turn_stopped _ _ _ _ _ (objects_of c.loop-waiting.waiting.items) c.loop-waiting.top.object _ _ _ _ c.loop-waiting.invariant.1 _ _ _ _ (turns_with _ _ _ _ _ _ _ _ _ _ _ c.loop-waiting.invariant.0 c.in_ok-cause.ensures.turns) c.in-Stops.cause c.in-Stops.is).0

pub returns-in-Stops-clause-keeps : goal.returns-in-Stops-clause-keeps
returns-in-Stops-clause-keeps g c = keeps_on c.args.self.now.store.kept c.loop-waiting.self.store.kept c.turn.new.self.store.kept c.loop-waiting.invariant.6 (keeps_same c.loop-waiting.self.store.kept c.turn.new.self.store.kept (turn_stopped _ _ _ _ _ (objects_of c.loop-waiting.waiting.items) c.loop-waiting.top.object _ _ _ _ c.loop-waiting.invariant.1 _ _ _ _ (turns_with _ _ _ _ _ _ _ _ _ _ _ c.loop-waiting.invariant.0 c.in_ok-cause.ensures.turns) c.in-Stops.cause c.in-Stops.is).1)

pub returns-in-Stops-clause-few : goal.returns-in-Stops-clause-few
returns-in-Stops-clause-few g c =
    let f = few _ _ _ _ _ _ _ _ _ _ c.loop-waiting.invariant.1 in
    let said = ap (λ (a : Asked). a.runs) c.answered.ensures in omega (arith, f, said)

pub returns-in_err-push-in-Waits-clause-stops : goal.returns-in_err-push-in-Waits-clause-stops
returns-in_err-push-in-Waits-clause-stops g c = on_err _ (stopped _ _ _ _ _ _ _ _ _ _ (turn_waits _ _ _ _ _ (objects_of c.loop-waiting.waiting.items) c.loop-waiting.top.object _ _ _ _ c.loop-waiting.invariant.1 _ _ _ _ (turns_with _ _ _ _ _ _ _ _ _ _ _ c.loop-waiting.invariant.0 c.in_ok-cause.ensures.turns) c.in-Waits.needed c.in-Waits.is).0)

pub returns-in_err-push-in-Waits-clause-stays : goal.returns-in_err-push-in-Waits-clause-stays
returns-in_err-push-in-Waits-clause-stays g c = left _ _ _ _ _ _ _ _ _ _ (turn_waits _ _ _ _ _ (objects_of c.loop-waiting.waiting.items) c.loop-waiting.top.object _ _ _ _ c.loop-waiting.invariant.1 _ _ _ _ (turns_with _ _ _ _ _ _ _ _ _ _ _ c.loop-waiting.invariant.0 c.in_ok-cause.ensures.turns) c.in-Waits.needed c.in-Waits.is).0

pub returns-in_err-push-in-Waits-clause-keeps : goal.returns-in_err-push-in-Waits-clause-keeps
returns-in_err-push-in-Waits-clause-keeps g c = keeps_on c.args.self.now.store.kept c.loop-waiting.self.store.kept c.turn.new.self.store.kept c.loop-waiting.invariant.6 (keeps_same c.loop-waiting.self.store.kept c.turn.new.self.store.kept (turn_waits _ _ _ _ _ (objects_of c.loop-waiting.waiting.items) c.loop-waiting.top.object _ _ _ _ c.loop-waiting.invariant.1 _ _ _ _ (turns_with _ _ _ _ _ _ _ _ _ _ _ c.loop-waiting.invariant.0 c.in_ok-cause.ensures.turns) c.in-Waits.needed c.in-Waits.is).1)

pub loop-waiting-smaller-in-Waits : goal.loop-waiting-smaller-in-Waits
loop-waiting-smaller-in-Waits g c =
    let items = c.in_ok-push-in-Waits.ensures.items ∙ ap (λ (b : Begun). c.loop-waiting.waiting.items ++ b ∷ []) c.left.ensures in
    let w = turn_waits _ _ _ _ _ (objects_of c.loop-waiting.waiting.items) c.loop-waiting.top.object _ _ _ _ c.loop-waiting.invariant.1 _ _ _ _ (turns_with _ _ _ _ _ _ _ _ _ _ _ c.loop-waiting.invariant.0 c.in_ok-cause.ensures.turns) c.in-Waits.needed c.in-Waits.is in
    let here = objects_length c.loop-waiting.waiting.items in
    let pushed = pushed_length c.loop-waiting.waiting.items c.push.new.self.items c.turn.new.begun items in
    subst (λ (k : List Kept). open_of k * (length c.args.market.now.objects + 3) + (length c.args.market.now.objects + 2 - (length c.push.new.self.items + 1)) < open_of c.loop-waiting.self.store.kept * (length c.args.market.now.objects + 3) + (length c.args.market.now.objects + 2 - (length c.loop-waiting.waiting.items + 1))) (sym w.1)
    (measure_more (open_of c.loop-waiting.self.store.kept) (length c.args.market.now.objects) (length c.loop-waiting.waiting.items + 1) (length c.push.new.self.items + 1)
    (omega (arith, pushed))
    (let b = stack_bound _ _ _ _ _ (objects_of c.loop-waiting.waiting.items) c.loop-waiting.top.object _ _ _ _ c.loop-waiting.invariant.1 in omega (arith, b, here)))

pub loop-waiting-preserved-in-Waits : goal.loop-waiting-preserved-in-Waits
loop-waiting-preserved-in-Waits g c =
    let items = c.in_ok-push-in-Waits.ensures.items ∙ ap (λ (b : Begun). c.loop-waiting.waiting.items ++ b ∷ []) c.left.ensures in
    let w = turn_waits _ _ _ _ _ (objects_of c.loop-waiting.waiting.items) c.loop-waiting.top.object _ _ _ _ c.loop-waiting.invariant.1 _ _ _ _ (turns_with _ _ _ _ _ _ _ _ _ _ _ c.loop-waiting.invariant.0 c.in_ok-cause.ensures.turns) c.in-Waits.needed c.in-Waits.is in
    let stack = pushed_stack c.loop-waiting.waiting.items c.push.new.self.items c.turn.new.begun c.begin-top-in-Waits.result c.loop-waiting.top.object c.in-Waits.needed items c.turn.ensures.object
    (ap (λ (b : Begun). b.object) c.begin-top-in-Waits.ensures) in (
      c.turn.ensures.same ∙ c.loop-waiting.invariant.0,
      asking_on _ _ _ _ _ (((objects_of c.loop-waiting.waiting.items) ++ c.loop-waiting.top.object ∷ []) ++ c.in-Waits.needed ∷ []) (objects_of c.push.new.self.items ++ c.begin-top-in-Waits.result.object ∷ []) _ _ _ _ stack w.0,
      c.turn.ensures.remembers,
      (
        unread_begun (market_in c.args.market.now) c.turn.new.self.store.kept c.in-Waits.needed c.begin-top-in-Waits.result c.begin-top-in-Waits.ensures,
        begun_waits (market_in c.args.market.now) c.loop-waiting.self.store.kept c.turn.new.self.store.kept c.loop-waiting.waiting.items c.push.new.self.items c.turn.new.begun w.1 items c.loop-waiting.invariant.3.1 c.turn.ensures.begun,
      ),
      c.turn.ensures.shape ∙ c.loop-waiting.invariant.4,
      c.turn.ensures.registry ∙ c.loop-waiting.invariant.5,
      keeps_on c.args.self.now.store.kept c.loop-waiting.self.store.kept c.turn.new.self.store.kept c.loop-waiting.invariant.6 (keeps_same c.loop-waiting.self.store.kept c.turn.new.self.store.kept w.1),
    )

pub overflow_add-runs : goal.overflow_add-runs
overflow_add-runs g c =
    let f = few _ _ _ _ _ _ _ _ _ _ c.loop-waiting.invariant.1 in omega (arith, f)

pub returns-then-is_some-clause-walks : goal.returns-then-is_some-clause-walks
returns-then-is_some-clause-walks g c = turn_faulted _ _ _ _ _ (objects_of c.loop-waiting.waiting.items) c.loop-waiting.top.object _ _ _ _ c.loop-waiting.invariant.1 _ _ _ _ (turns_with _ _ _ _ _ _ _ _ _ _ _ c.loop-waiting.invariant.0 c.in_ok-cause.ensures.turns) c.in-Ran.cause (c.loop-waiting.runs + 1) c.args.mark c.answered-then-is_some.result c.in-Ran.is (sym c.is_some.ensures ∙ c.if-is_some.true) refl c.answered-then-is_some.ensures

pub returns-then-is_some-clause-stays : goal.returns-then-is_some-clause-stays
returns-then-is_some-clause-stays g c = turn_refused _ _ _ _ _ (objects_of c.loop-waiting.waiting.items) c.loop-waiting.top.object _ _ _ _ c.loop-waiting.invariant.1 _ _ _ _ (turns_with _ _ _ _ _ _ _ _ _ _ _ c.loop-waiting.invariant.0 c.in_ok-cause.ensures.turns) c.in-Ran.cause c.in-Ran.is (sym c.is_some.ensures ∙ c.if-is_some.true)

pub returns-then-is_some-clause-keeps : goal.returns-then-is_some-clause-keeps
returns-then-is_some-clause-keeps g c = keeps_on c.args.self.now.store.kept c.loop-waiting.self.store.kept c.turn.new.self.store.kept c.loop-waiting.invariant.6 (turn_keeps _ _ _ _ _ (objects_of c.loop-waiting.waiting.items) c.loop-waiting.top.object _ _ _ _ c.loop-waiting.invariant.1 _ _ _ _ (turns_with _ _ _ _ _ _ _ _ _ _ _ c.loop-waiting.invariant.0 c.in_ok-cause.ensures.turns) c.in-Ran.cause c.in-Ran.is)

pub returns-then-is_some-clause-few : goal.returns-then-is_some-clause-few
returns-then-is_some-clause-few g c =
    let f = few _ _ _ _ _ _ _ _ _ _ c.loop-waiting.invariant.1 in
    let said = ap (λ (a : Asked). a.runs) c.answered-then-is_some.ensures in omega (arith, f, said)

pub loop-waiting-smaller : goal.loop-waiting-smaller
loop-waiting-smaller g c = measure_value (open_of c.loop-waiting.self.store.kept) (open_of c.turn.new.self.store.kept) (length c.args.market.now.objects) (length c.loop-waiting.waiting.items + 1) (length c.pop.new.self.items + 1)
    (turn_valued _ _ _ _ _ (objects_of c.loop-waiting.waiting.items) c.loop-waiting.top.object _ _ _ _ c.loop-waiting.invariant.1 _ _ _ _ (turns_with _ _ _ _ _ _ _ _ _ _ _ c.loop-waiting.invariant.0 c.in_ok-cause.ensures.turns) c.in-Ran.cause (c.loop-waiting.runs + 1) c.in-Ran.is (sym c.is_some.ensures ∙ c.if-is_some.false) refl).1

pub loop-waiting-preserved : goal.loop-waiting-preserved
loop-waiting-preserved g c =
    let v = (turn_valued _ _ _ _ _ (objects_of c.loop-waiting.waiting.items) c.loop-waiting.top.object _ _ _ _ c.loop-waiting.invariant.1 _ _ _ _ (turns_with _ _ _ _ _ _ _ _ _ _ _ c.loop-waiting.invariant.0 c.in_ok-cause.ensures.turns) c.in-Ran.cause (c.loop-waiting.runs + 1) c.in-Ran.is (sym c.is_some.ensures ∙ c.if-is_some.false) refl) in
    let popped = popped_stack c.loop-waiting.waiting.items c.pop.new.self.items c.in-Some.under c.in-Some.ensures.items in
    let all = all_still (market_in c.args.market.now) c.loop-waiting.self.store.kept c.turn.new.self.store.kept c.loop-waiting.waiting.items (turn_keeps _ _ _ _ _ (objects_of c.loop-waiting.waiting.items) c.loop-waiting.top.object _ _ _ _ c.loop-waiting.invariant.1 _ _ _ _ (turns_with _ _ _ _ _ _ _ _ _ _ _ c.loop-waiting.invariant.0 c.in_ok-cause.ensures.turns) c.in-Ran.cause c.in-Ran.is) c.loop-waiting.invariant.3.1 in
    let two = begun_pop (market_in c.args.market.now) c.turn.new.self.store.kept c.pop.new.self.items c.in-Some.under (subst (λ (w : List Begun). AreBegun (market_in c.args.market.now) c.turn.new.self.store.kept w) c.in-Some.ensures.items all) in (
      c.turn.ensures.same ∙ c.loop-waiting.invariant.0,
      asking_on _ _ _ _ _ (objects_of c.loop-waiting.waiting.items) (objects_of c.pop.new.self.items ++ c.in-Some.under.object ∷ []) _ _ _ _ (sym popped) v.0,
      c.turn.ensures.remembers,
      (two.1, two.0),
      c.turn.ensures.shape ∙ c.loop-waiting.invariant.4,
      c.turn.ensures.registry ∙ c.loop-waiting.invariant.5,
      keeps_on c.args.self.now.store.kept c.loop-waiting.self.store.kept c.turn.new.self.store.kept c.loop-waiting.invariant.6 (turn_keeps _ _ _ _ _ (objects_of c.loop-waiting.waiting.items) c.loop-waiting.top.object _ _ _ _ c.loop-waiting.invariant.1 _ _ _ _ (turns_with _ _ _ _ _ _ _ _ _ _ _ c.loop-waiting.invariant.0 c.in_ok-cause.ensures.turns) c.in-Ran.cause c.in-Ran.is),
    )

pub returns-in-None-clause-walks : goal.returns-in-None-clause-walks
returns-in-None-clause-walks g c = ends (g.B.Bench.calc c.args.bench.now) (state_in c.args.market.now c.args.self.now.store) c.args.object (g.B.Bench.count c.args.bench.now) (g.B.Bench.log c.args.bench.now) c.turn.new.self.store.kept (c.loop-waiting.runs + 1) (g.B.Bench.count c.turn.new.bench) (g.B.Bench.log c.turn.new.bench) c.args.mark c.answered-in-None.result
    (asking_on _ _ _ _ _ (objects_of c.loop-waiting.waiting.items) [] _ _ _ _
    (sym (ap objects_of (c.in-None.ensures.items ∙ ap (λ (l : List Begun). l ++ []) (c.in-None.ensures.rest ∙ ap (λ (n : ℕ). take (n - 1) c.loop-waiting.waiting.items) c.in-None.ensures.cases.0))))
    (turn_valued _ _ _ _ _ (objects_of c.loop-waiting.waiting.items) c.loop-waiting.top.object _ _ _ _ c.loop-waiting.invariant.1 _ _ _ _ (turns_with _ _ _ _ _ _ _ _ _ _ _ c.loop-waiting.invariant.0 c.in_ok-cause.ensures.turns) c.in-Ran.cause (c.loop-waiting.runs + 1) c.in-Ran.is (sym c.is_some.ensures ∙ c.if-is_some.false) refl).0)
    c.answered-in-None.ensures

pub returns-in-None-clause-stays : goal.returns-in-None-clause-stays
returns-in-None-clause-stays g c = left _ _ _ _ _ _ _ _ _ _ (turn_valued _ _ _ _ _ (objects_of c.loop-waiting.waiting.items) c.loop-waiting.top.object _ _ _ _ c.loop-waiting.invariant.1 _ _ _ _ (turns_with _ _ _ _ _ _ _ _ _ _ _ c.loop-waiting.invariant.0 c.in_ok-cause.ensures.turns) c.in-Ran.cause (c.loop-waiting.runs + 1) c.in-Ran.is (sym c.is_some.ensures ∙ c.if-is_some.false) refl).0

pub returns-in-None-clause-keeps : goal.returns-in-None-clause-keeps
returns-in-None-clause-keeps g c = keeps_on c.args.self.now.store.kept c.loop-waiting.self.store.kept c.turn.new.self.store.kept c.loop-waiting.invariant.6 (turn_keeps _ _ _ _ _ (objects_of c.loop-waiting.waiting.items) c.loop-waiting.top.object _ _ _ _ c.loop-waiting.invariant.1 _ _ _ _ (turns_with _ _ _ _ _ _ _ _ _ _ _ c.loop-waiting.invariant.0 c.in_ok-cause.ensures.turns) c.in-Ran.cause c.in-Ran.is)

pub returns-in-None-clause-few : goal.returns-in-None-clause-few
returns-in-None-clause-few g c =
    let f = few _ _ _ _ _ _ _ _ _ _ (turn_valued _ _ _ _ _ (objects_of c.loop-waiting.waiting.items) c.loop-waiting.top.object _ _ _ _ c.loop-waiting.invariant.1 _ _ _ _ (turns_with _ _ _ _ _ _ _ _ _ _ _ c.loop-waiting.invariant.0 c.in_ok-cause.ensures.turns) c.in-Ran.cause (c.loop-waiting.runs + 1) c.in-Ran.is (sym c.is_some.ensures ∙ c.if-is_some.false) refl).0 in
    let said = ap (λ (a : Asked). a.runs) c.answered-in-None.ensures in omega (arith, f, said)
