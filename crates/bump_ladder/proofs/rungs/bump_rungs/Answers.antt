use Rattle.std.proofs.Common.{◌≡◌, ◌+◌, ◌++◌, drop, refl, sym, ◌∙◌, ap, subst, arith, true, List}
use Rattle.std.specs.Prelude.{map}
use Rattle.bump_model.specs.declared.ladder.Rung.{Rung}
use Rattle.std.proofs.Math.ListN.{drop_of_length-le}
use Rattle.std.proofs.lemmas.Result.{err_from_is_err_and}
use Rattle.desk_terms.specs.Reading.{Calc}
use Rattle.desk_model.specs.Market.{Market}
use Rattle.desk_model.specs.Links.{is_lazy_at}
use Rattle.desk_model.specs.Sound.{IsSound}
use Rattle.bump_model.specs.Sides.{bump_rung}
use Rattle.bump_model.specs.Asking.{bump_asking, rungs_asking}
use Rattle.bump_model.proofs.Calls.{progress_none, progress_more, progress_front, progress_stops, last_next, last_made, last_runs}
use Rattle.bump_ladder.proofs.Answered.{front_asks}
use Rattle.bump_ladder.proofs.Climbing.{next_item, bump_first, bumps_rest, asking_step, rungs_step, asking_ended, rungs_ended, did_at, front_at, runs_at, rung_at}
use Rattle.bump_ladder.proofs.rungs.bump_rungs.Goals as goal

pub loop-bump-init : goal.loop-bump-init
loop-bump-init g c = record {
  same = refl;
  progress = progress_none (rungs_asking (g.B.Bench.calc c.args.bench.now) c.args.size c.args.desk.now.market c.args.object c.args.bumps.now c.args.desk.now) (g.B.Bench.count c.args.bench.now) (g.B.Bench.log c.args.bench.now);
  rungs = ap (λ (l : List Rung). l ++ map (bump_rung (g.B.Bench.calc c.args.bench.now) c.args.size c.args.desk.now.market c.args.object c.args.base) c.args.bumps.now) c.new-rungs.ensures;
  within = omega arith;
  few = omega arith;
  market = refl;
  bumps = c.requires.bumps;
  sound = c.requires.sound;
  unheld = c.requires.unheld;
}

pub bump_rung-requires : goal.bump_rung-requires
bump_rung-requires g c =
    let steps = next_item c.args.bumps.now c.loop-bump.bump-index c.bump-item.result c.loop-bump-test.true c.bump-item.is in
    record {
      lazy = subst (λ (m : Market). is_lazy_at m c.args.object ≡ true) (sym c.loop-bump.invariant.market) c.requires.lazy;
      base = c.requires.base;
      bump = bump_first _ _ _ steps c.args.desk.now.market c.loop-bump.desk.market c.loop-bump.invariant.market c.loop-bump.invariant.bumps;
      sound = subst (λ (k : Calc). IsSound k c.loop-bump.desk) (sym c.loop-bump.invariant.same) c.loop-bump.invariant.sound;
      unheld = c.loop-bump.invariant.unheld;
    }

pub overflow_add-runs : goal.overflow_add-runs
overflow_add-runs g c =
    omega (arith, c.loop-bump.invariant.few, c.in_ok-step.ensures.few, c.requires.few, c.loop-bump-test.true)

pub loop-bump-preserved : goal.loop-bump-preserved
loop-bump-preserved g c =
    let calc : Calc = g.B.Bench.calc c.args.bench.now in
    let m = c.args.desk.now.market in
    let o = c.args.object in
    let bumps = c.args.bumps.now in
    let rest = drop (c.loop-bump.bump-index + 1) bumps in
    let same = c.loop-bump.invariant.same in
    let market = c.loop-bump.invariant.market in
    let steps = next_item bumps c.loop-bump.bump-index c.bump-item.result c.loop-bump-test.true c.bump-item.is in
    let does = did_at calc (g.B.Bench.calc c.loop-bump.bench) c.args.size m c.loop-bump.desk.market o c.bump-item.result same market c.loop-bump.desk c.bump_rung.new.desk (g.B.Bench.count c.loop-bump.bench) (g.B.Bench.count c.bump_rung.new.bench) (g.B.Bench.log c.loop-bump.bench) (g.B.Bench.log c.bump_rung.new.bench)
    c.in_ok-step.ensures.asks in
    record {
      same = c.bump_rung.ensures.same ∙ same;
      progress = progress_more (rungs_asking calc c.args.size m o bumps c.args.desk.now) (rungs_asking calc c.args.size m o (drop c.loop-bump.bump-index bumps) c.loop-bump.desk) (bump_asking calc c.args.size m o c.bump-item.result c.loop-bump.desk) (rungs_asking calc c.args.size m o rest)
          (asking_step _ _ _ steps calc c.args.size m o c.loop-bump.desk)
          c.loop-bump.runs (g.B.Bench.count c.args.bench.now) (g.B.Bench.count c.loop-bump.bench) (g.B.Bench.count c.bump_rung.new.bench) (g.B.Bench.log c.args.bench.now) (g.B.Bench.log c.loop-bump.bench) (g.B.Bench.log c.bump_rung.new.bench) c.loop-bump.invariant.progress
          c.bump_rung.new.desk does.0 does.1 c.in_ok-step.step.runs
          (runs_at calc (g.B.Bench.calc c.loop-bump.bench) c.args.size m c.loop-bump.desk.market o c.bump-item.result same market c.loop-bump.desk c.in_ok-step.step.runs c.in_ok-step.ensures.runs);
      rungs = ap (λ (l : List Rung). l ++ map (bump_rung calc c.args.size m o c.args.base) rest) c.in_ok-push.ensures.ok
          ∙ rungs_step _ _ _ steps (bump_rung calc c.args.size m o c.args.base) c.loop-bump.rungs c.in_ok-step.step.rung
          (rung_at calc (g.B.Bench.calc c.loop-bump.bench) c.args.size m c.loop-bump.desk.market o c.bump-item.result same market c.args.base c.in_ok-step.step.rung c.in_ok-step.ensures.rung)
          ∙ c.loop-bump.invariant.rungs;
      within = omega (arith, c.loop-bump-test.true);
      few = omega (arith, c.loop-bump.invariant.few, c.in_ok-step.ensures.few);
      market = c.bump_rung.ensures.market ∙ market;
      bumps = bumps_rest _ _ _ steps m c.loop-bump.invariant.bumps;
      sound = subst (λ (k : Calc). IsSound k c.bump_rung.new.desk) same c.bump_rung.ensures.sound;
      unheld = c.bump_rung.ensures.unheld;
    }

pub returns-in_err-step-clause-asks : goal.returns-in_err-step-clause-asks
returns-in_err-step-clause-asks g c =
    let calc : Calc = g.B.Bench.calc c.args.bench.now in
    let m = c.args.desk.now.market in
    let o = c.args.object in
    let bumps = c.args.bumps.now in
    let p = err_from_is_err_and c.from_residual.result c.from_residual.ensures.1 in
    let steps = next_item bumps c.loop-bump.bump-index c.bump-item.result c.loop-bump-test.true c.bump-item.is in
    front_asks (rungs_asking calc c.args.size m o bumps c.args.desk.now) c.from_residual.result c.bump_rung.new.desk (g.B.Bench.count c.args.bench.now) (g.B.Bench.count c.bump_rung.new.bench) (g.B.Bench.log c.args.bench.now) (g.B.Bench.log c.bump_rung.new.bench) p.0 p.1
    (progress_front (rungs_asking calc c.args.size m o bumps c.args.desk.now) (rungs_asking calc c.args.size m o (drop c.loop-bump.bump-index bumps) c.loop-bump.desk) (bump_asking calc c.args.size m o c.bump-item.result c.loop-bump.desk) (rungs_asking calc c.args.size m o (drop (c.loop-bump.bump-index + 1) bumps))
    (asking_step _ _ _ steps calc c.args.size m o c.loop-bump.desk)
    c.loop-bump.runs (g.B.Bench.count c.args.bench.now) (g.B.Bench.count c.loop-bump.bench) (g.B.Bench.count c.bump_rung.new.bench) (g.B.Bench.log c.args.bench.now) (g.B.Bench.log c.loop-bump.bench) (g.B.Bench.log c.bump_rung.new.bench) c.loop-bump.invariant.progress
    (front_at calc (g.B.Bench.calc c.loop-bump.bench) c.args.size m c.loop-bump.desk.market o c.bump-item.result c.loop-bump.invariant.same c.loop-bump.invariant.market c.loop-bump.desk (g.B.Bench.count c.loop-bump.bench) (g.B.Bench.count c.bump_rung.new.bench) (g.B.Bench.log c.loop-bump.bench) (g.B.Bench.log c.bump_rung.new.bench)
    c.in_err-step.ensures.asks))

pub returns-in_err-step-clause-same : goal.returns-in_err-step-clause-same
returns-in_err-step-clause-same g c = c.bump_rung.ensures.same ∙ c.loop-bump.invariant.same

pub returns-in_err-step-clause-market : goal.returns-in_err-step-clause-market
returns-in_err-step-clause-market g c = c.bump_rung.ensures.market ∙ c.loop-bump.invariant.market

pub returns-in_err-step-clause-sound : goal.returns-in_err-step-clause-sound
returns-in_err-step-clause-sound g c =
    subst (λ (k : Calc). IsSound k c.bump_rung.new.desk) c.loop-bump.invariant.same c.bump_rung.ensures.sound

pub returns-in_err-push-clause-asks : goal.returns-in_err-push-clause-asks
returns-in_err-push-clause-asks g c =
    let calc : Calc = g.B.Bench.calc c.args.bench.now in
    let m = c.args.desk.now.market in
    let o = c.args.object in
    let bumps = c.args.bumps.now in
    let rest = drop (c.loop-bump.bump-index + 1) bumps in
    let same = c.loop-bump.invariant.same in
    let market = c.loop-bump.invariant.market in
    let p = err_from_is_err_and c.from_residual-in_err-push.result c.from_residual-in_err-push.ensures.1 in
    let steps = next_item bumps c.loop-bump.bump-index c.bump-item.result c.loop-bump-test.true c.bump-item.is in
    let does = did_at calc (g.B.Bench.calc c.loop-bump.bench) c.args.size m c.loop-bump.desk.market o c.bump-item.result same market c.loop-bump.desk c.bump_rung.new.desk (g.B.Bench.count c.loop-bump.bench) (g.B.Bench.count c.bump_rung.new.bench) (g.B.Bench.log c.loop-bump.bench) (g.B.Bench.log c.bump_rung.new.bench)
    c.in_ok-step.ensures.asks in
    front_asks (rungs_asking calc c.args.size m o bumps c.args.desk.now) c.from_residual-in_err-push.result c.bump_rung.new.desk (g.B.Bench.count c.args.bench.now) (g.B.Bench.count c.bump_rung.new.bench) (g.B.Bench.log c.args.bench.now) (g.B.Bench.log c.bump_rung.new.bench) p.0 p.1
    (progress_stops (rungs_asking calc c.args.size m o bumps c.args.desk.now) (rungs_asking calc c.args.size m o rest c.bump_rung.new.desk) (c.loop-bump.runs + c.in_ok-step.step.runs) (g.B.Bench.count c.args.bench.now) (g.B.Bench.count c.bump_rung.new.bench) (g.B.Bench.log c.args.bench.now) (g.B.Bench.log c.bump_rung.new.bench)
    (progress_more (rungs_asking calc c.args.size m o bumps c.args.desk.now) (rungs_asking calc c.args.size m o (drop c.loop-bump.bump-index bumps) c.loop-bump.desk) (bump_asking calc c.args.size m o c.bump-item.result c.loop-bump.desk) (rungs_asking calc c.args.size m o rest)
    (asking_step _ _ _ steps calc c.args.size m o c.loop-bump.desk)
    c.loop-bump.runs (g.B.Bench.count c.args.bench.now) (g.B.Bench.count c.loop-bump.bench) (g.B.Bench.count c.bump_rung.new.bench) (g.B.Bench.log c.args.bench.now) (g.B.Bench.log c.loop-bump.bench) (g.B.Bench.log c.bump_rung.new.bench) c.loop-bump.invariant.progress
    c.bump_rung.new.desk does.0 does.1 c.in_ok-step.step.runs
    (runs_at calc (g.B.Bench.calc c.loop-bump.bench) c.args.size m c.loop-bump.desk.market o c.bump-item.result same market c.loop-bump.desk c.in_ok-step.step.runs c.in_ok-step.ensures.runs)))

pub returns-in_err-push-clause-same : goal.returns-in_err-push-clause-same
returns-in_err-push-clause-same g c = c.bump_rung.ensures.same ∙ c.loop-bump.invariant.same

pub returns-in_err-push-clause-market : goal.returns-in_err-push-clause-market
returns-in_err-push-clause-market g c = c.bump_rung.ensures.market ∙ c.loop-bump.invariant.market

pub returns-in_err-push-clause-sound : goal.returns-in_err-push-clause-sound
returns-in_err-push-clause-sound g c =
    subst (λ (k : Calc). IsSound k c.bump_rung.new.desk) c.loop-bump.invariant.same c.bump_rung.ensures.sound

pub returns-clause-rungs : goal.returns-clause-rungs
returns-clause-rungs g c =
    rungs_ended (bump_rung (g.B.Bench.calc c.args.bench.now) c.args.size c.args.desk.now.market c.args.object c.args.base) c.loop-bump.rungs
    (drop c.loop-bump.bump-index c.args.bumps.now) (drop_of_length-le c.args.bumps.now c.loop-bump-test.false)
    ∙ c.loop-bump.invariant.rungs

pub returns-clause-runs : goal.returns-clause-runs
returns-clause-runs g c =
    last_runs (rungs_asking (g.B.Bench.calc c.args.bench.now) c.args.size c.args.desk.now.market c.args.object c.args.bumps.now c.args.desk.now) (rungs_asking (g.B.Bench.calc c.args.bench.now) c.args.size c.args.desk.now.market c.args.object (drop c.loop-bump.bump-index c.args.bumps.now) c.loop-bump.desk) c.loop-bump.desk
    (asking_ended (g.B.Bench.calc c.args.bench.now) c.args.size c.args.desk.now.market c.args.object (drop c.loop-bump.bump-index c.args.bumps.now) c.loop-bump.desk
    (drop_of_length-le c.args.bumps.now c.loop-bump-test.false))
    c.loop-bump.runs (g.B.Bench.count c.args.bench.now) (g.B.Bench.count c.loop-bump.bench) (g.B.Bench.log c.args.bench.now) (g.B.Bench.log c.loop-bump.bench) c.loop-bump.invariant.progress

pub returns-clause-few : goal.returns-clause-few
returns-clause-few g c = omega (arith, c.loop-bump.invariant.few, c.loop-bump.invariant.within)

pub returns-clause-asks : goal.returns-clause-asks
returns-clause-asks g c =
    let whole = rungs_asking (g.B.Bench.calc c.args.bench.now) c.args.size c.args.desk.now.market c.args.object c.args.bumps.now c.args.desk.now in
    let rest = rungs_asking (g.B.Bench.calc c.args.bench.now) c.args.size c.args.desk.now.market c.args.object (drop c.loop-bump.bump-index c.args.bumps.now) c.loop-bump.desk in
    let ended = asking_ended (g.B.Bench.calc c.args.bench.now) c.args.size c.args.desk.now.market c.args.object (drop c.loop-bump.bump-index c.args.bumps.now) c.loop-bump.desk
    (drop_of_length-le c.args.bumps.now c.loop-bump-test.false) in (
      sym (last_next whole rest c.loop-bump.desk ended c.loop-bump.runs (g.B.Bench.count c.args.bench.now) (g.B.Bench.count c.loop-bump.bench) (g.B.Bench.log c.args.bench.now) (g.B.Bench.log c.loop-bump.bench) c.loop-bump.invariant.progress),
      last_made whole rest c.loop-bump.desk ended c.loop-bump.runs (g.B.Bench.count c.args.bench.now) (g.B.Bench.count c.loop-bump.bench) (g.B.Bench.log c.args.bench.now) (g.B.Bench.log c.loop-bump.bench) c.loop-bump.invariant.progress,
    )
