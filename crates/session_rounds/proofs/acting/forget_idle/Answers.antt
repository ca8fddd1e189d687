use Rattle.std.proofs.Common.{◌≡◌, ◌∙◌, ◌-◌, ◌<◌, ℕ, suc, true, false, List, get_or, drop, refl, sym, ap, subst, arith}
use Rattle.desk_model.specs.State.{State}
use Rattle.desk_model.specs.Told.{is_watching}
use Rattle.watch_rounds.specs.Due.{AreAll}
use Rattle.watch_rounds.specs.declared.rounds.DueWatcher.{DueWatcher}
use Rattle.session_rounds.proofs.Passing.{step_kept, step_gone, step_end}
use Rattle.session_rounds.proofs.acting.forget_idle.Goals as goal

before : (n : ℕ) → 0 < n → n ≡ suc (n - 1)
before n some = omega arith

pub loop-at-preserved-then-not-watching : goal.loop-at-preserved-then-not-watching
loop-at-preserved-then-not-watching c =
    let here = c.index.ensures ∙ ap (λ (l : List DueWatcher). get_or l (c.loop-at.at - 1) c.index.result.now) c.due-in-loop-at.ensures.due in
    let step = step_gone c.args.session.now.state c.args.rounds.now c.loop-at.rounds c.loop-at.at (c.loop-at.at - 1) c.index.result.now
    (before c.loop-at.at c.loop-at-test.true) c.loop-at.invariant.low here c.loop-at.invariant.others c.loop-at.invariant.kept
    c.loop-at.invariant.rest c.gone.new.self _
    refl c.due-in-loop-at.ensures.round.rising (subst (λ (s : State). is_watching s c.index.result.now.watcher ≡ false) c.deref.ensures
    (sym c.watching.ensures ∙ c.if-not-watching.true))
    c.gone.ensures.gone in
    record { low = step.0; others = step.1; kept = step.2; rest = step.3 }

pub loop-at-preserved : goal.loop-at-preserved
loop-at-preserved c =
    let here = c.index.ensures ∙ ap (λ (l : List DueWatcher). get_or l (c.loop-at.at - 1) c.index.result.now) c.due-in-loop-at.ensures.due in
    let low = c.loop-at.invariant.low in
    record {
      low = omega arith;
      others = c.loop-at.invariant.others;
      kept = c.loop-at.invariant.kept;
      rest = step_kept c.args.session.now.state c.args.rounds.now c.loop-at.rounds c.loop-at.at (c.loop-at.at - 1) c.index.result.now
          (before c.loop-at.at c.loop-at-test.true) c.loop-at.invariant.low here c.loop-at.invariant.others c.loop-at.invariant.kept
          c.loop-at.invariant.rest _ refl
          (subst (λ (s : State). is_watching s c.index.result.now.watcher ≡ true) c.deref.ensures
          (sym c.watching.ensures ∙ c.if-not-watching.false));
    }

pub returns-clause-undue : goal.returns-clause-undue
returns-clause-undue c = step_end c.args.session.now.state c.args.rounds.now c.loop-at.rounds c.loop-at.at
    (let none = c.loop-at-test.false in omega arith) c.loop-at.invariant.others c.loop-at.invariant.kept c.loop-at.invariant.rest

pub returns-clause-watching : goal.returns-clause-watching
returns-clause-watching c =
    let none : c.loop-at.at ≡ 0 = let ended = c.loop-at-test.false in omega arith in
    subst (λ (n : ℕ). AreAll (λ (entry : DueWatcher). is_watching c.args.session.now.state entry.watcher ≡ true) (drop n c.loop-at.rounds.round.due))
    none c.loop-at.invariant.rest
