use Rattle.std.proofs.Common.{rules, ◌<◌, ◌≤◌, length, drop, refl, sym, ◌∙◌, subst, arith}
use Rattle.live_session.specs.Saying.{HasLearnt}
use Rattle.live_session.proofs.Learnt.{none_learnt, more_learnt, one_step, all_learnt, grows_copy}
use Rattle.live_session.proofs.learning.learn.Goals as goal

pub loop-session-init : goal.loop-session-init
loop-session-init g c = record { grows = c.requires.more; left = refl; some = none_learnt g.row.P.Denot _ c.args.session.now }

pub learn_next-requires-clause-more : goal.learn_next-requires-clause-more
learn_next-requires-clause-more g c = c.loop-session.invariant.grows

pub loop-session-smaller : goal.loop-session-smaller
loop-session-smaller g c =
    let less : length c.loop-session.session.standing.names < length c.args.names.now = search rules in
    let step = one_step g.row.P.Denot c.loop-session.session c.learn_next.new.session c.args.names.now c.loop-session.invariant.grows less
    c.in_ok-learn_next.ensures.ok in
    let one = step.nearer in omega (arith, less, one)

pub loop-session-preserved : goal.loop-session-preserved
loop-session-preserved g c =
    let less : length c.loop-session.session.standing.names < length c.args.names.now = search rules in
    let step = one_step g.row.P.Denot c.loop-session.session c.learn_next.new.session c.args.names.now c.loop-session.invariant.grows less
    c.in_ok-learn_next.ensures.ok in record {
      grows = step.grows;
      left = step.left ∙ c.loop-session.invariant.left;
      some = more_learnt g.row.P.Denot c.args.names.now c.args.session.now c.loop-session.session c.learn_next.new.session
          c.loop-session.invariant.grows less c.in_ok-learn_next.ensures.ok c.loop-session.invariant.some;
    }

pub returns-in_err-learn_next-clause-some : goal.returns-in_err-learn_next-clause-some
returns-in_err-learn_next-clause-some g c =
    subst (HasLearnt g.row.P.Denot (drop (length c.args.session.now.standing.names) c.args.names.now) c.args.session.now) (sym c.in_err-learn_next.ensures.err)
    c.loop-session.invariant.some

pub returns-clause-learnt : goal.returns-clause-learnt
returns-clause-learnt g c =
    let most : length c.args.names.now ≤ length c.loop-session.session.standing.names = search rules in
    sym (all_learnt g.row.P.Denot c.loop-session.session c.args.names.now c.loop-session.invariant.grows most).1 ∙ c.loop-session.invariant.left

pub returns-clause-names : goal.returns-clause-names
returns-clause-names g c =
    let most : length c.args.names.now ≤ length c.loop-session.session.standing.names = search rules in
    sym (all_learnt g.row.P.Denot c.loop-session.session c.args.names.now c.loop-session.invariant.grows most).0

pub returns-clause-some : goal.returns-clause-some
returns-clause-some g c = c.loop-session.invariant.some

pub returns-clause-kept : goal.returns-clause-kept
returns-clause-kept g c = grows_copy c.loop-session.session.standing.names c.args.names.now c.loop-session.invariant.grows
