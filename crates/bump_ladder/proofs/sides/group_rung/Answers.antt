use Rattle.std.proofs.Common.{◌∙◌, ap}
use Rattle.desk_model.specs.State.{State}
use Rattle.bump_model.specs.Asking.{rung_asking}
use Rattle.bump_model.proofs.Moving.{quoted_live, live_differ, set_back as set_back_same}
use Rattle.bump_ladder.proofs.Siding.{rung_asks, moved_unheld}
use Rattle.bump_ladder.proofs.sides.group_rung.Goals as goal

pub both_sides-step-requires-clause-live : goal.both_sides-step-requires-clause-live
both_sides-step-requires-clause-live g c = quoted_live c.args.desk.now.market c.args.group.now c.requires.quoted

pub set_back-requires : goal.set_back-requires
set_back-requires g c = record {
  live = live_differ c.args.group.now c.args.desk.now.market c.both_sides-step.new.desk.market
      c.both_sides-step.ensures.differ
      (quoted_live c.args.desk.now.market c.args.group.now c.requires.quoted);
}

pub returns-clause-runs : goal.returns-clause-runs
unfolding rung_asking
returns-clause-runs g c = c.both_sides-step.ensures.runs

pub returns-clause-asks : goal.returns-clause-asks
returns-clause-asks g c =
    rung_asks (g.B.Bench.calc c.args.bench.now) c.args.size c.args.object c.args.group.now c.args.desk.now
    c.both_sides-step.new.desk c.set_back.new.desk
    c.both_sides-step.result (g.B.Bench.count c.args.bench.now) (g.B.Bench.count c.both_sides-step.new.bench)
    (g.B.Bench.log c.args.bench.now)
    (g.B.Bench.log c.both_sides-step.new.bench) c.set_back.ensures.back c.both_sides-step.ensures.asks

pub returns-clause-market : goal.returns-clause-market
returns-clause-market g c =
    ap (λ (u : State). u.market) c.set_back.ensures.back
    ∙ set_back_same c.args.group.now c.args.desk.now.market c.both_sides-step.new.desk c.requires.quoted
    c.both_sides-step.ensures.differ

pub returns-clause-sound : goal.returns-clause-sound
returns-clause-sound g c = c.set_back.ensures.sound (g.B.Bench.calc c.args.bench.now) c.both_sides-step.ensures.sound

pub returns-clause-unheld : goal.returns-clause-unheld
returns-clause-unheld g c =
    moved_unheld (λ value. value) c.args.group.now c.both_sides-step.new.desk c.set_back.new.desk
    c.set_back.ensures.back c.both_sides-step.ensures.unheld
