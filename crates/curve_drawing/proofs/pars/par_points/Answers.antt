use Rattle.std.proofs.Common.{arith, sym, ◌∙◌, ◌<◌, length}
use Rattle.curve_drawing.proofs.Parred.{pars_more, pars_refused, pars_end}
use Rattle.curve_drawing.proofs.pars.par_points.Goals as goal

pub returns-in-Err : goal.returns-in-Err
returns-in-Err c =
    let helpers = c.args.quoted.now.helpers.now in
    let quotes = c.args.quoted.now.rates.now in
    let count = c.min-count.ensures in
    let before = c.loop-at-test.true in
    pars_refused c.args.quoted.now.cal.now c.args.curve.now helpers quotes c.loop-at.at c.index-quoted-at.result c.index-quoted-at-in-loop-at.result
    (omega (arith, count, before)) c.index-quoted-at.is (omega (arith, count, before)) c.index-quoted-at-in-loop-at.is c.in-Err.cause
    c.loop-at.points.items _ (sym c.in-Err.is ∙ c.in_ok-point.ensures) c.loop-at.invariant.points

pub loop-at-preserved : goal.loop-at-preserved
loop-at-preserved c =
    let helpers = c.args.quoted.now.helpers.now in
    let quotes = c.args.quoted.now.rates.now in
    let count = c.min-count.ensures in
    let before = c.loop-at-test.true in
    record {
      within = omega (arith, before);
      points = pars_more c.args.quoted.now.cal.now c.args.curve.now helpers quotes c.loop-at.at c.index-quoted-at.result
          c.index-quoted-at-in-loop-at.result (omega (arith, count, before)) c.index-quoted-at.is (omega (arith, count, before))
          c.index-quoted-at-in-loop-at.is c.in-Ok.point c.loop-at.points.items c.push.new.self.items _
          (sym c.in-Ok.is ∙ c.in_ok-point.ensures) c.in_ok-push-in-Ok.ensures.items c.loop-at.invariant.points;
    }

pub returns : goal.returns
returns c =
    pars_end c.args.quoted.now.cal.now c.args.curve.now c.args.quoted.now.helpers.now c.args.quoted.now.rates.now c.loop-at.at
    c.loop-at.points.items _ c.min-count.result c.min-count.ensures c.loop-at-test.false c.loop-at.invariant.points
