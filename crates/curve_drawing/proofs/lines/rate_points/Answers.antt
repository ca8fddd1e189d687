use Rattle.curve_drawing.proofs.Rated.{rates_more, rates_refused, rates_end}
use Rattle.curve_drawing.proofs.lines.rate_points.Goals as goal

pub returns-in-Err : goal.returns-in-Err
returns-in-Err c =
    rates_refused c.args.rolls c.args.curve.now c.loop-day.from c.args.days.now c.loop-day.day-index c.day-item.result c.loop-day-test.true
    c.day-item.is c.in-Err.cause c.loop-day.points.items _ c.in-Err.ensures.value c.loop-day.invariant

pub loop-day-preserved : goal.loop-day-preserved
loop-day-preserved c =
    rates_more c.args.rolls c.args.curve.now c.loop-day.from c.args.days.now c.loop-day.day-index c.day-item.result c.loop-day-test.true
    c.day-item.is c.in-Ok.rate c.next_from-from.result c.loop-day.points.items c.push_rate.new.points.items _ c.in-Ok.ensures.value
    c.in_ok-push_rate-in-Ok.ensures c.next_from-from.ensures c.loop-day.invariant

pub returns : goal.returns
returns c =
    rates_end c.args.rolls c.args.curve.now c.loop-day.from c.args.days.now c.loop-day.day-index c.loop-day.points.items _
    c.loop-day-test.false c.loop-day.invariant
