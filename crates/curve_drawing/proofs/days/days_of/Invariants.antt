use Rattle.std.proofs.Common.{◌≡◌, ◌+◌, ◌*◌, ◌≤◌, ◌++◌}
use Rattle.curve_drawing.specs.Days.{days_on, days_of}
use Rattle.curve_drawing.proofs.days.days_of.Given as goal

-- the days before the one at hand are there
abbrev pub invariant-loop-more : goal.invariant-loop-more
invariant-loop-more l = record {
  few : l.months + 12 * l.more ≤ 50_000;
  days : l.days.items ++ days_on l.start l.last l.every l.months l.more ≡ days_of l.start l.last l.every;
}

abbrev pub decreases-loop-more : goal.decreases-loop-more
decreases-loop-more l = l.more
