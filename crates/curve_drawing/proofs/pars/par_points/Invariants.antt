use Rattle.std.proofs.Common.{◌≡◌, ◌≤◌, ◌-◌, drop}
use Rattle.curve_drawing.specs.Pars.{points_of}
use Rattle.curve_drawing.proofs.Rated.{behind}
use Rattle.curve_drawing.proofs.pars.par_points.Given as goal

-- the par rates of the helpers before the one at hand are there
abbrev pub invariant-loop-at : goal.invariant-loop-at
invariant-loop-at l = record {
  within : l.at ≤ l.count;
  points : points_of l.quoted.cal.now l.curve l.quoted.helpers.now l.quoted.rates.now
      ≡ behind l.points.items (points_of l.quoted.cal.now l.curve (drop l.at l.quoted.helpers.now) (drop l.at l.quoted.rates.now));
}

abbrev pub decreases-loop-at : goal.decreases-loop-at
decreases-loop-at l = l.count - l.at
