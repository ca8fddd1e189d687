use Rattle.std.proofs.Common.{◌≡◌, drop}
use Rattle.curve_drawing.specs.Scale.{first_from}
use Rattle.curve_drawing.proofs.scale.first_from.Given as goal

-- the steps before the one at hand are too short
abbrev pub invariant-loop-step : goal.invariant-loop-step
invariant-loop-step l = first_from l.need l.steps l.last ≡ first_from l.need (drop l.step-index l.steps) l.last
