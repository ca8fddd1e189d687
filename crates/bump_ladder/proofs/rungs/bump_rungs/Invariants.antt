use Rattle.std.proofs.Common.{◌≡◌, ◌++◌, ◌*◌, ◌^◌, ◌≤◌, drop, length}
use Rattle.std.specs.Prelude.{map}
use Rattle.desk_model.specs.Sound.{IsSound}
use Rattle.desk_model.specs.Unheld.{HoldsNothing}
use Rattle.bump_model.specs.Moves.{AreBumps}
use Rattle.bump_model.specs.Sides.{bump_rung}
use Rattle.bump_model.specs.Asking.{rungs_asking}
use Rattle.bump_model.proofs.Calls.{Progress}
use Rattle.bump_ladder.proofs.rungs.bump_rungs.Given as goal

-- the rungs before the one at hand were climbed, and the market is the one before them
abbrev pub invariant-loop-bump : goal.invariant-loop-bump
invariant-loop-bump g l = record {
  same : g.B.Bench.calc l.bench ≡ g.B.Bench.calc l.initial.bench;
  progress : Progress (rungs_asking (g.B.Bench.calc l.initial.bench) l.size l.initial.desk.market l.object l.bumps l.initial.desk)
      (rungs_asking (g.B.Bench.calc l.initial.bench) l.size l.initial.desk.market l.object (drop l.bump-index l.bumps) l.desk) l.runs
      (g.B.Bench.count l.initial.bench) (g.B.Bench.count l.bench) (g.B.Bench.log l.initial.bench) (g.B.Bench.log l.bench);
  rungs : l.rungs ++ map (bump_rung (g.B.Bench.calc l.initial.bench) l.size l.initial.desk.market l.object l.base) (drop l.bump-index l.bumps)
      ≡ map (bump_rung (g.B.Bench.calc l.initial.bench) l.size l.initial.desk.market l.object l.base) l.bumps;
  within : l.bump-index ≤ length l.bumps;
  few : l.runs ≤ l.bump-index * 2 ^ 18;
  market : l.desk.market ≡ l.initial.desk.market;
  bumps : AreBumps l.initial.desk.market (drop l.bump-index l.bumps);
  sound : IsSound (g.B.Bench.calc l.initial.bench) l.desk;
  unheld : HoldsNothing l.desk;
}
