use Rattle.std.proofs.Common.{◌≡◌, ◌++◌, drop}
use Rattle.desk_model.specs.Sound.{IsSound}
use Rattle.desk_model.specs.Unheld.{HoldsNothing}
use Rattle.bump_model.proofs.Each.{Far}
use Rattle.bump_ladder.specs.Curves.{given_asking}
use Rattle.tool_risk.specs.Given.{curves_given}
use Rattle.tool_risk.proofs.given.curves_given.Given as goal

-- the asks for the curves before the one at hand were made, and these are there
abbrev pub invariant-loop-name : goal.invariant-loop-name
invariant-loop-name g l = record {
  same : g.B.Bench.calc l.bench ≡ g.B.Bench.calc l.initial.bench;
  progress : Far given_asking (g.B.Bench.calc l.initial.bench) l.names l.initial.desk (drop l.name-index l.names) l.desk
      (g.B.Bench.count l.initial.bench) (g.B.Bench.count l.bench) (g.B.Bench.log l.initial.bench) (g.B.Bench.log l.bench);
  curves : l.curves.items ++ curves_given (g.B.Bench.calc l.initial.bench) l.initial.desk.market (drop l.name-index l.names)
      ≡ curves_given (g.B.Bench.calc l.initial.bench) l.initial.desk.market l.names;
  market : l.desk.market ≡ l.initial.desk.market;
  sound : IsSound (g.B.Bench.calc l.initial.bench) l.desk;
  unheld : HoldsNothing l.desk;
}
