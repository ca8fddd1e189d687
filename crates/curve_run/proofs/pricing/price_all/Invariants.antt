use Rattle.std.proofs.Common.{◌≡◌, ◌++◌, drop}
use Rattle.desk_model.specs.Sound.{IsSound}
use Rattle.desk_model.specs.Unheld.{HoldsNothing}
use Rattle.bump_model.specs.Asking.{ask_of}
use Rattle.bump_model.proofs.Each.{Far}
use Rattle.curve_run.specs.Named.{AreCurves}
use Rattle.curve_run.specs.Pricing.{curves_of, refused_lines}
use Rattle.curve_run.proofs.pricing.price_all.Given as goal

-- the asks for the curves before the one at hand were made, and their curves and lines are there
abbrev pub invariant-loop-object : goal.invariant-loop-object
invariant-loop-object g l = record {
  same : g.B.Bench.calc l.bench ≡ g.B.Bench.calc l.initial.bench;
  progress : Far ask_of (g.B.Bench.calc l.initial.bench) l.objects l.initial.desk (drop l.object-index l.objects) l.desk
      (g.B.Bench.count l.initial.bench) (g.B.Bench.count l.bench) (g.B.Bench.log l.initial.bench) (g.B.Bench.log l.bench);
  curves : l.priced.curves.items ++ curves_of (g.B.Bench.calc l.initial.bench) l.initial.desk.market (drop l.object-index l.objects)
      ≡ curves_of (g.B.Bench.calc l.initial.bench) l.initial.desk.market l.objects;
  lines : l.priced.lines.items ++ refused_lines (g.B.Bench.calc l.initial.bench) l.initial.desk.market l.namer.names.now l.namer.of_object.now (drop l.object-index l.objects)
      ≡ refused_lines (g.B.Bench.calc l.initial.bench) l.initial.desk.market l.namer.names.now l.namer.of_object.now l.objects;
  market : l.desk.market ≡ l.initial.desk.market;
  are : AreCurves l.initial.desk.market (drop l.object-index l.objects);
  sound : IsSound (g.B.Bench.calc l.initial.bench) l.desk;
  unheld : HoldsNothing l.desk;
}
