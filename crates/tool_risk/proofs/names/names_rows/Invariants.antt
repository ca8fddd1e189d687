use Rattle.std.proofs.Common.{◌≡◌, ◌++◌, drop}
use Rattle.std.specs.Prelude.{map}
use Rattle.std.specs.String.{string_bytes}
use Rattle.desk_terms.specs.Reading.{Calc}
use Rattle.desk_model.specs.Sound.{IsSound}
use Rattle.desk_model.specs.Unheld.{HoldsNothing}
use Rattle.bump_model.proofs.Each.{Far}
use Rattle.tool_risk.specs.Asking.{name_asking}
use Rattle.tool_risk.specs.Lines.{names_text}
use Rattle.tool_risk.proofs.names.names_rows.Given as goal

-- the asks for the names before the one at hand were made, their rows are written, and the market is the one before them
abbrev pub invariant-loop-text : goal.invariant-loop-text
invariant-loop-text g l = record {
  same : g.B.Bench.calc l.bench ≡ g.B.Bench.calc l.initial.bench;
  progress : Far (λ (h : Calc). name_asking h l.size l.namer.names.now) (g.B.Bench.calc l.initial.bench) (map
      string_bytes l.texts) l.initial.desk
      (map string_bytes (drop l.text-index l.texts)) l.desk
      (g.B.Bench.count l.initial.bench) (g.B.Bench.count l.bench) (g.B.Bench.log l.initial.bench) (g.B.Bench.log l.bench);
  lines : l.lines.items ++ names_text (g.B.Bench.calc l.initial.bench) l.size l.initial.desk.market l.namer.names.now l.namer.of_object.now (map string_bytes (drop l.text-index l.texts))
      ≡ l.initial.lines.items ++ names_text (g.B.Bench.calc l.initial.bench) l.size l.initial.desk.market l.namer.names.now l.namer.of_object.now (map string_bytes l.texts);
  market : l.desk.market ≡ l.initial.desk.market;
  sound : IsSound (g.B.Bench.calc l.initial.bench) l.desk;
  unheld : HoldsNothing l.desk;
}
