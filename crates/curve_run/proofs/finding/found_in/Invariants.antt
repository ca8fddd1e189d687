use Rattle.std.proofs.Common.{◌≡◌, ◌++◌, drop}
use Rattle.std.specs.Prelude.{map}
use Rattle.std.specs.String.{string_bytes}
use Rattle.curve_run.specs.Named.{objects_named, lines_named}
use Rattle.curve_run.proofs.finding.found_in.Given as goal

-- what the names before the one at hand stand for is there
abbrev pub invariant-loop-text : goal.invariant-loop-text
invariant-loop-text l = record {
  curves : l.found.curves.items ++ objects_named l.desk.market l.names (map string_bytes (drop l.text-index l.texts))
      ≡ objects_named l.desk.market l.names (map string_bytes l.texts);
  lines : l.found.lines.items ++ lines_named l.desk.market l.names (map string_bytes (drop l.text-index l.texts))
      ≡ lines_named l.desk.market l.names (map string_bytes l.texts);
}
