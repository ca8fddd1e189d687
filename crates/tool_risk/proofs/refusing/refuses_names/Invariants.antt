use Rattle.std.proofs.Common.{◌≡◌, drop}
use Rattle.std.specs.Prelude.{map}
use Rattle.std.specs.String.{string_bytes}
use Rattle.tool_risk.specs.Named.{refuses_names}
use Rattle.tool_risk.proofs.refusing.refuses_names.Given as goal

-- no name before the one at hand is refused
abbrev pub invariant-loop-text : goal.invariant-loop-text
invariant-loop-text l =
    refuses_names l.desk.market l.names (map string_bytes l.texts)
    ≡ refuses_names l.desk.market l.names (map string_bytes (drop l.text-index l.texts))
