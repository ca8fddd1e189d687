use Rattle.std.proofs.Common.{◌≡◌, drop}
use Rattle.std.specs.Prelude.{map}
use Rattle.std.specs.String.{string_bytes}
use Rattle.std.specs.List.{list_all}
use Rattle.desk_names.specs.Name.{is_name}
use Rattle.tool_risk.proofs.words.all_names.Given as goal

-- the words before the one at hand are names
abbrev pub invariant-loop-word : goal.invariant-loop-word
invariant-loop-word l =
    list_all is_name (map string_bytes l.words) ≡ list_all is_name (map string_bytes (drop l.word-index l.words))
