use Rattle.std.proofs.Common.{◌≡◌, drop}
use Rattle.std.specs.Prelude.{map}
use Rattle.std.specs.String.{string_bytes}
use Rattle.std.specs.List.{list_all}
use Rattle.tool_frame.specs.Words.{is_word}
use Rattle.curve_run.proofs.words.are_words.Given as goal

-- the words before the one at hand are taken
abbrev pub invariant-loop-word : goal.invariant-loop-word
invariant-loop-word l =
    list_all is_word (map string_bytes l.words) ≡ list_all is_word (map string_bytes (drop l.word-index l.words))
