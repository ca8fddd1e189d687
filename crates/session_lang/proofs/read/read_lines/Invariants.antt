use Rattle.std.proofs.Common.{◌≡◌, ◌+◌, ◌≤◌, [], length, None, false, is_some}
use Rattle.std.specs.Str.Lines.{lines}
use Rattle.desk_names.specs.Names.{IsNames}
use Rattle.script_words.specs.Given.{Grows}
use Rattle.session_lang.specs.Reading.{lines_meaning, names_left}
use Rattle.session_lang.specs.Gathered.{gathered_behind}
use Rattle.session_lang.proofs.AddedLines.{Taken}
use Rattle.session_lang.proofs.read.read_lines.Given as goal

abbrev pub invariant-loop-rest : goal.invariant-loop-rest
invariant-loop-rest l = record {
  whole : gathered_behind l.steps.items l.commands (is_some l.open_at) (lines_meaning (record { names = l.names; begun = l.begun }) l.open_at l.number (lines l.rest)) ≡ gathered_behind [] [] false (lines_meaning (record { names = l.fn.names; begun = l.fn.begun }) None 1 (lines l.text));
  left : names_left (record { names = l.names; begun = l.begun }) l.open_at l.number (lines l.rest) ≡ names_left (record { names = l.fn.names; begun = l.fn.begun }) None 1 (lines l.text);
  count : l.number + length l.rest ≤ length l.text + 1;
  grows : Grows l.fn.names l.names;
  taken : IsNames l.fn.names → IsNames l.fn.begun → Taken l.fn.names (lines l.text) l.names l.begun (lines l.rest);
}

abbrev pub decreases-loop-rest : goal.decreases-loop-rest
decreases-loop-rest l = length l.rest
