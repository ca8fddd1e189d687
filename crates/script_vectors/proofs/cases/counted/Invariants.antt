use Rattle.std.proofs.Common.{◌≡◌, ℕ, ◌+◌, ◌-◌, ◌*◌, ◌<◌, ◌≤◌, length}
use denote.Text.{Utf8}
use denote.Shadow.{shadow}
use Rattle.script_vectors.proofs.cases.counted.Given as goal

-- the text that several cases share stays text
abbrev pub invariant-loop-case : goal.invariant-loop-case
invariant-loop-case l =
    (goal.iterator-loop-case).can_next l.case-iterator ×
    (goal.iterator-loop-case).is_finite l.case-iterator ×
    shadow (Utf8 l.common)
