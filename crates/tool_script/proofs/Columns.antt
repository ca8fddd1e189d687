-- The lines of the asks from a place on.
use Rattle.std.proofs.Common.{◌≡◌, ℕ, ◌+◌, ◌<◌, ◌≤◌, List, [], ◌∷◌, ◌++◌, length, get_or, drop, sym, ◌∙◌, ap}
use Rattle.std.proofs.lemmas.List.{append_assoc, append-nil, drop_more, drop_all}
use Rattle.session_commands.specs.declared.command.Command.{Command}
use Rattle.tool_script.specs.Kinds.{asked_name}
use Rattle.tool_script.specs.Grid.{Row, column, worst_line, worst_lines}
use Rattle.tool_script.specs.Worst.{worst_of}

-- one line more
pub lines_more : (names : List (List ℕ)) (rows : List Row) (asks : List Command) (at : ℕ) (ask : Command)
    (whole old new : List ℕ) → at < length asks → ask ≡ get_or asks at ask
    → new ≡ old ++ worst_line names (asked_name ask) (worst_of (column at rows))
    → whole ≡ old ++ worst_lines names rows at (drop at asks) → whole ≡ new ++ worst_lines names rows (at + 1) (drop (at + 1) asks)
unfolding worst_lines
lines_more names rows asks at ask whole old new within is more left =
    let line = worst_line names (asked_name ask) (worst_of (column at rows)) in
    left
    ∙ ap (λ (l : List Command). old ++ worst_lines names rows at l)
    (drop_more asks at ask within ∙ ap (λ (c : Command). c ∷ drop (at + 1) asks) (sym is))
    ∙ sym (append_assoc old line (worst_lines names rows (at + 1) (drop (at + 1) asks)))
    ∙ ap (λ (l : List ℕ). l ++ worst_lines names rows (at + 1) (drop (at + 1) asks)) (sym more)

pub lines_end : (names : List (List ℕ)) (rows : List Row) (asks : List Command) (at : ℕ) (whole old : List ℕ)
    → length asks ≤ at → whole ≡ old ++ worst_lines names rows at (drop at asks) → old ≡ whole
unfolding worst_lines
lines_end names rows asks at whole old past left =
    sym (left ∙ ap (λ (l : List Command). old ++ worst_lines names rows at l) (drop_all at asks past) ∙ append-nil old)
