-- Moves and asks name no action.
use Rattle.std.proofs.Common.{◌≡◌, ℕ, true, List, All}
use Rattle.std.proofs.lemmas.List.Elements.{All-nil, All-cons, All-head, All-tail}
use Rattle.std.proofs.Common.{[], ◌∷◌}
use Rattle.session_commands.specs.declared.command.Command.{Command}
use Rattle.session_commands.specs.declared.command.Command.TheVariants as command
use Rattle.session_commands.specs.Parts.{parts_of}
use Rattle.session_commands.specs.Table.{row_of}
use Rattle.session_commands.specs.Whole.{IsCommand}
use Rattle.tool_script.specs.Kinds.{is_move, is_ask}

pub move_named : (n k : ℕ) (c : Command) → is_move c ≡ true → IsCommand n k c → IsCommand n 0 c
unfolding IsCommand parts_of row_of
move_named n k (command.Quote name value) is h = absurd (cc)
move_named n k (command.Sum name a b) is h = absurd (cc)
move_named n k (command.Difference name a b) is h = absurd (cc)
move_named n k (command.Handle name is_curve) is h = absurd (cc)
move_named n k (command.Stock name q) is h = absurd (cc)
move_named n k (command.Composite name) is h = absurd (cc)
move_named n k (command.Member c i weight) is h = record { first = h.first; second = h.second; third = h.third }
move_named n k (command.Set q value) is h = record { first = h.first; second = h.second; third = h.third }
move_named n k (command.Unset q) is h = record { first = h.first; second = h.second; third = h.third }
move_named n k (command.Link o t) is h = record { first = h.first; second = h.second; third = h.third }
move_named n k (command.Unlink o) is h = record { first = h.first; second = h.second; third = h.third }
move_named n k (command.Engine i e) is h = record { first = h.first; second = h.second; third = h.third }
move_named n k (command.Today day) is h = record { first = h.first; second = h.second; third = h.third }
move_named n k (command.Fixing x day rate) is h = record { first = h.first; second = h.second; third = h.third }
move_named n k (command.Freeze o) is h = absurd (cc)
move_named n k (command.Thaw o) is h = absurd (cc)
move_named n k (command.Recalc o) is h = absurd (cc)
move_named n k (command.Forward o is_on) is h = absurd (cc)
move_named n k command.Defer is h = absurd (cc)
move_named n k command.Resume is h = absurd (cc)
move_named n k (command.Watch w action) is h = absurd (cc)
move_named n k (command.Register w o) is h = absurd (cc)
move_named n k (command.Unregister w o) is h = absurd (cc)
move_named n k (command.Drop o) is h = absurd (cc)
move_named n k (command.Ask o) is h = absurd (cc)
move_named n k (command.Df c day) is h = absurd (cc)

pub ask_named : (n k : ℕ) (c : Command) → is_ask c ≡ true → IsCommand n k c → IsCommand n 0 c
unfolding IsCommand parts_of row_of
ask_named n k (command.Quote name value) is h = absurd (cc)
ask_named n k (command.Sum name a b) is h = absurd (cc)
ask_named n k (command.Difference name a b) is h = absurd (cc)
ask_named n k (command.Handle name is_curve) is h = absurd (cc)
ask_named n k (command.Stock name q) is h = absurd (cc)
ask_named n k (command.Composite name) is h = absurd (cc)
ask_named n k (command.Member c i weight) is h = absurd (cc)
ask_named n k (command.Set q value) is h = absurd (cc)
ask_named n k (command.Unset q) is h = absurd (cc)
ask_named n k (command.Link o t) is h = absurd (cc)
ask_named n k (command.Unlink o) is h = absurd (cc)
ask_named n k (command.Engine i e) is h = absurd (cc)
ask_named n k (command.Today day) is h = absurd (cc)
ask_named n k (command.Fixing x day rate) is h = absurd (cc)
ask_named n k (command.Freeze o) is h = absurd (cc)
ask_named n k (command.Thaw o) is h = absurd (cc)
ask_named n k (command.Recalc o) is h = absurd (cc)
ask_named n k (command.Forward o is_on) is h = absurd (cc)
ask_named n k command.Defer is h = absurd (cc)
ask_named n k command.Resume is h = absurd (cc)
ask_named n k (command.Watch w action) is h = absurd (cc)
ask_named n k (command.Register w o) is h = absurd (cc)
ask_named n k (command.Unregister w o) is h = absurd (cc)
ask_named n k (command.Drop o) is h = absurd (cc)
ask_named n k (command.Ask o) is h = record { first = h.first; second = h.second; third = h.third }
ask_named n k (command.Df c day) is h = absurd (cc)

pub all_moves_named : (n k : ℕ) (commands : List Command) → All (λ c. is_move c ≡ true) commands → All (IsCommand n k) commands
    → All (IsCommand n 0) commands
all_moves_named n k [] are fit = All-nil (IsCommand n 0)
all_moves_named n k (c ∷ commands) are fit =
    All-cons (IsCommand n 0) c commands
    (move_named n k c (All-head (λ d. is_move d ≡ true) c commands are) (All-head (IsCommand n k) c commands fit))
    (all_moves_named n k commands (All-tail (λ d. is_move d ≡ true) c commands are) (All-tail (IsCommand n k) c commands fit))

pub all_asks_named : (n k : ℕ) (commands : List Command) → All (λ c. is_ask c ≡ true) commands → All (IsCommand n k) commands
    → All (IsCommand n 0) commands
all_asks_named n k [] are fit = All-nil (IsCommand n 0)
all_asks_named n k (c ∷ commands) are fit =
    All-cons (IsCommand n 0) c commands
    (ask_named n k c (All-head (λ d. is_ask d ≡ true) c commands are) (All-head (IsCommand n k) c commands fit))
    (all_asks_named n k commands (All-tail (λ d. is_ask d ≡ true) c commands are) (All-tail (IsCommand n k) c commands fit))
