-- Which commands a scenario takes (this project's profile).
use Rattle.std.specs.Prelude.{ℕ, Bool, true, false, Option, Some, None, is_some}
use Rattle.session_commands.specs.declared.command.Command.{Command}
use Rattle.session_commands.specs.declared.command.Command.TheVariants.{Member, Set, Unset, Link, Unlink, Engine, Today, Fixing, Ask}

-- a move of the market: a value, a target, an engine, the evaluation date, a weight or a fixing
abbrev pub is_move : Command → Bool
is_move (Member k i weight) = true
is_move (Set q value) = true
is_move (Unset q) = true
is_move (Link h t) = true
is_move (Unlink h) = true
is_move (Engine i e) = true
is_move (Today day) = true
is_move (Fixing x day rate) = true
is_move other = false

-- the name that an ask asks for
abbrev pub asked_name : Command → Option ℕ
asked_name (Ask o) = Some o
asked_name other = None

abbrev pub is_ask : Command → Bool
is_ask command = is_some (asked_name command)
