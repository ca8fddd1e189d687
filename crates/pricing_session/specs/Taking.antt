-- Which commands a session takes.
use Rattle.std.specs.Prelude.{◌≡◌, ◌<◌, false, List, length, All}
use Rattle.session_commands.specs.declared.command.Command.{Command}
use Rattle.session_model.specs.Quiet.{is_quiet}
use Rattle.session_core.specs.declared.growing.TheConstants.{MOST_ACTIONS}
use Rattle.session_model.specs.Growing.{with_action}
use Rattle.session_model.specs.Standing.{Standing, IsKnown}

-- the session goes on, and knows the command: each name and action is one of its own, each number is within its limit (this
-- project's profile)
abbrev pub Takes : Standing → Command → Type 0
Takes p c = (p.stopped ≡ false) × IsKnown p c

-- it goes on, and does not know the command
abbrev pub Misses : Standing → Command → Type 0
Misses p c = (p.stopped ≡ false) × (IsKnown p c → ⊥)

-- it takes the command, which a change does not make
abbrev pub LeavesToAStep : Standing → Command → Type 0
LeavesToAStep p c = Takes p c × (is_quiet c ≡ false)

-- there is room for an action more, of which it does not know each command, also where the action itself is known
abbrev pub LacksBlock : Standing → List Command → Type 0
LacksBlock p block = (length p.actions < MOST_ACTIONS) × (All (IsKnown (with_action block p)) block → ⊥)
