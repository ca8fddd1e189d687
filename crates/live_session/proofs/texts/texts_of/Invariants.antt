use Rattle.std.proofs.Common.{◌≡◌, ◌++◌, drop, map}
use Rattle.session_commands.specs.Whole.{name_text}
use Rattle.live_session.proofs.texts.texts_of.Given as goal

abbrev pub invariant-loop-number : goal.invariant-loop-number
invariant-loop-number l = l.texts ++ map (name_text l.names) (drop l.number-index l.numbers) ≡ map (name_text l.names) l.numbers
