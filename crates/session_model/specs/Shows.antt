-- What a whole session shows, in one piece.
use Rattle.std.specs.Prelude.{ℕ, ℤ, List, length, All}
use Rattle.desk_terms.specs.declared.terms.Terms.{Terms}
use Rattle.session_commands.specs.declared.command.Command.{Command}
use Rattle.session_commands.specs.Whole.{IsCommand}
use Rattle.session_model.specs.Standing.{start_with}
use Rattle.session_model.specs.Course.{Running, Meaning, running}
use Rattle.session_model.specs.Moments.{moments, IsOfMoments}
use Rattle.session_model.specs.Afresh.{Answers}
use Rattle.session_model.specs.Ends.{names_of_watchers, AreOver}

-- WHAT A SESSION SHOWS, whose script gives these names to watchers:
-- its transcript is the lines of its moments, which are the commands that are done, at the top and in the actions of watchers;
-- at each moment an ask answers, of an object that is clear, `fresh` of the market of that moment, or is refused as that
-- pricing refuses, and, of one that is frozen or late, its last value, or that it has none;
-- the round of each command ends, in it each name runs at most 8 times, and there are at most 8 runs for each of the names.
pub record Shows {P : Type 0} (m : Meaning P) (names : List ℕ) (r : Running P) (commands : List Command) : Type 0 where
  pub transcript : IsOfMoments P m r commands
  pub answers : All (λ moment. Answers m.calc moment.standing) (moments m r commands)
  pub rounds : AreOver m names r commands

-- EVERY SESSION SHOWS THAT: of names, a market, actions and commands of these names and actions, whoever picks who of the due
-- runs next
abbrev pub EverySessionShows : {P : Type 0} → Meaning P → Type 0
EverySessionShows {P} m = (picker : P) (today : ℤ) (names : List (List ℕ)) (made : List (ℕ × Terms)) (actions : List (List Command))
    (commands : List Command)
    → All (λ block. All (IsCommand (length names) (length actions)) block) actions
    → All (IsCommand (length names) (length actions)) commands
    → Shows m (names_of_watchers actions commands) (running picker (start_with today names made actions)) commands
