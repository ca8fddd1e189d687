-- What comes later changes nothing: names and actions that stand behind those that a session speaks of.
use Rattle.std.specs.Prelude.{◌≡◌, ℕ, ◌<◌, true, ℤ, List, ◌++◌, length, replicate, codes, All, None}
use Rattle.desk_names.specs.Names.{has_text}
use Rattle.desk_terms.specs.declared.terms.Terms.{Terms}
use Rattle.session_commands.specs.declared.command.Command.{Command}
use Rattle.session_commands.specs.Whole.{IsCommand}
use Rattle.watch_rounds.specs.Round.{Round, blank}
use Rattle.session_model.specs.Standing.{Standing, start_with}
use Rattle.session_model.specs.Course.{Running, Meaning, Course, running}
use Rattle.session_model.specs.Rounds.{transcript, calls_of}

-- names, and actions
pub record Later : Type 0 where
  pub names : List (List ℕ)
  pub actions : List (List Command)

-- a session that has these too, behind its own
abbrev pub wider : Later → Standing → Standing
wider later p = record p {
  names = p.names ++ later.names;
  actions = p.actions ++ later.actions;
  watching = p.watching ++ replicate (length later.names) None;
}

-- no run of so many names more began
abbrev pub wider_round : ℕ → Round → Round
wider_round more round = record round { tallies = round.tallies ++ replicate more blank }

abbrev pub wider_in : {P : Type 0} → Later → Running P → Running P
wider_in later r = record r { standing = wider later r.standing; round = wider_round (length later.names) r.round }

-- the same lines and computations, and the wider session after them
abbrev pub wider_course : {P : Type 0} → Later → Course P → Course P
wider_course later course = record course { next = wider_in later course.next }

-- a market of objects with such names
abbrev pub AreNamed : ℕ → List (ℕ × Terms) → Type 0
AreNamed names made = All (λ entry. entry.0 < names) made

-- a session writes and computes the same where it has more names and actions behind its own
pub record IsTheSame {P : Type 0} (m : Meaning P) (later : Later) (picker : P) (today : ℤ) (names : List (List ℕ)) (made : List (ℕ × Terms))
    (actions : List (List Command)) (commands : List Command) : Type 0 where
  pub lines : transcript m (running picker (start_with today (names ++ later.names) made (actions ++ later.actions))) commands
      ≡ transcript m (running picker (start_with today names made actions)) commands
  pub calls : calls_of m (running picker (start_with today (names ++ later.names) made (actions ++ later.actions))) commands
      ≡ calls_of m (running picker (start_with today names made actions)) commands

-- WHAT COMES LATER CHANGES NOTHING, in every session of names, `today` among them, a market, actions and commands of these
-- names and actions
abbrev pub LaterChangesNothing : {P : Type 0} → Meaning P → Type 0
LaterChangesNothing {P} m = (later : Later) (picker : P) (today : ℤ) (names : List (List ℕ)) (made : List (ℕ × Terms))
    (actions : List (List Command)) (commands : List Command)
    → has_text names (codes "today") ≡ true
    → AreNamed (length names) made
    → All (λ block. All (IsCommand (length names) (length actions)) block) actions
    → All (IsCommand (length names) (length actions)) commands
    → IsTheSame m later picker today names made actions commands
