-- How far a round has gone.
use Rattle.std.specs.Prelude.{◌≡◌, ◌++◌, ◌+◌, ◌≤◌, ℕ, Bool, List, [], length, take, Option, None}
use Rattle.desk_terms.specs.Bench.{counted, logged}
use Rattle.desk_terms.specs.Reading.{Calc}
use Rattle.desk_model.specs.Sound.{IsSound}
use Rattle.watch_rounds.specs.Round.{Round, runs_left, tally_at}
use Rattle.session_model.specs.Standing.{Standing}
use Rattle.session_model.specs.Course.{Running, Meaning, Course, before, runs_by}

-- what a session has put out: its lines, and what a bench tells of its calls
pub record Output : Type 0 where
  pub lines : List ℕ
  pub count : ℕ
  pub log : Option (List (ℕ × Bool))

-- lines where no bench is at hand
abbrev pub lines_alone : List ℕ → Output
lines_alone lines = record { lines = lines; count = 0; log = None }

-- with these lines and computations more
abbrev pub with_more : List ℕ → List (ℕ × Bool) → Output → Output
with_more lines calls out =
    record { lines = out.lines ++ lines; count = counted out.count (length calls); log = logged out.log calls }

-- A COURSE IS DONE: the session after it, and its lines and its computations put out
pub record Does (P : Type 0) (course : Course P) (new : Running P) (out_old out_new : Output) : Type 0 where
  pub next : new ≡ course.next
  pub out : out_new ≡ with_more course.lines course.calls out_old

-- MEMORY RAN OUT IN IT: a front of its lines was put out, a front of its computations was begun, and all of these ended
-- but the last one at most
pub record Halts (P : Type 0) (course : Course P) (out_old out_new : Output) : Type 0 where
  pub front : List ℕ
  pub rest : List ℕ
  pub whole : course.lines ≡ front ++ rest
  pub begun : ℕ
  pub ended : ℕ
  pub most : begun ≤ length course.calls
  pub last : (ended ≤ begun) × (begun ≤ ended + 1)
  pub out : out_new ≡ record {
    lines = out_old.lines ++ front;
    count = counted out_old.count begun;
    log = logged out_old.log (take ended course.calls);
  }

-- A WHOLE COURSE HAS GONE SO FAR that this one is left of it: what stands before it is done
pub record Goes (P : Type 0) (total left : Course P) (out_old out_new : Output) : Type 0 where
  pub lines : List ℕ
  pub calls : List (ℕ × Bool)
  pub out : out_new ≡ with_more lines calls out_old
  pub whole : total ≡ before lines calls left

-- so many runs of a round are done
pub record Runs (P : Type 0) (m : Meaning P) (start now : Running P) (out_old out_new : Output) : Type 0 where
  pub number : ℕ
  pub most : number + runs_left now.round ≤ runs_left start.round
  pub lines : List ℕ
  pub calls : List (ℕ × Bool)
  pub out : out_new ≡ with_more lines calls out_old
  pub whole : (k j : ℕ) → j ≡ number + k → runs_by m j start ≡ before lines calls (runs_by m k now)

-- names and actions stay, and the state is sound
pub record Stays (calc : Calc) (old new : Standing) : Type 0 where
  pub names : new.names ≡ old.names
  pub actions : new.actions ≡ old.actions
  pub sound : IsSound calc new.state

-- A ROUND HAS ENDED: nobody is due, and no name has run more than 8 times
pub record HasEnded (round : Round) : Type 0 where
  pub due : round.due ≡ []
  pub most : (name : ℕ) → (tally_at round name).runs ≤ 8
