-- What a line leaves of a session that it is said to (this project's profile).
use Rattle.std.specs.Prelude.{◌≡◌, ◌⊎◌, ◌++◌, true, ℕ, List, length, drop, is_some}
use Rattle.session_lang.specs.Reading.{after_line}
use Rattle.session_model.specs.Course.{Running, Course}
use Rattle.session_rounds.specs.Goes.{Output, with_more}
use Rattle.live_model.specs.Live.{Live, known_of, meaning, learnt, Saying}

-- A LINE IS SAID: the session after it, and its lines and its computations put out
pub record IsSaid (P : Type 0) (told : Saying P) (new : Live P) (out_old out_new : Output) : Type 0 where
  pub next : new ≡ told.next
  pub out : out_new ≡ with_more told.lines told.calls out_old

-- its lines and its computations as those of a command
abbrev pub as_course : {P : Type 0} → Saying P → Course P
as_course told = record { lines = told.lines; calls = told.calls; next = told.next.running }

-- the names that are new in a line, in order: none where it has a fault
abbrev pub new_in : {P : Type 0} → Live P → List ℕ → List (List ℕ)
new_in s line = drop (length s.running.standing.names)
    (after_line s.running.standing.names (λ read. read.1.names) (meaning (known_of s) (is_some s.block) line))

-- the session learnt a front of these names, and is else as it was
pub record HasLearnt (P : Type 0) (names : List (List ℕ)) (old new : Running P) : Type 0 where
  pub front : List (List ℕ)
  pub rest : List (List ℕ)
  pub all : names ≡ front ++ rest
  pub whole : new ≡ learnt front old

-- WANT OF MEMORY left it as it was but for a front of the line's new names, or stopped it in a round; its actions' names, the
-- block that stands open and the count of lines are as they were
pub record IsCutShort (P : Type 0) (line : List ℕ) (old new : Live P) : Type 0 where
  pub running : HasLearnt P (new_in old line) old.running new.running ⊎ (new.running.standing.stopped ≡ true)
  pub rest : new ≡ record old { running = new.running }
