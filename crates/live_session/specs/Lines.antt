-- What was said to a session, beside the session.
use Rattle.std.specs.Prelude.{◌≡◌, true, ℕ, Bool, List, Option}
use Rattle.desk_names.specs.Names.{with_text}
use Rattle.session_model.specs.Course.{Running}
use Rattle.live_model.specs.Live.{Block, Live}
use Rattle.live_session.specs.Standing.{Stands, IsCopy}

-- the names of the session's actions in order, the block that stands open, how many lines were said, and the names and the
-- names of actions that lines are read over
pub record Lines : Type 0 where
  pub begun : List (List ℕ)
  pub block : Option Block
  pub line : ℕ
  pub names : List (List ℕ)
  pub actions : List (List ℕ)

-- both together
abbrev pub live_of : {P : Type 0} → Running P → Lines → Live P
live_of r l = record { running = r; begun = l.begun; block = l.block; line = l.line }

-- it was told of this session's names and actions
abbrev pub StandBy : (P : Type 0) → Running P → Lines → Type 0
StandBy P r l = Stands P (live_of r l) l.names l.actions

-- a copy of names follows them: where it is as long as they were, and theirs therefore, it is theirs behind a text too
abbrev pub IsFollowed : List (List ℕ) → List ℕ → Bool → List (List ℕ) → List (List ℕ) → Type 0
IsFollowed names text is_copy old new = (is_copy ≡ true → old ≡ names) → IsCopy new (with_text names text)
