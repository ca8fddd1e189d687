-- What holds of a session that is spoken to.
use Rattle.std.specs.Prelude.{◌≡◌, ◌+◌, false, ℕ, Bool, List, length, All, Option, Some, None}
use Rattle.script_words.specs.Given.{Grows}
use Rattle.session_commands.specs.Whole.{IsCommand}
use Rattle.session_lang.specs.declared.statement.Statement.{Statement}
use Rattle.session_lang.specs.declared.statement.Statement.TheVariants.{Blank, Begin, End, Run}
use Rattle.session_lang.specs.Statement.{Known}
use Rattle.session_lang.specs.Reading.{linked}
use Rattle.live_model.specs.Live.{Block, Live}

-- a copy of names that is as long as they are is theirs
abbrev pub IsCopy : List (List ℕ) → List (List ℕ) → Type 0
IsCopy copy names = length copy ≡ length names → copy ≡ names

-- each action that was begun is one of the session, but for the block that stands open, whose commands are of so many
-- names and actions
abbrev pub BlockFits : Option Block → ℕ → ℕ → ℕ → Type 0
BlockFits None names begun actions = begun ≡ actions
BlockFits (Some block) names begun actions = (begun ≡ actions + 1) × All (IsCommand names begun) block.commands

abbrev pub IsWhole : (P : Type 0) → Live P → Type 0
IsWhole P s = BlockFits s.block (length s.running.standing.names) (length s.begun) (length s.running.standing.actions)

-- what lines are read over are copies of the session's names and of its actions', and its block is one of these
pub record Stands (P : Type 0) (s : Live P) (names actions : List (List ℕ)) : Type 0 where
  pub copied : IsCopy names s.running.standing.names
  pub begun : IsCopy actions s.begun
  pub block : IsWhole P s

-- what a statement that was read behind these names of actions, inside a block or not, leaves
abbrev pub Leaves : Bool → List (List ℕ) → Known → Statement → Type 0
Leaves inside begun next Blank = next.begun ≡ begun
Leaves inside begun next (Begin name) =
    (inside ≡ false) × Grows begun next.begun × (length next.begun ≡ length begun + 1)
Leaves inside begun next End = next.begun ≡ begun
Leaves inside begun next (Run c) =
    (next.begun ≡ begun) × IsCommand (length next.names) (length next.begun) (linked next c)

-- it was read over these names, and new ones go behind them
pub record IsRead (inside : Bool) (known next : Known) (st : Statement) : Type 0 where
  pub grows : Grows known.names next.names
  pub leaves : Leaves inside known.begun next st
