-- What statements do, and what holds of the block behind them.
use Rattle.std.proofs.Common.{◌≡◌, ℕ, ◌≤◌, List, [], ◌∷◌, ◌++◌, Option, Some, None, Result, Ok, Err, refl, sym, subst, arith}
use Rattle.std.specs.Prelude.{All, OnOk, OnErr}
use Rattle.std.proofs.lemmas.List.Elements.{All-nil, All-cons, All-head, All-tail, All-push}
use Rattle.session_commands.specs.declared.command.Command.{Command}
use Rattle.session_commands.specs.Whole.{IsCommand}
use Rattle.session_lang.proofs.AddedNames.{any_err}
use Rattle.session_model.specs.Course.{Running, Meaning}
use Rattle.session_model.proofs.Growing.{command_grows}
use Rattle.session_rounds.specs.Goes.{Output, Halts}
use Rattle.session_rounds.proofs.Going.{halts_at_once}
use Rattle.live_model.specs.Live.{Block, Live, block_ended, commanded}
use Rattle.live_session.specs.Saying.{as_course}
use Rattle.live_session.specs.Standing.{BlockFits}

abbrev pub live : {P : Type 0} → Running P → List (List ℕ) → Option Block → ℕ → Live P
live r begun block line = record { running = r; begun = begun; block = block; line = line }

-- a command is put into a block, where there is memory
pub pushed_fits : {T E : Type 0} (r : Result T E) (block : Block) (new : List Command) (names begun actions : ℕ) (c : Command)
    → OnOk r (new ≡ block.commands ++ c ∷ []) → OnErr r (new ≡ block.commands) → BlockFits (Some block) names begun actions → IsCommand names begun c
    → BlockFits (Some (record block { commands = new })) names begun actions
pushed_fits (Ok x) block new names begun actions c ok err fits known =
    (fits.0, subst (All (IsCommand names begun)) (sym ok) (All-push (IsCommand names begun) block.commands c fits.1 known))
pushed_fits (Err e) block new names begun actions c ok err fits known = (fits.0, subst (All (IsCommand names begun)) (sym err) fits.1)

-- a block of names is one of more
module _ (names more begun : ℕ) (le : names ≤ more) where
  all_wider : (commands : List Command) → All (IsCommand names begun) commands → All (IsCommand more begun) commands
  all_wider [] all = All-nil (IsCommand more begun)
  all_wider (c ∷ commands) all = All-cons (IsCommand more begun) c commands
      (command_grows names more begun begun le (omega arith) c (All-head (IsCommand names begun) c commands all))
      (all_wider commands (All-tail (IsCommand names begun) c commands all))

  pub fits_wider : (block : Option Block) (actions : ℕ) → BlockFits block names begun actions → BlockFits block more begun actions
  fits_wider None actions fits = fits
  fits_wider (Some block) actions fits = (fits.0, all_wider block.commands fits.1)

-- an ended block leaves the names of the actions
pub ended_begun : {P : Type 0} → (block : Option Block) (s : Live P) → (block_ended block s).begun ≡ s.begun
ended_begun None s = refl
ended_begun (Some block) s = refl

pub put_halts : {P T E : Type 0} → (m : Meaning P) (r : Running P) (begun : List (List ℕ)) (block : Option Block) (c : Command) (res : Result T E) (out : Output)
    → OnErr res ((line : ℕ) → Halts P (as_course (commanded m block (live r begun block line) c)) out out)
put_halts m r begun block c res out = any_err res (λ line. halts_at_once (as_course (commanded m block (live r begun block line) c)) out)
