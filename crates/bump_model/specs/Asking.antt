-- THE ASKS of a ladder, in their order: the base, then for each rung up and down; what they compute, and the state after
-- them.
use Rattle.std.specs.Prelude.{◌≡◌, ◌≢◌, ◌⊎◌, ℕ, ℤ, neg_ℤ, ◌+◌, Bool, List, [], ◌∷◌, ◌++◌, length, if◌then◌else◌, Option, None, Some, Result, Ok, Err}
use Rattle.desk_terms.specs.declared.cause.Cause.{Cause}
use Rattle.desk_terms.specs.Bench.{counted, logged}
use Rattle.desk_terms.specs.Reading.{Outcome, Calc}
use Rattle.desk_model.specs.Market.{Market}
use Rattle.desk_model.specs.State.{State}
use Rattle.desk_model.specs.Visit.{log_of, runs, asked}
use Rattle.bump_model.specs.declared.moves.Quoted.{Quoted}
use Rattle.bump_model.specs.declared.ladder.Bump.{Bump}
use Rattle.bump_model.specs.declared.ladder.Bump.TheVariants.{One, Together}
use Rattle.bump_model.specs.declared.ladder.Ladder as ladder
use Rattle.bump_model.specs.declared.ladder.LadderFault.{LadderFault}
use Rattle.bump_model.specs.declared.ladder.LadderFault.TheVariants.{Base, NoMemory}
use Rattle.bump_model.specs.Moves.{moved, value_at, quoted, quoted_in, all_set, is_limit}
use Rattle.bump_model.specs.Sides.{worth, rungs_of}

-- what asks compute, in order, and the state after them
pub record Asking : Type 0 where
  pub calls : List (ℕ × Outcome)
  pub next : State

-- no ask
abbrev pub none : State → Asking
none s = record { calls = []; next = s }

-- one ask
abbrev pub ask_of : Calc → ℕ → State → Asking
ask_of calc o s = record { calls = runs calc s o; next = asked calc o s }

-- asks, and others behind them
abbrev pub then_ask : Asking → (State → Asking) → Asking
then_ask first others =
    record { calls = first.calls ++ (others first.next).calls; next = (others first.next).next }

-- those for each of these, in order
unfoldable pub each_asking : {A : Type 0} → (A → State → Asking) → List A → State → Asking
each_asking ask [] s = none s
each_asking ask (x ∷ others) s = then_ask (ask x s) (each_asking ask others)

-- one side of a rung: the quotes are moved and the object is asked for, unless one of them would pass the limit
abbrev pub side_asking : Calc → ℕ → ℤ → List Quoted → State → Asking
side_asking calc o shift group s =
    if is_limit shift group then none s else ask_of calc o (all_set (moved shift) group s)

-- both sides
abbrev pub sides_asking : Calc → ℤ → ℕ → List Quoted → State → Asking
sides_asking calc size o group s = then_ask (side_asking calc o size group s) (side_asking calc o (neg_ℤ size) group)

-- a rung: both sides, then its quotes are set back, which asks for nothing
unfoldable pub rung_asking : Calc → ℤ → ℕ → List Quoted → State → Asking
rung_asking calc size o group s = record {
  calls = (sides_asking calc size o group s).calls;
  next = all_set (λ value. value) group (sides_asking calc size o group s).next;
}

-- the rung of a quote that has this value: nothing is asked for where it has none
abbrev pub asking_for : Calc → ℤ → ℕ → ℕ → Option ℤ → State → Asking
asking_for calc size o q None s = none s
asking_for calc size o q (Some value) s = rung_asking calc size o (quoted q value ∷ []) s

-- the rung of one quote, or of these together, by their values in a market
abbrev pub bump_asking : Calc → ℤ → Market → ℕ → Bump → State → Asking
bump_asking calc size market o (One q) s = asking_for calc size o q (value_at market q) s
bump_asking calc size market o (Together label quotes) s = rung_asking calc size o (quoted_in market quotes) s

-- all rungs
unfoldable pub rungs_asking : Calc → ℤ → Market → ℕ → List Bump → State → Asking
rungs_asking calc size market o [] s = none s
rungs_asking calc size market o (bump ∷ bumps) s =
    then_ask (bump_asking calc size market o bump s) (rungs_asking calc size market o bumps)

-- no rung is asked for where the base is refused
abbrev pub behind_base : Calc → ℤ → Market → ℕ → List Bump → Result ℤ Cause → State → Asking
behind_base calc size market o bumps (Ok base) s = rungs_asking calc size market o bumps s
behind_base calc size market o bumps (Err cause) s = none s

unfoldable pub ladder_asking : Calc → ℤ → ℕ → List Bump → State → Asking
ladder_asking calc size o bumps s =
    then_ask (ask_of calc o s) (behind_base calc size s.market o bumps (worth calc s.market o))

-- WHAT A LADDER ANSWERS: the base where the instrument is worth something, each rung, and how many computations were
-- made; else the cause. Want of memory says nothing.
pub record IsLadder (calc : Calc) (size : ℤ) (o : ℕ) (bumps : List Bump) (s : State) (answer : ladder.Ladder) : Type 0 where
  pub base : worth calc s.market o ≡ Ok answer.base
  pub rungs : answer.rungs ≡ rungs_of calc size s.market o answer.base bumps
  pub runs : answer.runs ≡ length (ladder_asking calc size o bumps s).calls

pub record IsRefused (calc : Calc) (size : ℤ) (o : ℕ) (bumps : List Bump) (s : State) (cause : Cause) (count : ℕ) : Type 0 where
  pub base : worth calc s.market o ≡ Err cause
  pub runs : count ≡ length (ladder_asking calc size o bumps s).calls

abbrev pub Answers : Calc → ℤ → ℕ → List Bump → State → Result ladder.Ladder LadderFault → Type 0
Answers calc size o bumps s (Ok answer) = IsLadder calc size o bumps s answer
Answers calc size o bumps s (Err (Base cause count)) = IsRefused calc size o bumps s cause count
Answers calc size o bumps s (Err NoMemory) = Unit {0}

-- THESE CALLS OF THE BENCH were made, and no other
pub record Made (calls : List (ℕ × Outcome)) (count_old count_new : ℕ) (log_old log_new : Option (List (ℕ × Bool))) : Type 0 where
  pub count : count_new ≡ counted count_old (length calls)
  pub log : log_new ≡ logged log_old (log_of calls)

-- A front of these calls was made, where memory ran out. Where the bench itself ran out of memory, it counts one call
-- more.
pub record MadeFront (calls : List (ℕ × Outcome)) (count_old count_new : ℕ) (log_old log_new : Option (List (ℕ × Bool))) : Type 0 where
  pub front : List (ℕ × Outcome)
  pub rest : List (ℕ × Outcome)
  pub whole : calls ≡ front ++ rest
  pub count : (count_new ≡ counted count_old (length front)) ⊎ ((rest ≢ []) × (count_new ≡ counted count_old (length front + 1)))
  pub log : log_new ≡ logged log_old (log_of front)

-- where a step ended, by whether memory ran out in it
abbrev pub Asks : {A E : Type 0} → Asking → Result A E → State → ℕ → ℕ → Option (List (ℕ × Bool)) → Option (List (ℕ × Bool)) → Type 0
Asks asking (Ok x) new count_old count_new log_old log_new =
    (new ≡ asking.next) × Made asking.calls count_old count_new log_old log_new
Asks asking (Err e) new count_old count_new log_old log_new = MadeFront asking.calls count_old count_new log_old log_new

-- the same of a whole ladder: its base may be refused
abbrev pub Ends : {A : Type 0} → Asking → Result A LadderFault → State → ℕ → ℕ → Option (List (ℕ × Bool)) → Option (List (ℕ × Bool)) → Type 0
Ends asking (Ok x) new count_old count_new log_old log_new =
    (new ≡ asking.next) × Made asking.calls count_old count_new log_old log_new
Ends asking (Err (Base cause count)) new count_old count_new log_old log_new =
    (new ≡ asking.next) × Made asking.calls count_old count_new log_old log_new
Ends asking (Err NoMemory) new count_old count_new log_old log_new = MadeFront asking.calls count_old count_new log_old log_new

-- the bench was called for exactly these, or for a front of them where memory ran out
abbrev pub Calls : {A E : Type 0} → List (ℕ × Outcome) → Result A E → ℕ → ℕ → Option (List (ℕ × Bool)) → Option (List (ℕ × Bool)) → Type 0
Calls calls (Ok x) count_old count_new log_old log_new = Made calls count_old count_new log_old log_new
Calls calls (Err e) count_old count_new log_old log_new = MadeFront calls count_old count_new log_old log_new
