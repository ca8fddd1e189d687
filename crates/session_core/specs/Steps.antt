-- What one command does, whether it ends or memory runs out in it.
use Rattle.std.specs.Prelude.{◌≡◌, ◌≢◌, ◌⊎◌, ◌++◌, ◌+◌, ◌≤◌, ℕ, Bool, true, false, List, [], ◌∷◌, length, take, slice_set, Option, Some, Result, Ok, Err, IsOk}
use Rattle.desk_terms.specs.declared.terms.Terms.{Terms}
use Rattle.desk_terms.specs.Reading.{Outcome, Calc}
use Rattle.desk_terms.specs.Bench.{counted, logged}
use Rattle.desk_model.specs.State.{State}
use Rattle.desk_model.specs.Visit.{stored}
use Rattle.desk_model.specs.Effect as effect
use Rattle.session_commands.specs.declared.command.Command.{Command}
use Rattle.session_commands.specs.declared.refusal.Refusal.{Refusal}
use Rattle.session_core.specs.declared.fault.MakeFault.{MakeFault}
use Rattle.session_core.specs.declared.fault.MakeFault.TheVariants.{Refused, NoMemory}
use Rattle.session_model.specs.declared.act.Act.{Act}
use Rattle.session_model.specs.declared.act.Act.TheVariants as act
use Rattle.session_model.specs.Pricing.{pricing_of}
use Rattle.session_model.specs.Standing.{Standing}
use Rattle.session_model.specs.Resolve.{resolve}
use Rattle.session_model.specs.Turn.{Turn, turn, effect_of}

-- another state of the objects
abbrev pub with_state : State → Standing → Standing
with_state state p = record p { state = state }

-- one object more, which has this name and these terms
abbrev pub with_object : ℕ → Terms → Standing → Standing
with_object name terms p = record p { state = effect.made terms p.state; of_object = p.of_object ++ name ∷ [] }

-- one watcher more, which has this name and this action
abbrev pub with_watcher : ℕ → ℕ → Standing → Standing
with_watcher name action p = record p {
  state = effect.watching p.state;
  of_object = p.of_object ++ name ∷ [];
  watching = slice_set p.watching name (Some action);
}

abbrev Log : Type 0
Log = Option (List (ℕ × Bool))

-- The next session, the lines appended and the computations are those of a turn: what a bench tells of its calls has
-- grown by them, in their order.
pub record Does (t : Turn) (new : Standing) (lines_old lines_new : List ℕ) (count_old count_new : ℕ)
    (log_old log_new : Option (List (ℕ × Bool))) : Type 0 where
  pub next : new ≡ t.next
  pub written : lines_new ≡ lines_old ++ t.lines
  pub count : count_new ≡ counted count_old (length t.calls)
  pub log : log_new ≡ logged log_old t.calls

-- The turn was done but for its line, which found no memory: the state is the next one.
pub record LacksLine (t : Turn) (ended : ℕ) (state : State) : Type 0 where
  pub line : t.lines ≢ []
  pub all : ended ≡ length t.calls
  pub done : state ≡ t.next.state

-- Memory ran out in a turn: a front of its computations was begun, and all of these ended but the last one at most; no
-- byte of its line was appended. The stored values are those that the ended ones left, of those that may stay, or its
-- line alone is lacking; and all else is as it was.
pub record Ends (t : Turn) (survivors : List (ℕ × Outcome)) (old new : Standing) (lines_old lines_new : List ℕ)
    (count_old count_new : ℕ) (log_old log_new : Option (List (ℕ × Bool))) : Type 0 where
  pub begun : ℕ
  pub ended : ℕ
  pub most : begun ≤ length t.calls
  pub last : (ended ≤ begun) × (begun ≤ ended + 1)
  pub count : count_new ≡ counted count_old begun
  pub log : log_new ≡ logged log_old (take ended t.calls)
  pub written : lines_new ≡ lines_old
  pub state : (new.state ≡ stored old.state (take ended survivors)) ⊎ LacksLine t ended new.state
  pub others : new ≡ record old { state = new.state; stopped = new.stopped }

-- the computations of an act, each with its outcome, of which the values stay where memory runs out in it
abbrev pub act_survivors : Calc → State → Act → List (ℕ × Outcome)
act_survivors calc s (act.Make name terms) = []
act_survivors calc s (act.Watch name action) = []
act_survivors calc s (act.Quiet change) = []
act_survivors calc s (act.Grow growth) = []
act_survivors calc s (act.Price name object how) = (pricing_of calc object s how).survivors

-- acts that take no memory and write no line: memory never runs out in them
abbrev pub takes_no_memory : Act → Bool
takes_no_memory (act.Make name terms) = false
takes_no_memory (act.Watch name action) = false
takes_no_memory (act.Quiet change) = true
takes_no_memory (act.Grow growth) = false
takes_no_memory (act.Price name object how) = false

-- the same of what a command resolves to: a refused one writes a line
abbrev pub is_without_memory : Result Act Refusal → Bool
is_without_memory (Err refusal) = false
is_without_memory (Ok a) = takes_no_memory a

abbrev pub survivors_of : Calc → State → Result Act Refusal → List (ℕ × Outcome)
survivors_of calc s (Err refusal) = []
survivors_of calc s (Ok a) = act_survivors calc s a

-- an act does what the definition says
abbrev pub Carries : Calc → Act → Standing → Standing → List ℕ → List ℕ → ℕ → ℕ → Option (List (ℕ × Bool))
    → Option (List (ℕ × Bool)) → Type 0
Carries calc a old new lines_old lines_new count_old count_new log_old log_new =
    Does (effect_of calc old a) new lines_old lines_new count_old count_new log_old log_new

abbrev pub BreaksOff : Calc → Act → Standing → Standing → List ℕ → List ℕ → ℕ → ℕ → Option (List (ℕ × Bool))
    → Option (List (ℕ × Bool)) → Type 0
BreaksOff calc a old new lines_old lines_new count_old count_new log_old log_new =
    Ends (effect_of calc old a) (act_survivors calc old.state a) old new lines_old lines_new count_old count_new
    log_old log_new

-- A COMMAND DOES ITS TURN
abbrev pub Acts : Calc → Command → Standing → Standing → List ℕ → List ℕ → ℕ → ℕ → Option (List (ℕ × Bool))
    → Option (List (ℕ × Bool)) → Type 0
Acts calc c old new lines_old lines_new count_old count_new log_old log_new =
    Does (turn calc old c) new lines_old lines_new count_old count_new log_old log_new

-- MEMORY RUNS OUT IN IT
abbrev pub Halts : Calc → Command → Standing → Standing → List ℕ → List ℕ → ℕ → ℕ → Option (List (ℕ × Bool))
    → Option (List (ℕ × Bool)) → Type 0
Halts calc c old new lines_old lines_new count_old count_new log_old log_new =
    Ends (turn calc old c) (survivors_of calc old.state (resolve old c)) old new lines_old lines_new count_old
    count_new log_old log_new

-- An object is made where the definition makes it, and refused where it refuses; memory is wanted only where it is not
-- refused.
abbrev pub AnswersMake : Result Act Refusal → Result ℕ MakeFault → Type 0
AnswersMake wanted (Ok object) = IsOk wanted
AnswersMake wanted (Err (Refused refusal)) = wanted ≡ Err refusal
AnswersMake wanted (Err NoMemory) = IsOk wanted
