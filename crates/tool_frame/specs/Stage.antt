-- How far a run of a tool came, whatever its status tells besides, and what it left outside (this project's profile).
use Rattle.std.specs.Prelude.{◌≡◌, ◌<◌, ℕ, Bool, List, length, take, Option}
use Rattle.desk_edge.specs.Count.{last_count, raised}
use Rattle.desk_edge.specs.Sink.{appended}
use Rattle.market_loader.specs.Ends.{End}
use Rattle.market_loader.specs.Ends as end

-- the text was written; the words, or what the files hold, are refused; there is no such file; a call of the shelf failed; the
-- text was not written to its end; memory ran out
pub data Stage : Type 0 where
  Done : Stage
  Refused : Stage
  Missing : Stage
  Failed : Stage
  Cut : Stage
  Halted : Stage

-- one that the words and files do not decide: a fault outside, or want of memory
abbrev pub IsOutside : Stage → Type 0
IsOutside Done = ⊥
IsOutside Refused = ⊥
IsOutside Missing = ⊥
IsOutside Failed = Unit {0}
IsOutside Cut = Unit {0}
IsOutside Halted = Unit {0}

-- one that comes before anything is computed or written: before the first command of a run
abbrev pub IsEarly : Stage → Type 0
IsEarly Done = ⊥
IsEarly Refused = Unit {0}
IsEarly Missing = Unit {0}
IsEarly Failed = Unit {0}
IsEarly Cut = ⊥
IsEarly Halted = ⊥

-- one that may end a run before its text is made
abbrev pub IsBefore : Stage → Type 0
IsBefore Done = ⊥
IsBefore Refused = Unit {0}
IsBefore Missing = Unit {0}
IsBefore Failed = Unit {0}
IsBefore Cut = ⊥
IsBefore Halted = Unit {0}

-- memory ran out
abbrev pub IsHalted : Stage → Type 0
IsHalted Done = ⊥
IsHalted Refused = ⊥
IsHalted Missing = ⊥
IsHalted Failed = ⊥
IsHalted Cut = ⊥
IsHalted Halted = Unit {0}

-- WHAT WAS WRITTEN, where it is told: all at Done; after a fault of writing a front, and not all; else nothing
abbrev pub Writes : Option (List ℕ) → Option (List ℕ) → List ℕ → Stage → Type 0
Writes old new whole Done = new ≡ appended whole old
Writes old new whole Cut = (n : ℕ) × (n < length whole) × (new ≡ appended (take n whole) old)
Writes old new whole Refused = new ≡ old
Writes old new whole Missing = new ≡ old
Writes old new whole Failed = new ≡ old
Writes old new whole Halted = new ≡ old

-- a bench's log, where it is told
abbrev pub Log : Type 0
Log = Option (List (ℕ × Bool))

-- WHAT THE BENCH WAS CALLED FOR: all of these where the text was made, also where writing it failed; a front of them where
-- memory ran out; else nothing
abbrev pub Computes : {Call : Type 0} → (Makes Begins : List Call → ℕ → ℕ → Log → Log → Type 0) → List Call → Stage → ℕ → ℕ → Log → Log → Type 0
Computes Makes Begins calls Done count_old count_new log_old log_new = Makes calls count_old count_new log_old log_new
Computes Makes Begins calls Cut count_old count_new log_old log_new = Makes calls count_old count_new log_old log_new
Computes Makes Begins calls Halted count_old count_new log_old log_new = Begins calls count_old count_new log_old log_new
Computes Makes Begins calls Refused count_old count_new log_old log_new = (count_new ≡ count_old) × (log_new ≡ log_old)
Computes Makes Begins calls Missing count_old count_new log_old log_new = (count_new ≡ count_old) × (log_new ≡ log_old)
Computes Makes Begins calls Failed count_old count_new log_old log_new = (count_new ≡ count_old) × (log_new ≡ log_old)

-- the count of faults of a shelf after a run: a call that failed is its answer, and is counted once
abbrev pub faults_then : Stage → ℕ → ℕ
faults_then Failed faults = raised faults
faults_then Done faults = faults
faults_then Refused faults = faults
faults_then Missing faults = faults
faults_then Cut faults = faults
faults_then Halted faults = faults

-- the count of faults of a sink after a run: a put that failed ended it, and is counted once
abbrev pub puts_then : Stage → ℕ → ℕ
puts_then Cut faults = raised faults
puts_then Done faults = faults
puts_then Refused faults = faults
puts_then Missing faults = faults
puts_then Failed faults = faults
puts_then Halted faults = faults

-- no fault was counted: the count is as it was, and below its last value
abbrev pub IsQuiet : ℕ → ℕ → Type 0
IsQuiet before now = (now ≡ before) × (before < last_count)

-- how a reading of files ended that has this stage; none has Done or Cut
abbrev pub stage_end : Stage → End
stage_end Refused = end.Refused
stage_end Missing = end.Missing
stage_end Failed = end.Failed
stage_end Halted = end.Halted
stage_end Done = end.Refused
stage_end Cut = end.Refused
