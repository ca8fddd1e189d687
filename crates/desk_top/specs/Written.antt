-- What is written, by the status with which it ends.
use Rattle.std.specs.Prelude.{◌≡◌, ℕ, List, take, Option, Result, Ok, Err}
use Rattle.desk_edge.specs.Sink.{appended}
use Rattle.tool_script.specs.declared.status.Status.{Status}
use Rattle.tool_script.specs.declared.status.Status.TheVariants.{Done, WriteFault, NoMemory}

-- a status that may come while the commands are done
abbrev pub IsLate : Status → Type 0
IsLate WriteFault = Unit {0}
IsLate NoMemory = Unit {0}
IsLate status = ⊥

-- What was written, where it is told: all at Done, a front of it after a fault of writing or want of memory, and
-- nothing else.
abbrev pub Writes : Option (List ℕ) → Option (List ℕ) → List ℕ → Status → Type 0
Writes old new whole Done = new ≡ appended whole old
Writes old new whole WriteFault = (n : ℕ) × (new ≡ appended (take n whole) old)
Writes old new whole NoMemory = (n : ℕ) × (new ≡ appended (take n whole) old)
Writes old new whole status = new ≡ old

-- the status of a call that may end early
abbrev pub ended : {A : Type 0} → Result A Status → Status
ended (Ok x) = Done
ended (Err status) = status
