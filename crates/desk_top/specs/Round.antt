-- What the play of one round leaves outside, by how it ended.
use Rattle.std.specs.Prelude.{◌≡◌, ◌+◌, ◌<◌, ◌≤◌, ℕ, Bool, List, length, take, Result, Ok, Err}
use Rattle.desk_edge.specs.Sink.{appended}
use Rattle.desk_terms.specs.Bench.{counted, logged}
use Rattle.session_model.specs.Course.{Running, Course}
use Rattle.desk_top.specs.Summary.{Tally, with_bytes}
use Rattle.tool_script.specs.declared.status.Status.{Status}
use Rattle.tool_script.specs.declared.status.Status.TheVariants.{Done, Usage, Market, Script, ReadFault, WriteFault, NoMemory, Absent}
use Rattle.desk_top.specs.Early.{Outside}

-- its computations were made, and its lines written
pub record IsPlayed {P : Type 0} (t : Course P) (old new : Outside) : Type 0 where
  pub bytes : new.bytes ≡ appended t.lines old.bytes
  pub count : new.count ≡ counted old.count (length t.calls)
  pub log : new.log ≡ logged old.log t.calls

-- its computations were made, and a front of its lines written, not all
pub record IsUnwritten {P : Type 0} (t : Course P) (old new : Outside) : Type 0 where
  pub part : ℕ
  pub short : part < length t.lines
  pub bytes : new.bytes ≡ appended (take part t.lines) old.bytes
  pub count : new.count ≡ counted old.count (length t.calls)
  pub log : new.log ≡ logged old.log t.calls

-- memory ran out in it, and a front of its lines was written
pub record IsStopped {P : Type 0} (t : Course P) (old new : Outside) : Type 0 where
  pub part : ℕ
  pub within : part ≤ length t.lines
  pub begun : ℕ
  pub ended : ℕ
  pub most : begun ≤ length t.calls
  pub last : (ended ≤ begun) × (begun ≤ ended + 1)
  pub bytes : new.bytes ≡ appended (take part t.lines) old.bytes
  pub count : new.count ≡ counted old.count begun
  pub log : new.log ≡ logged old.log (take ended t.calls)

abbrev pub RoundEnds : {P A : Type 0} → Course P → Result A Status → Outside → Outside → Type 0
RoundEnds t (Ok x) old new = IsPlayed t old new
RoundEnds t (Err WriteFault) old new = IsUnwritten t old new
RoundEnds t (Err NoMemory) old new = IsStopped t old new
RoundEnds t (Err Done) old new = ⊥
RoundEnds t (Err Usage) old new = ⊥
RoundEnds t (Err (Market section entry why)) old new = ⊥
RoundEnds t (Err (Script line why)) old new = ⊥
RoundEnds t (Err ReadFault) old new = ⊥
RoundEnds t (Err (Absent role)) old new = ⊥

-- memory ran out while these computations were made: so many were begun, and so many ended; nothing was written
pub record StopsWithin (calls : List (ℕ × Bool)) (old new : Outside) : Type 0 where
  pub begun : ℕ
  pub ended : ℕ
  pub most : begun ≤ length calls
  pub last : (ended ≤ begun) × (begun ≤ ended + 1)
  pub bytes : new.bytes ≡ old.bytes
  pub count : new.count ≡ counted old.count begun
  pub log : new.log ≡ logged old.log (take ended calls)

-- a round was done and its lines counted: the session and the tally after it, and its computations made
pub record IsCounted {P : Type 0} (t : Course P) (session : Running P) (kept tally : Tally) (old new : Outside) : Type 0 where
  pub next : session ≡ t.next
  pub lines : tally ≡ with_bytes kept t.lines
  pub count : new.count ≡ counted old.count (length t.calls)
  pub log : new.log ≡ logged old.log t.calls
