-- What a run leaves outside where it ends early: so many whole rounds, and a part of the next one.
use Rattle.std.specs.Prelude.{◌≡◌, ◌+◌, ◌<◌, ◌≤◌, ℕ, Bool, List, [], ◌++◌, length, take, drop, Option}
use Rattle.desk_edge.specs.Sink.{appended}
use Rattle.desk_terms.specs.Bench.{counted, logged}
use Rattle.desk_terms.specs.Reading.{Calc}
use Rattle.session_model.specs.Course.{Course}
use Rattle.session_model.specs.Rounds.{lines_of, calls_in}
use Rattle.session_model.specs.Moments.{Moment}
use Rattle.session_rounds.specs.Stopped.{HaltsIn}

-- what is seen from outside: the bytes that the sink took, and the count and the log of the bench
pub record Outside : Type 0 where
  pub bytes : Option (List ℕ)
  pub count : ℕ
  pub log : Option (List (ℕ × Bool))

abbrev pub outside : Option (List ℕ) → ℕ → Option (List (ℕ × Bool)) → Outside
outside bytes count log = record { bytes = bytes; count = count; log = log }

-- the round after these many, alone, where there is one
abbrev pub next_of : {P : Type 0} → ℕ → List (Course P) → List (Course P)
next_of whole courses = take 1 (drop whole courses)

-- A write failed: the lines of the whole rounds were written, and the first bytes of the next one's, fewer than all. The
-- computations of all these rounds were made, those of the next one too.
pub record IsCut {P : Type 0} (courses : List (Course P)) (old new : Outside) : Type 0 where
  pub whole : ℕ
  pub part : ℕ
  pub short : part < length (lines_of (next_of whole courses))
  pub bytes : new.bytes ≡ appended (lines_of (take whole courses) ++ take part (lines_of (next_of whole courses))) old.bytes
  pub count : new.count ≡ counted old.count (length (calls_in (take (whole + 1) courses)))
  pub log : new.log ≡ logged old.log (calls_in (take (whole + 1) courses))

-- Memory ran out: the lines of the whole rounds were written, and a front of the next one's. The computations of the whole
-- rounds were made, and of those of the next one so many were begun and so many ended.
pub record IsHalted {P : Type 0} (courses : List (Course P)) (old new : Outside) : Type 0 where
  pub whole : ℕ
  pub part : ℕ
  pub within : part ≤ length (lines_of (next_of whole courses))
  pub begun : ℕ
  pub ended : ℕ
  pub most : begun ≤ length (calls_in (next_of whole courses))
  pub last : (ended ≤ begun) × (begun ≤ ended + 1)
  pub bytes : new.bytes ≡ appended (lines_of (take whole courses) ++ take part (lines_of (next_of whole courses))) old.bytes
  pub count : new.count ≡ counted old.count (length (calls_in (take whole courses)) + begun)
  pub log : new.log ≡ logged old.log (calls_in (take whole courses) ++ take ended (calls_in (next_of whole courses)))

-- MEMORY RAN OUT IN ONE OF THESE MOMENTS: all that those before it told was written, and what stands of that one.
pub record IsToldSoFar (calc : Calc) (moments : List Moment) (old new : Outside) : Type 0 where
  pub told : List ℕ
  pub halts : HaltsIn calc moments (record { lines = []; count = old.count; log = old.log })
      (record { lines = told; count = new.count; log = new.log })
  pub bytes : new.bytes ≡ appended told old.bytes
