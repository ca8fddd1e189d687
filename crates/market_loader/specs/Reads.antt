-- What a reading of files answers, and what it leaves of the shelf.
use Rattle.std.specs.Prelude.{◌≡◌, ◌⊎◌, ◌≤◌, ◌+◌, ℕ, Option, Result, Ok, Err, IfSome, IfErr}
use Rattle.desk_edge.specs.Count.{Rose, raised}
use Rattle.desk_edge.specs.Shelf.{Contents, files_of}
use Rattle.market_loader.specs.Ends.{End, Refused, Missing, Failed, Halted}
use Rattle.market_loader.specs.Files.{Files}

-- a shelf as contracts see it: its files where they are told, and its counts
pub record Seen : Type 0 where
  pub files : Option Files
  pub faults : ℕ
  pub misses : ℕ
  pub calls : ℕ

abbrev pub seen : Option Contents → ℕ → ℕ → ℕ → Seen
seen contents faults misses calls =
    record { files = files_of contents; faults = faults; misses = misses; calls = calls }

-- an end that the files do not decide: a call of the shelf that failed, or want of memory
abbrev pub IsOutside : End → Type 0
IsOutside Refused = ⊥
IsOutside Missing = ⊥
IsOutside Failed = Unit {0}
IsOutside Halted = Unit {0}

-- the answer, seen by view, is this, but for a call of the shelf that failed or want of memory
abbrev pub Tells : {E X Y : Type 0} → (E → End) → (X → Y) → Result X E → Result Y E → Type 0
Tells end view (Ok x) told = told ≡ Ok (view x)
Tells end view (Err e) told = IsOutside (end e) ⊎ (told ≡ Err e)

-- the count of faults after a step of reading: a call that failed is its answer, and is counted once
abbrev pub faults_at : End → ℕ → ℕ
faults_at Refused faults = faults
faults_at Missing faults = faults
faults_at Failed faults = raised faults
faults_at Halted faults = faults

abbrev pub faults_after : {E X : Type 0} → (E → End) → Result X E → ℕ → ℕ
faults_after end (Ok x) faults = faults
faults_after end (Err e) faults = faults_at (end e) faults

-- FILES WERE READ: the answer, seen by view, is what the definition tells of them, and the shelf was called no more than
-- so many times. The files stay, and an absent file was counted. A call of the shelf that failed is the answer, and was
-- counted once: since any call may fail, none was made behind it.
pub record Reads {E X Y : Type 0} (end : E → End) (view : X → Y) (meaning : Files → Result Y E) (most : Files → ℕ) (old new : Seen) (result : Result X E) : Type 0 where
  pub tells : IfSome old.files (λ files. Tells end view result (meaning files))
  pub calls : IfSome old.files (λ files. new.calls ≤ old.calls + most files)
  pub files : new.files ≡ old.files
  pub read : IfErr result (λ e. end e ≡ Failed → Rose old.faults new.faults)
  pub absent : IfErr result (λ e. end e ≡ Missing → Rose old.misses new.misses)
  pub counted : new.faults ≡ faults_after end result old.faults
  pub faults : old.faults ≤ new.faults
  pub misses : old.misses ≤ new.misses

-- what this end says of an answer that is not taken from a shelf
abbrev pub IsRefusedAs : {E Y : Type 0} → End → E → Result Y E → Type 0
IsRefusedAs Refused e told = told ≡ Err e
IsRefusedAs Missing e told = ⊥
IsRefusedAs Failed e told = ⊥
IsRefusedAs Halted e told = Unit {0}

-- the answer of a text that was read, seen by view, is this, but for want of memory
abbrev pub Says : {E X Y : Type 0} → (E → End) → (X → Y) → Result X E → Result Y E → Type 0
Says end view (Ok x) told = told ≡ Ok (view x)
Says end view (Err e) told = IsRefusedAs (end e) e told
