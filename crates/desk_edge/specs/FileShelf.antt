-- A shelf over the system's files: whether a file is begun, and what its calls leave.
use Rattle.std.specs.Prelude.{◌≡◌, ◌≢◌, ℕ, Bool, List, false, true, Option, None, Some, is_some, Result, Ok, Err}
use Rattle.std.specs.IoError.{error_kind}
use Rattle.std.specs.declared.io.Error.{Error}
use Rattle.std.specs.declared.io.ErrorKind.TheVariants.{NotFound}
use Rattle.desk_edge.specs.Count.{raised}
use Rattle.desk_edge.specs.declared.shelf.Failed.{Failed}

-- a shelf over files: what the reader of the file begun has left, where one is begun and its reader tells that, and
-- the counts (this project's profile)
pub record FilesState : Type 0 where
  pub begun : Option (Option (List ℕ))
  pub faults : ℕ
  pub misses : ℕ

-- what find leaves: a file is begun exactly where it was found; a miss or a fault is counted, and leaves none begun
abbrev pub IsFound : Result Bool Failed → FilesState → FilesState → Type 0
IsFound (Ok true) old new = (is_some new.begun ≡ true) × (new.faults ≡ old.faults) × (new.misses ≡ old.misses)
IsFound (Ok false) old new = new ≡ record { begun = None; faults = old.faults; misses = raised old.misses }
IsFound (Err fault) old new = new ≡ record { begun = None; faults = raised old.faults; misses = old.misses }

-- what the system's answer to an open means: its file, a miss exactly where the system says that it found none, and a
-- fault after any other error (this project's profile)
abbrev pub Opens : {F : Type 0} → Result F Error → Result (Option F) Failed → Type 0
Opens (Ok file) answer = answer ≡ Ok (Some file)
Opens (Err error) answer = (error_kind error ≡ NotFound → answer ≡ Ok None) × (error_kind error ≢ NotFound → answer ≡ Err (record {}))
