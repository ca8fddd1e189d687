-- What a run does, over what a tool gives: what its words ask for, what its files say, its text, its computations (this
-- project's profile). A tool has a type of what words ask for, one of what is wanted once files are read, and a status.
use Rattle.std.specs.Prelude.{◌≡◌, ◌⊎◌, ℕ, List, [], Option, None, Some, IsSome, Result, Ok, Err}
use Rattle.desk_edge.specs.Shelf.{file_at}
use Rattle.market_loader.specs.Files.{Files}
use Rattle.tool_frame.specs.Stage.{Stage, IsOutside, faults_then}

-- what is to be done for words that may be no request, or the status with which it is refused
abbrev pub asked : {Request Wanted Status : Type 0} → Status → (Request → Files → Result Wanted Status) → Option Request → Files → Result Wanted Status
asked usage wanted_of None files = Err usage
asked usage wanted_of (Some request) files = wanted_of request files

-- the most calls of a shelf for them: none where they are no request
abbrev pub calls_for : {Request : Type 0} → (Request → Files → ℕ) → Option Request → Files → ℕ
calls_for most None files = 0
calls_for most (Some request) files = most request files

-- the words are a request, and the file that it is to begin with is there
abbrev pub IsThere : {Request : Type 0} → Option Request → (Request → List ℕ) → Files → Type 0
IsThere None path files = ⊥
IsThere (Some request) path files = IsSome (file_at files (path request))

-- the status of a verdict, where nothing fails outside
abbrev pub status_of : {Wanted Status : Type 0} → Status → Result Wanted Status → Status
status_of done (Ok wanted) = done
status_of done (Err status) = status

-- what is given for a verdict: nothing for one that is refused
abbrev pub given_for : {Wanted Status A : Type 0} → (Wanted → List A) → Result Wanted Status → List A
given_for give (Ok wanted) = give wanted
given_for give (Err status) = []

-- the words and the files are accepted
abbrev pub IsAccepted : {Wanted Status : Type 0} → Result Wanted Status → Type 0
IsAccepted (Ok wanted) = Unit {0}
IsAccepted (Err status) = ⊥

-- the same, and what is wanted has a property
abbrev pub IsAcceptedAs : {Wanted Status : Type 0} → (Wanted → Type 0) → Result Wanted Status → Type 0
IsAcceptedAs has (Ok wanted) = has wanted
IsAcceptedAs has (Err status) = ⊥

-- the answer of a reading, seen by view, is this verdict, but for a fault outside or want of memory
abbrev pub Tells : {Found Wanted Status : Type 0} → (Status → Stage) → (Found → Wanted) → Result Found Status → Result Wanted Status → Type 0
Tells stage view (Ok found) told = told ≡ Ok (view found)
Tells stage view (Err status) told = IsOutside (stage status) ⊎ (told ≡ Err status)

-- the count of faults of a shelf after a reading
abbrev pub faults_after : {Found Status : Type 0} → (Status → Stage) → Result Found Status → ℕ → ℕ
faults_after stage (Ok found) faults = faults
faults_after stage (Err status) faults = faults_then (stage status) faults
