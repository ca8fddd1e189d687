-- What a shelf of files holds, where it tells that, and what its calls make of it.
use Rattle.std.specs.Prelude.{◌≡◌, ◌+◌, ◌<◌, ℕ, Bool, true, false, List, [], ◌∷◌, ◌++◌, length, take, drop, unwrap_or, if◌then◌else◌, Option, None, Some, Result, Ok, Err}
use Rattle.std.specs.Option.{option_map}
use Rattle.std.specs.Str.{bytes_eq}
use Rattle.desk_edge.specs.Count.{raised}
use Rattle.desk_edge.specs.declared.reading.ReadFault.{ReadFault}
use Rattle.desk_edge.specs.declared.reading.ReadFault.TheVariants.{Failed, TooLong, NoMemory}
use Rattle.text_limits.specs.declared.limit.TheConstants.{MOST_BYTES}

-- the files of a shelf, as pairs of a path and its bytes, and what is left of the file begun: nothing where none was (this project's profile)
pub record Contents : Type 0 where
  pub files : List (List ℕ × List ℕ)
  pub rest : List ℕ

-- the bytes of the first file with this path (this project's profile: of several files with a path the first counts)
abbrev pub file_at : List (List ℕ × List ℕ) → List ℕ → Option (List ℕ)
file_at [] path = None
file_at (file ∷ files) path = if bytes_eq file.0 path then Some file.1 else file_at files path

-- the bytes of that file, and none where there is no such file
abbrev pub bytes_at : List (List ℕ × List ℕ) → List ℕ → List ℕ
bytes_at files path = unwrap_or (file_at files path) []

-- the files alone, where the contents are told
abbrev pub files_of : Option Contents → Option (List (List ℕ × List ℕ))
files_of told = option_map (λ (c : Contents). c.files) told

-- the contents where the file with this path is begun at its first byte, or none is begun where there is none
abbrev pub begun : List ℕ → Contents → Contents
begun path c = record c { rest = bytes_at c.files path }

-- the contents where the place in the file begun is moved on by so many bytes
abbrev pub passed : ℕ → Contents → Contents
passed count c = record c { rest = drop count c.rest }

-- the contents where these bytes stand before what is left, where they are told
abbrev pub put_back : List ℕ → Option Contents → Option Contents
put_back bytes told = option_map (λ (c : Contents). record c { rest = bytes ++ c.rest }) told

-- the file with this path was begun, and so many bytes of it were taken
abbrev pub Took : ℕ → List ℕ → Option Contents → Option Contents → Type 0
Took count path old new = new ≡ option_map (λ (c : Contents). passed count (begun path c)) old

-- these bytes are the first of those
abbrev pub IsFront : List ℕ → List ℕ → Type 0
IsFront front whole = take (length front) whole ≡ front

-- the most bytes of a file that is read whole: 8 MiB (this project's profile)
abbrev pub most_bytes : ℕ
most_bytes = MOST_BYTES

-- what the answer of a whole read of a path, and the bytes that it gives, say of the files (this project's profile)
abbrev pub Reads : List (List ℕ × List ℕ) → List ℕ → Result Bool ReadFault → List ℕ → Type 0
Reads files path (Ok true) bytes = file_at files path ≡ Some bytes
Reads files path (Ok false) bytes = (file_at files path ≡ None) × (bytes ≡ [])
Reads files path (Err TooLong) bytes = (file : List ℕ) × (file_at files path ≡ Some file) × (most_bytes < length file) × IsFront bytes file
Reads files path (Err Failed) bytes = IsFront bytes (bytes_at files path)
Reads files path (Err NoMemory) bytes = IsFront bytes (bytes_at files path)

-- what a whole read leaves of the file: nothing after an answer, and after TooLong all but one byte more than the most
abbrev pub Leaves : List ℕ → Result Bool ReadFault → Contents → Type 0
Leaves path (Ok found) c = c.rest ≡ []
Leaves path (Err TooLong) c = c.rest ≡ drop (most_bytes + 1) (bytes_at c.files path)
Leaves path (Err Failed) c = Unit {0}
Leaves path (Err NoMemory) c = Unit {0}

-- the count of faults after a whole read, or a step of one: a call that failed is its answer, and is counted once
abbrev pub faults_after : {T : Type 0} → Result T ReadFault → ℕ → ℕ
faults_after (Ok found) faults = faults
faults_after (Err Failed) faults = raised faults
faults_after (Err TooLong) faults = faults
faults_after (Err NoMemory) faults = faults
