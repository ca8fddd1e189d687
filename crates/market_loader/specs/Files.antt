-- What the whole read of one file gives, and how often a shelf is called for it (this project's profile).
use Rattle.std.specs.Prelude.{ℕ, ◌+◌, nat_lt, min, length, List, if◌then◌else◌, Option, None, Some, Result, Ok, Err}
use Rattle.desk_edge.specs.Shelf.{most_bytes, file_at}
use Rattle.market_loader.specs.declared.faults.FileFault.{FileFault}
use Rattle.market_loader.specs.declared.faults.FileFault.TheVariants.{Absent, TooLong}

-- files by path; of several with a path the first counts
abbrev pub Files : Type 0
Files = List (List ℕ × List ℕ)

-- a file that is to be there, and no longer than the most bytes
abbrev pub file_in : Option (List ℕ) → Result (List ℕ) FileFault
file_in None = Err Absent
file_in (Some text) = if nat_lt most_bytes (length text) then Err TooLong else Ok text

-- the most calls of a shelf for the whole of a file: one to look for it, and where it is there one for each byte that
-- is kept of it, and one for its end or for the bytes that are too many
abbrev pub calls_in : Option (List ℕ) → ℕ
calls_in None = 1
calls_in (Some text) = min (length text) most_bytes + 2

-- the file at a path
abbrev pub file_of : List ℕ → Files → Result (List ℕ) FileFault
file_of path files = file_in (file_at files path)

abbrev pub file_calls : List ℕ → Files → ℕ
file_calls path files = calls_in (file_at files path)
