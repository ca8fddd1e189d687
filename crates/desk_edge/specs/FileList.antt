-- The files of a list, by their places.
use Rattle.std.specs.Prelude.{ℕ, List, [], slice_index_or}

-- the bytes of the file at this place, and none where the list ends before it
abbrev pub bytes_of : List (List ℕ × List ℕ) → ℕ → List ℕ
bytes_of files at = (slice_index_or files at ([], [])).1
