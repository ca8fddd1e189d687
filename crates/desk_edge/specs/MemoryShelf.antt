-- A shelf in memory: what it holds, and what each call answers and leaves.
use Rattle.std.specs.Prelude.{ℕ, Bool, List, min, length, is_some, if◌then◌else◌, Result, Ok, Err}
use Rattle.desk_edge.specs.CallList.{fails_next}
use Rattle.desk_edge.specs.Count.{raised}
use Rattle.desk_edge.specs.Shelf.{Contents, file_at, begun, passed}
use Rattle.desk_edge.specs.declared.shelf.Failed.{Failed}

-- a shelf in memory: its contents, the most bytes that a call gives, the numbers of the calls that fail, and its counts (this project's profile)
pub record ShelfState : Type 0 where
  pub contents : Contents
  pub most : ℕ
  pub fails : List ℕ
  pub calls : ℕ
  pub faults : ℕ
  pub misses : ℕ

-- a shelf after a call that fails
abbrev pub refused : ShelfState → ShelfState
refused s = record s { calls = raised s.calls; faults = raised s.faults }

-- whether a file has the path
abbrev pub has_file : ShelfState → List ℕ → Bool
has_file s path = is_some (file_at s.contents.files path)

-- what find answers (this project's profile)
abbrev pub find_answer : ShelfState → List ℕ → Result Bool Failed
find_answer s path = if fails_next s.fails s.calls then Err (record {}) else Ok (has_file s path)

-- a shelf after find
abbrev pub after_find : ShelfState → List ℕ → ShelfState
after_find s path =
    if fails_next s.fails s.calls then refused s
    else record s { contents = begun path s.contents; calls = raised s.calls; misses = (if has_file s path then s.misses else raised s.misses) }

-- how many bytes a call gives, where there is room for so many
abbrev pub given : ShelfState → ℕ → ℕ
given s room = min (min room s.most) (length s.contents.rest)

-- what take answers (this project's profile)
abbrev pub take_answer : ShelfState → ℕ → Result ℕ Failed
take_answer s room = if fails_next s.fails s.calls then Err (record {}) else Ok (given s room)

-- a shelf after take
abbrev pub after_take : ShelfState → ℕ → ShelfState
after_take s room =
    if fails_next s.fails s.calls then refused s
    else record s { contents = passed (given s room) s.contents; calls = raised s.calls }
