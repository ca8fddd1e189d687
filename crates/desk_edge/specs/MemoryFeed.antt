-- A feed in memory: what it holds, and what each call answers and leaves.
use Rattle.std.specs.Prelude.{ℕ, List, [], ◌∷◌, min, max, length, drop, if◌then◌else◌, Result, Ok, Err}
use Rattle.desk_edge.specs.CallList.{fails_next}
use Rattle.desk_edge.specs.Count.{raised}
use Rattle.desk_edge.specs.declared.shelf.Failed.{Failed}

-- a feed in memory: the bytes still to come, the sizes of the pieces still to come, the numbers of the calls that fail,
-- and its counts (this project's profile)
pub record FeedState : Type 0 where
  pub rest : List ℕ
  pub sizes : List ℕ
  pub fails : List ℕ
  pub calls : ℕ
  pub faults : ℕ

-- the most bytes of the next piece: its size, and one at least; where no size is left, all that there is room for
abbrev pub most_of : List ℕ → ℕ → ℕ
most_of [] room = room
most_of (size ∷ sizes) room = min room (max size 1)

-- how many bytes a call gives, where there is room for so many
abbrev pub given : FeedState → ℕ → ℕ
given s room = min (most_of s.sizes room) (length s.rest)

-- what take answers (this project's profile)
abbrev pub take_answer : FeedState → ℕ → Result ℕ Failed
take_answer s room = if fails_next s.fails s.calls then Err (record {}) else Ok (given s room)

-- a feed after take
abbrev pub after_take : FeedState → ℕ → FeedState
after_take s room =
    if fails_next s.fails s.calls then record s { calls = raised s.calls; faults = raised s.faults }
    else record s { rest = drop (given s room) s.rest; sizes = drop 1 s.sizes; calls = raised s.calls }
