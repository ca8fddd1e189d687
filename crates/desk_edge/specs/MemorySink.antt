-- A sink in memory: what it holds, and what each call answers and leaves.
use Rattle.std.specs.Prelude.{ℕ, ◌-◌, Bool, List, ◌++◌, ◌||◌, ◌&&◌, nat_lt, nat_le, min, length, take, if◌then◌else◌, Result, Ok, Err, ⊤}
use Rattle.desk_edge.specs.Count.{raised}
use Rattle.desk_edge.specs.CallList.{fails_next}
use Rattle.desk_edge.specs.declared.shelf.Failed.{Failed}

-- a sink in memory: the bytes taken, those of them that were flushed, the room for them, the most bytes that a call takes, the numbers of the calls that fail, and its counts (this project's profile)
pub record SinkState : Type 0 where
  pub bytes : List ℕ
  pub sent : List ℕ
  pub room : ℕ
  pub most : ℕ
  pub fails : List ℕ
  pub calls : ℕ
  pub faults : ℕ

-- a sink after a call that fails
abbrev pub refused : SinkState → SinkState
refused s = record s { calls = raised s.calls; faults = raised s.faults }

-- a put of this piece fails: it is listed, or the piece has bytes and the room is used up (this project's profile)
abbrev pub put_fails : SinkState → List ℕ → Bool
put_fails s piece = fails_next s.fails s.calls || (nat_lt 0 (length piece) && nat_le s.room (length s.bytes))

-- how many bytes of the piece a call takes
abbrev pub taken : SinkState → List ℕ → ℕ
taken s piece = min (min (length piece) s.most) (s.room - length s.bytes)

-- what put answers
abbrev pub put_answer : SinkState → List ℕ → Result ℕ Failed
put_answer s piece = if put_fails s piece then Err (record {}) else Ok (taken s piece)

-- a sink after put
abbrev pub after_put : SinkState → List ℕ → SinkState
after_put s piece =
    if put_fails s piece then refused s
    else record s { bytes = s.bytes ++ take (taken s piece) piece; calls = raised s.calls }

-- what flush answers (this project's profile)
abbrev pub flush_answer : SinkState → Result ⊤ Failed
flush_answer s = if fails_next s.fails s.calls then Err (record {}) else Ok tt

-- a sink after flush
abbrev pub after_flush : SinkState → SinkState
after_flush s =
    if fails_next s.fails s.calls then refused s
    else record s { sent = s.bytes; calls = raised s.calls }
