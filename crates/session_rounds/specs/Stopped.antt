-- Where memory ran out in a round: which of its moments are done, and what stands of the one that is not.
use Rattle.std.specs.Prelude.{◌≡◌, ◌⊎◌, ◌++◌, ◌+◌, ◌≤◌, ℕ, List, [], ◌∷◌, length, take}
use Rattle.desk_terms.specs.Bench.{counted, logged}
use Rattle.desk_terms.specs.Reading.{Calc}
use Rattle.session_model.specs.Moments.{Moment}
use Rattle.session_model.specs.Turn.{Turn, turn}
use Rattle.session_rounds.specs.Goes.{Output, with_more}

-- the turn of a moment's command
abbrev pub turn_at : Calc → Moment → Turn
turn_at calc moment = turn calc moment.standing moment.command

-- what is put out once a moment is done: its lines, those of its notices, and its computations
abbrev pub done_at : Calc → Moment → Output → Output
done_at calc moment out = with_more ((turn_at calc moment).lines ++ moment.over) (turn_at calc moment).calls out

-- Memory ran out in its command: no line was put out, a front of its computations was begun, and all of these ended but
-- the last one at most.
pub record StopsWithin (calc : Calc) (moment : Moment) (out_old out_new : Output) : Type 0 where
  pub begun : ℕ
  pub ended : ℕ
  pub most : begun ≤ length (turn_at calc moment).calls
  pub last : (ended ≤ begun) × (begun ≤ ended + 1)
  pub out : out_new ≡ record {
    lines = out_old.lines;
    count = counted out_old.count begun;
    log = logged out_old.log (take ended (turn_at calc moment).calls);
  }

-- Memory ran out behind it: its line and its computations are put out, and a front of the lines of its notices.
pub record StopsBehind (calc : Calc) (moment : Moment) (out_old out_new : Output) : Type 0 where
  pub front : List ℕ
  pub rest : List ℕ
  pub over : moment.over ≡ front ++ rest
  pub out : out_new ≡ with_more ((turn_at calc moment).lines ++ front) (turn_at calc moment).calls out_old

-- MEMORY RAN OUT IN THESE MOMENTS: in the first of them, or, once it is done, in those behind it. So what the moments
-- before told stands whole.
unfoldable pub HaltsIn : Calc → List Moment → Output → Output → Type 0
HaltsIn calc [] out_old out_new = ⊥
HaltsIn calc (moment ∷ moments) out_old out_new =
    (StopsWithin calc moment out_old out_new ⊎ StopsBehind calc moment out_old out_new)
    ⊎ HaltsIn calc moments (done_at calc moment out_old) out_new
