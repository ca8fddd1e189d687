-- What answers give, and what is put of them.
use Rattle.std.specs.Prelude.{◌≡◌, ℕ, Bool, List, [], ◌∷◌, ◌++◌, Option}
use Rattle.std.specs.Str.Lines.{lines}
use Rattle.std.specs.Io.KnownBytes.{Consumes}
use Rattle.desk_edge.specs.Sink.{appended}
use Rattle.tool_live.specs.Hearing.{HasNoEnd}

-- what somebody writes for lines
abbrev pub Told : Type 0
Told = List (List ℕ) → List ℕ

-- how often a bench is called by their end, and the log of that, where it is told
abbrev pub Called : Type 0
Called = List (List ℕ) → ℕ × Option (List (ℕ × Bool))

-- these bytes are the first of those
abbrev pub IsFrontOf : List ℕ → List ℕ → Type 0
IsFrontOf front whole = (rest : List ℕ) × (whole ≡ front ++ rest)

-- a front of these bytes was put
abbrev pub PutsFront : List ℕ → Option (List ℕ) → Option (List ℕ) → Type 0
PutsFront whole old new = (front : List ℕ) × IsFrontOf front whole × (new ≡ appended front old)

-- A LINE IS ANSWERED: what was put and what waits behind it, with what is written for the lines that come, is that from before
-- the line with what was then written for the line and those
pub record Answers (line : List ℕ) (told told_now : Told) (called called_now : Called) (before now : Option (List ℕ)) : Type 0 where
  pub bytes : (rest : List (List ℕ)) → appended (told_now rest) now ≡ appended (told (line ∷ rest)) before
  pub calls : (rest : List (List ℕ)) → called_now rest ≡ called (line ∷ rest)

-- THE SAME OF BYTES: of those that come behind a line that stands open
pub record Hears (part heard open_now : List ℕ) (told told_now : Told) (called called_now : Called) (before now : Option (List ℕ)) : Type 0 where
  pub bytes : (rest : List ℕ) → appended (told_now (lines (open_now ++ rest))) now ≡ appended (told (lines (part ++ (heard ++ rest)))) before
  pub calls : (rest : List ℕ) → called_now (lines (open_now ++ rest)) ≡ called (lines (part ++ (heard ++ rest)))

-- ALL THAT WAS HEARD IS ANSWERED: what a feed gave so far, and the line that stands open behind it; all that its lines call for was
-- put and sent on, since what was put, with what is written for whatever comes, is what is written for all of it
pub record IsPrompt (content left : Option (List ℕ)) (told told_now : Told) (called called_now : Called) (before now flushed : Option (List ℕ)) : Type 0 where
  pub heard : List ℕ
  pub part : List ℕ
  pub consumed : Consumes content left heard
  pub unended : HasNoEnd part
  pub hears : Hears [] heard part told told_now called called_now before now
  pub sent : flushed ≡ now
