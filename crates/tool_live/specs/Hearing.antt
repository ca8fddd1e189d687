-- The line that stands open behind what was heard.
use Rattle.std.specs.Prelude.{◌≡◌, ℕ, ◌+◌, ◌-◌, ◌==◌, false, List, ◌++◌, length, take}
use Rattle.std.specs.List.{All}
use Rattle.tool_live.specs.declared.answerer.TheConstants.{MOST_LINE}

-- no newline is among these bytes
abbrev pub HasNoEnd : List ℕ → Type 0
HasNoEnd bytes = All (λ byte. (byte == 10) ≡ false) bytes

-- so many bytes of a line are kept: one that is longer is too long, even without a carriage return at its end
abbrev pub most_kept : ℕ
most_kept = MOST_LINE + 2

-- what is kept with these bytes more
abbrev pub kept_with : List ℕ → List ℕ → List ℕ
kept_with kept bytes = kept ++ take (most_kept - length kept) bytes

-- these bytes are kept of a line that stands open
pub record IsOpen (line kept : List ℕ) : Type 0 where
  pub unended : HasNoEnd line
  pub cut : kept ≡ take most_kept line
