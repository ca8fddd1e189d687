-- The lines of a script are std's `lines`: a newline ends a line, the last may lack it, and one carriage return directly before it belongs to the line's end.
use Rattle.std.specs.Prelude.{ℕ, Bool, not, ◌&&◌, ◌||◌, ◌==◌, nat_le, nat_lt, List, length, filter}
use Rattle.std.specs.List.{take_while, slice_split}

-- a byte that may stand in a line: tab, or one from 32 to 126 (this project's profile)
abbrev pub is_good : ℕ → Bool
is_good byte = byte == 9 || (nat_le 32 byte && nat_le byte 126)

-- space and tab, which part words
abbrev pub is_blank : ℕ → Bool
is_blank byte = byte == 32 || byte == 9

-- what stands before the first `#`, where a comment begins
abbrev pub before_comment : List ℕ → List ℕ
before_comment line = take_while (λ byte. not (byte == 35)) line

-- the longest runs without space and tab
abbrev pub runs_of : List ℕ → List (List ℕ)
runs_of text = filter (λ word. nat_lt 0 (length word)) (slice_split is_blank text)

-- the words of a line: the longest runs without space and tab before the comment
unfoldable pub words_of : List ℕ → List (List ℕ)
words_of line = runs_of (before_comment line)
