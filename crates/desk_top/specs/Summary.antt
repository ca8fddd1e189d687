-- What is written of the transcript of a load (this project's profile).
use Rattle.std.specs.Prelude.{ℕ, ◌+◌, Bool, true, false, not, ◌&&◌, ◌==◌, if◌then◌else◌, List, [], ◌∷◌, ◌++◌, codes, decimal, length}
use Rattle.std.specs.List.{filter}

-- how many lines a text has, each of which ends with a newline
abbrev pub line_count : List ℕ → ℕ
line_count text = length (filter (λ byte. byte == 10) text)

-- no newline stands before its last byte
abbrev pub is_one_line : List ℕ → Bool
is_one_line [] = true
is_one_line (byte ∷ []) = true
is_one_line (byte ∷ next ∷ text) = not (byte == 10) && is_one_line (next ∷ text)

-- the last line of a text, with its newline: the longest end that is one line
abbrev pub last_line : List ℕ → List ℕ
last_line [] = []
last_line (byte ∷ text) = if is_one_line (byte ∷ text) then byte ∷ text else last_line text

-- what is kept of a text that is not held: how many lines and bytes it has, and its last line
pub record Tally : Type 0 where
  pub lines : ℕ
  pub bytes : ℕ
  pub last : List ℕ

abbrev pub tally_of : List ℕ → Tally
tally_of text = record { lines = line_count text; bytes = length text; last = last_line text }

-- THE LINES OF A LOAD of this size, whose transcript has this tally
abbrev pub summary : ℕ → Tally → List ℕ
summary size tally =
    codes "load " ++ decimal size ++ codes " lines " ++ decimal tally.lines ++ codes " bytes "
    ++ decimal tally.bytes ++ 10 ∷ [] ++ tally.last

-- its last byte is a newline
abbrev pub ends_line : List ℕ → Bool
ends_line [] = false
ends_line (byte ∷ []) = byte == 10
ends_line (byte ∷ next ∷ text) = ends_line (next ∷ text)

-- the tally with a byte behind the text, and with more
abbrev pub with_byte : Tally → ℕ → Tally
with_byte t byte = record {
  lines = if byte == 10 then t.lines + 1 else t.lines;
  bytes = t.bytes + 1;
  last = (if ends_line t.last then [] else t.last) ++ byte ∷ [];
}

unfoldable pub with_bytes : Tally → List ℕ → Tally
with_bytes t [] = t
with_bytes t (byte ∷ text) = with_bytes (with_byte t byte) text
