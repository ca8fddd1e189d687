-- What a name is. All of it is this project's profile.
use Rattle.std.specs.Prelude.{ℕ, Bool, false, not, ◌&&◌, ◌||◌, ◌==◌, nat_le, List, [], ◌∷◌, length, codes, IsTrue}
use Rattle.std.specs.Char.{is_ascii_alphabetic, is_ascii_alphanumeric}
use Rattle.std.specs.List.{list_all}
use Rattle.std.specs.Str.{bytes_eq}

-- a byte that a name may have: an ASCII letter, a digit or `_`
unfoldable pub is_name_byte : ℕ → Bool
is_name_byte byte = is_ascii_alphanumeric byte || byte == 95

-- the form of an identifier: a letter, and then bytes that a name may have
unfoldable pub has_form : List ℕ → Bool
has_form [] = false
has_form (first ∷ rest) = is_ascii_alphabetic first && list_all is_name_byte rest

-- the two words of the formats that stand where a name could: no names (this project's profile)
unfoldable pub is_reserved : List ℕ → Bool
is_reserved text = bytes_eq text (codes "none") || bytes_eq text (codes "unset")

-- whether the text is a name: of that form, of at most 32 bytes, and no reserved word (this project's profile)
unfoldable pub is_name : List ℕ → Bool
is_name text = has_form text && nat_le (length text) 32 && not (is_reserved text)

-- the text is a name
abbrev pub IsName : List ℕ → Type 0
IsName text = IsTrue (is_name text)
