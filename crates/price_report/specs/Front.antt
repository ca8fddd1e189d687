-- What stays of a text that a line was to be appended to.
use Rattle.std.specs.Prelude.{◌≡◌, ℕ, List, length, take}

-- the text still begins with what it was
abbrev pub KeepsFront : List ℕ → List ℕ → Type 0
KeepsFront old new = take (length old) new ≡ old
