-- Texts that are laid into rooms of C.
use Rattle.std.specs.Prelude.{◌++◌, ℕ, List, take, drop, length}

-- a text laid into a room, as much of it as fits
abbrev pub laid : List ℕ → List ℕ → List ℕ
laid text room = take (length room) text ++ drop (length text) room
