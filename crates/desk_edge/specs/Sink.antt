-- What a sink has taken, where it tells that.
use Rattle.std.specs.Prelude.{ℕ, List, ◌++◌, Option}
use Rattle.std.specs.Option.{option_map}

-- the bytes taken, with this piece after them, where they are told (this project's profile)
abbrev pub appended : List ℕ → Option (List ℕ) → Option (List ℕ)
appended piece told = option_map (λ (bytes : List ℕ). bytes ++ piece) told
