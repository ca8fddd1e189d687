-- The calls that fail, by their numbers.
use Rattle.std.specs.Prelude.{ℕ, Bool, List, ◌==◌}
use Rattle.std.specs.List.{list_any}
use Rattle.desk_edge.specs.Count.{raised}

-- the call behind so many others is listed as one that fails; calls are numbered from 1 (this project's profile)
abbrev pub fails_next : List ℕ → ℕ → Bool
fails_next fails calls = list_any (λ number. number == raised calls) fails
