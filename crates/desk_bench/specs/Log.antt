-- The log of a bench.
use Rattle.std.specs.Prelude.{ℕ, Bool, List, map}
use Rattle.desk_bench.specs.declared.bench.LogEntry.{LogEntry}

-- the entries as pairs of an object and whether it got a value
abbrev pub pairs_of : List LogEntry → List (ℕ × Bool)
pairs_of entries = map (λ entry. (entry.object, entry.priced)) entries
