-- The fields of a record.
use Rattle.std.specs.Prelude.{ℕ, unwrap_or, List, []}
use Rattle.csv.specs.Records.{field_at}

-- the field at a place, counted from 0, or no bytes where the record has none there
abbrev pub field : List (List ℕ) → ℕ → List ℕ
field row at = unwrap_or (field_at row at) []
