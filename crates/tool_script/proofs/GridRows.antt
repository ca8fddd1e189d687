-- Rows that are pushed.
use Rattle.std.proofs.Common.{◌≡◌, List, [], ◌∷◌, ◌++◌, refl, ap}
use Rattle.tool_script.specs.Grid.{Row}
use Rattle.tool_script.specs.Shown.{row_in, rows_in}
use Rattle.tool_script.specs.declared.shown.Shown.{Shown}

pub rows_push : (rows : List Shown) (shown : Shown) → rows_in (rows ++ shown ∷ []) ≡ rows_in rows ++ row_in shown ∷ []
rows_push [] shown = refl
rows_push (row ∷ rows) shown = ap (λ (l : List Row). row_in row ∷ l) (rows_push rows shown)
