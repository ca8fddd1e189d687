-- What scenarios have shown, as the definitions see it.
use Rattle.std.specs.Prelude.{List, [], ◌∷◌}
use Rattle.tool_script.specs.Grid.{Row}
use Rattle.tool_script.specs.Worst.{Worst}
use Rattle.tool_script.specs.declared.shown.Shown.{Shown}
use Rattle.tool_script.specs.declared.worst.Worst as found

abbrev pub row_in : Shown → Row
row_in shown = record { name = shown.name; values = shown.values }

abbrev pub rows_in : List Shown → List Row
rows_in [] = []
rows_in (shown ∷ others) = row_in shown ∷ rows_in others

abbrev pub worst_in : found.Worst → Worst
worst_in worst = record { name = worst.name; amount = worst.amount }
