-- What `desk_yield` says of a bond beside its accrued interest, price and yield: nothing (this project's profile).
use Rattle.std.specs.Prelude.{[], codes}
use Rattle.tool_bond.specs.Wording.{Wording}

abbrev pub yield_says : Wording
yield_says = record { word = codes "yield"; more = λ bond. [] }
