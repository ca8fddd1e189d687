-- The parts of what stands at a number.
use Rattle.std.specs.Prelude.{List, []}
use Rattle.desk_terms.specs.declared.terms.Part.{Part}
use Rattle.desk_model.specs.Changeable.{Changeable, changeable}
use Rattle.desk_model.specs.Changeable.Changeable.{HasValue, HasTarget, HasFixings, HasParts, HasEngine, HasNone}
use Rattle.desk_model.specs.declared.slot.Slot.{Slot}
use Rattle.desk_model.specs.Market.{terms_in}

abbrev pub parts_held : Changeable → List Part
parts_held (HasValue value) = []
parts_held (HasTarget kind target) = []
parts_held (HasFixings terms fixings) = []
parts_held (HasParts parts) = parts
parts_held (HasEngine flows engine) = []
parts_held HasNone = []

-- the parts of a composite; none where something else stands
abbrev pub parts_in : Slot → List Part
parts_in slot = parts_held (changeable (terms_in slot))
