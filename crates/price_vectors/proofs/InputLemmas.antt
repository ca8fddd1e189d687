-- Inputs that are each a curve are curves alone.
use Rattle.std.proofs.Common.{◌≡◌, Bool, true, false, List, [], ◌∷◌}
use Rattle.std.specs.List.{list_all}
use Rattle.desk_terms.specs.declared.value.Input as input
use Rattle.desk_terms.specs.Reading.{AreAllCurves}
use Rattle.price_vectors.specs.Inputs.{is_curve}

pub are_all_curves : (inputs : List input.Input) → list_all is_curve inputs ≡ true → AreAllCurves inputs
are_all_curves [] is = tt
are_all_curves (input.TheVariants.Rate rate ∷ inputs) is = absurd cc
are_all_curves (input.TheVariants.Money amount ∷ inputs) is = absurd cc
are_all_curves (input.TheVariants.Curve curve ∷ inputs) is = are_all_curves inputs is
