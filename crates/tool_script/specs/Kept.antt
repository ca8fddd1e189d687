-- The money that a session has stored of an object.
use Rattle.std.specs.Prelude.{ℕ, ℤ, if◌then◌else◌, Option, Some, None}
use Rattle.desk_terms.specs.declared.value.Value.{Value}
use Rattle.desk_terms.specs.declared.value.Value.TheVariants.{Money, Curve}
use Rattle.session_core.specs.Values.{value_of, is_current_of}
use Rattle.session_model.specs.Standing.{Standing}

abbrev pub money_in_value : Option Value → Option ℤ
money_in_value None = None
money_in_value (Some (Money amount)) = Some amount
money_in_value (Some (Curve curve)) = None

-- of the object that has a name, where its value is current
abbrev pub money_kept : Standing → ℕ → Option ℤ
money_kept p name = if is_current_of p name then money_in_value (value_of p name) else None

abbrev pub money_asked : Standing → Option ℕ → Option ℤ
money_asked p (Some name) = money_kept p name
money_asked p None = None
