-- What is stored by the text of a name.
use Rattle.std.specs.Prelude.{ℕ, List, if◌then◌else◌, Option, None}
use Rattle.desk_names.specs.Names.{has_text, place_of}
use Rattle.desk_terms.specs.declared.value.Value.{Value}
use Rattle.session_core.specs.Values.{value_of}
use Rattle.session_model.specs.Standing.{Standing}

-- the last value of the live lazy object that has the text as its name, where the session has the text
abbrev pub value_by : Standing → List ℕ → Option Value
value_by p text = if has_text p.names text then value_of p (place_of p.names text) else None
