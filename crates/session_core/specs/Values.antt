-- What is stored of an object, by its name.
use Rattle.std.specs.Prelude.{ℕ, Bool, false, Option, None, Result, Ok, Err}
use Rattle.desk_terms.specs.declared.asked.Asked.{Asked}
use Rattle.desk_terms.specs.declared.value.Value.{Value}
use Rattle.ask_walk.specs.Asks.{held_answer}
use Rattle.desk_model.specs.State.{kept_at}
use Rattle.session_commands.specs.declared.refusal.Refusal.{Refusal}
use Rattle.session_model.specs.declared.place.Place.TheVariants.{Priced}
use Rattle.session_model.specs.Resolve.{find}
use Rattle.session_model.specs.Standing.{Standing}

abbrev pub value_found : Standing → Result ℕ Refusal → Option Value
value_found p (Ok object) = (kept_at p.state object).last
value_found p (Err refusal) = None

abbrev pub is_current_found : Standing → Result ℕ Refusal → Bool
is_current_found p (Ok object) = (kept_at p.state object).current
is_current_found p (Err refusal) = false

-- the last value of the live lazy object that has a name
abbrev pub value_of : Standing → ℕ → Option Value
value_of p name = value_found p (find Priced p name)

-- whether it is current
abbrev pub is_current_of : Standing → ℕ → Bool
is_current_of p name = is_current_found p (find Priced p name)

abbrev pub held_found : Standing → Result ℕ Refusal → Option Asked
held_found p (Ok object) = held_answer p.state object
held_found p (Err refusal) = None

-- what it answers without a computation, if it does (QuantLib's `LazyObject::calculate`, which does nothing where the
-- object is calculated or frozen)
abbrev pub held_of : Standing → ℕ → Option Asked
held_of p name = held_found p (find Priced p name)
