-- WHAT IS COMPUTED for an answer: the asks of it, in their order, and the state after them (this project's profile).
use Rattle.std.specs.Prelude.{◌≡◌, ℕ, length, if◌then◌else◌, List, [], ◌∷◌, Result, Ok, Err}
use Rattle.desk_terms.specs.Reading.{Calc}
use Rattle.desk_terms.specs.declared.asked.Asked.{Asked}
use Rattle.desk_terms.specs.Asked.{Shows}
use Rattle.desk_model.specs.State.{State, kept_at, mark_of, shows}
use Rattle.desk_model.specs.Visit.{runs, asked}
use Rattle.desk_model.specs.Links.{is_lazy_at}
use Rattle.session_commands.specs.declared.refusal.Refusal.{Refusal}
use Rattle.session_model.specs.Standing.{Standing}
use Rattle.bump_model.specs.Asking.{Asking, none, ask_of, then_ask}
use Rattle.why_model.specs.Listing.{listing}
use Rattle.why_model.specs.Answer.{priced_object}

-- the ask of an object, if it is priced
abbrev pub ask_if : Calc → ℕ → State → Asking
ask_if calc o s = if is_lazy_at s.market o then ask_of calc o s else none s

unfoldable pub ask_each : Calc → List ℕ → State → Asking
ask_each calc [] s = none s
ask_each calc (o ∷ os) s = then_ask (ask_if calc o s) (ask_each calc os)

-- the ask of the name, and then one of each priced object that the answer lists
abbrev pub asks_of : Calc → ℕ → State → Asking
asks_of calc o s = then_ask (ask_of calc o s) (ask_each calc (listing s o))

abbrev pub asks_for : Calc → State → Result ℕ Refusal → Asking
asks_for calc s (Ok o) = asks_of calc o s
asks_for calc s (Err refusal) = none s

unfoldable pub why_asking : Calc → Standing → List ℕ → Asking
why_asking calc p text = asks_for calc p.state (priced_object p text)

-- what an ask of an object answers, and the session behind it
pub record IsAsked (calc : Calc) (o : ℕ) (old new : Standing) (answer : Asked) : Type 0 where
  pub next : new ≡ record old { state = asked calc o old.state }
  pub shown : Shows answer.cause (kept_at new.state o).last (shows calc old.state o)
  pub mark : answer.mark ≡ mark_of old.state o
  pub number : answer.runs ≡ length (runs calc old.state o)
