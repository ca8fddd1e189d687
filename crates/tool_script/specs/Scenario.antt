-- A scenario: a session of its own over the market, in which its moves are done, and then what is asked for is asked.
use Rattle.std.specs.Prelude.{ℕ, ℤ, Bool, List, [], ◌∷◌, ◌++◌, Option, Some, None, Result, Ok, Err}
use Rattle.desk_terms.specs.declared.terms.Terms.{Terms}
use Rattle.desk_terms.specs.declared.value.Value.TheVariants.{Money, Curve}
use Rattle.desk_terms.specs.Reading.{Outcome, Calc}
use Rattle.desk_model.specs.State.{shows}
use Rattle.session_commands.specs.declared.command.Command.{Command}
use Rattle.session_commands.specs.declared.refusal.Refusal.{Refusal}
use Rattle.watch_rounds.specs.declared.picker.Order.{Order}
use Rattle.watch_rounds.specs.declared.picker.Order.TheVariants.{First}
use Rattle.watch_rounds.specs.Order.{order_at, order_after}
use Rattle.session_model.specs.declared.place.Place.TheVariants.{Priced}
use Rattle.session_model.specs.Standing.{Standing, start_with}
use Rattle.session_model.specs.Resolve.{find}
use Rattle.session_model.specs.Course.{Running, Meaning, running, round_of}
use Rattle.session_model.specs.Rounds.{transcript, calls_of}
use Rattle.tool_script.specs.Kinds.{asked_name}

-- what all scenarios begin with: the names of their sessions, and the evaluation date and the objects of the market
pub record Basis : Type 0 where
  pub names : List (List ℕ)
  pub today : ℤ
  pub made : List (ℕ × Terms)

-- a scenario: the name of its block, none of the one without moves, and its moves
pub record Scenario : Type 0 where
  pub name : Option ℕ
  pub moves : List Command

-- what the bench computes; of watchers the first would run first, but a scenario has none
abbrev pub ordered : Calc → Meaning Order
ordered calc = record { calc = calc; at = order_at; after = order_after }

-- the session of a scenario before its first move: it has the market's objects, and no action
abbrev pub first_of : Basis → Running Order
first_of basis = running First (start_with basis.today basis.names basis.made [])

-- THE LINES OF A SCENARIO: the transcript of its moves and then of the asks
abbrev pub scenario_lines : Calc → Basis → List Command → Scenario → List ℕ
scenario_lines calc basis asks scenario = transcript (ordered calc) (first_of basis) (scenario.moves ++ asks)

-- its computations
abbrev pub scenario_calls : Calc → Basis → List Command → Scenario → List (ℕ × Bool)
scenario_calls calc basis asks scenario = calls_of (ordered calc) (first_of basis) (scenario.moves ++ asks)

-- an amount of money, where that is shown
abbrev pub money_in : Outcome → Option ℤ
money_in (Ok (Money amount)) = Some amount
money_in (Ok (Curve curve)) = None
money_in (Err cause) = None

-- of an object that is found
abbrev pub money_of : Calc → Standing → Result ℕ Refusal → Option ℤ
money_of calc p (Ok object) = money_in (shows calc p.state object)
money_of calc p (Err refusal) = None

-- what an ask of a name shows, where it is money; nothing where the ask is refused
abbrev pub money_shown : Calc → Standing → Option ℕ → Option ℤ
money_shown calc p (Some name) = money_of calc p (find Priced p name)
money_shown calc p None = None

-- the session after some commands
unfoldable pub after : Calc → List Command → Running Order → Running Order
after calc [] r = r
after calc (command ∷ commands) r = after calc commands (round_of (ordered calc) r command).next

-- the money that asks show, each in the session of its moment
unfoldable pub values_of : Calc → List Command → Running Order → List (Option ℤ)
values_of calc [] r = []
values_of calc (ask ∷ asks) r =
    money_shown calc r.standing (asked_name ask) ∷ values_of calc asks (round_of (ordered calc) r ask).next

-- THE VALUES OF A SCENARIO: the money that each of its asks shows, behind the moves
abbrev pub scenario_values : Calc → Basis → List Command → Scenario → List (Option ℤ)
scenario_values calc basis asks scenario = values_of calc asks (after calc scenario.moves (first_of basis))
