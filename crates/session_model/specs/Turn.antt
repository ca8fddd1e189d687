-- What one command does, which lines it writes and which computations it makes.
use Rattle.std.specs.Prelude.{ℕ, Bool, List, [], ◌∷◌, ◌++◌, length, slice_set, Option, Some, Result, Ok, Err}
use Rattle.desk_terms.specs.Reading.{Calc}
use Rattle.desk_model.specs.State.{State}
use Rattle.desk_model.specs.Visit.{log_of}
use Rattle.desk_model.specs.Effect as effect
use Rattle.session_commands.specs.declared.command.Command.{Command}
use Rattle.session_commands.specs.declared.refusal.Refusal.{Refusal}
use Rattle.session_commands.specs.Parts.{command_word}
use Rattle.price_report.specs.Line.{refusal_line}
use Rattle.session_model.specs.declared.act.Act.{Act}
use Rattle.session_model.specs.declared.act.Act.TheVariants as act
use Rattle.session_model.specs.declared.act.How.{How}
use Rattle.session_model.specs.Change.{changed, grown}
use Rattle.session_model.specs.Pricing.{Pricing, pricing_of, priced_line}
use Rattle.session_model.specs.Standing.{Standing}
use Rattle.session_model.specs.Resolve.{resolve}

-- what commands give: their lines, the computations that they make, and the session after them
pub record TurnOf (S : Type 0) : Type 0 where
  pub lines : List ℕ
  pub calls : List (ℕ × Bool)
  pub next : S

-- the turn of one command
abbrev pub Turn : Type 0
Turn = TurnOf Standing

-- the state of the objects after an act and its notice
unfoldable pub step : Calc → State → Act → State
step calc s (act.Make name terms) = effect.made terms s
step calc s (act.Watch name action) = effect.watching s
step calc s (act.Quiet change) = changed change s
step calc s (act.Grow growth) = grown growth s
step calc s (act.Price name object how) = (pricing_of calc object s how).next

-- the names of the objects after an act
abbrev pub object_names : Act → List ℕ → List ℕ
object_names (act.Make name terms) of_object = of_object ++ name ∷ []
object_names (act.Watch name action) of_object = of_object ++ name ∷ []
object_names (act.Quiet change) of_object = of_object
object_names (act.Grow growth) of_object = of_object
object_names (act.Price name object how) of_object = of_object

-- the actions of watchers, by the numbers of their names, after an act
abbrev pub watcher_actions : Act → List (Option ℕ) → List (Option ℕ)
watcher_actions (act.Make name terms) of_name = of_name
watcher_actions (act.Watch name action) of_name = slice_set of_name name (Some action)
watcher_actions (act.Quiet change) of_name = of_name
watcher_actions (act.Grow growth) of_name = of_name
watcher_actions (act.Price name object how) of_name = of_name

-- the line of a pricing
abbrev pub line_of : Standing → ℕ → ℕ → How → Pricing → List ℕ
line_of p name o how w = priced_line p.names p.of_object name o how w.outcome w.mark (length w.calls)

-- the lines that an act writes
abbrev pub own_lines : Calc → Standing → Act → List ℕ
own_lines calc p (act.Make name terms) = []
own_lines calc p (act.Watch name action) = []
own_lines calc p (act.Quiet change) = []
own_lines calc p (act.Grow growth) = []
own_lines calc p (act.Price name object how) = line_of p name object how (pricing_of calc object p.state how)

-- the computations that an act makes: the objects in order, each with whether it got a value
abbrev pub own_calls : Calc → State → Act → List (ℕ × Bool)
own_calls calc s (act.Make name terms) = []
own_calls calc s (act.Watch name action) = []
own_calls calc s (act.Quiet change) = []
own_calls calc s (act.Grow growth) = []
own_calls calc s (act.Price name object how) = log_of (pricing_of calc object s how).calls

unfoldable pub effect_of : Calc → Standing → Act → Turn
effect_of calc p a = record {
  lines = own_lines calc p a;
  calls = own_calls calc p.state a;
  next = record p {
    state = step calc p.state a;
    of_object = object_names a p.of_object;
    watching = watcher_actions a p.watching;
  };
}

-- a command that is refused writes one line and changes nothing
abbrev pub done_as : Calc → Standing → Command → Result Act Refusal → Turn
done_as calc p c (Err refusal) =
    record { lines = refusal_line p.names p.of_object (command_word c) refusal; calls = []; next = p }
done_as calc p c (Ok a) = effect_of calc p a

-- THE TURN OF A COMMAND: what it resolves to is done, or it is refused
unfoldable pub turn : Calc → Standing → Command → Turn
turn calc p c = done_as calc p c (resolve p c)
