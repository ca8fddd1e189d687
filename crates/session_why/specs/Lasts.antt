-- The workings of an object by what is stored: of an object that is current, and of what it needs, that is what they
-- show.
use Rattle.std.specs.Prelude.{ℕ, ℤ, ◌++◌, codes, List, [], ◌∷◌, Option, Some, None, IsSome, Result, Ok, Err, IsOk}
use Rattle.curve_points.specs.declared.curves.CurveNode.{CurveNode}
use Rattle.curve_terms.specs.declared.terms.Helper.{Helper}
use Rattle.desk_terms.specs.declared.terms.Part.{Part}
use Rattle.desk_terms.specs.declared.terms.Terms.{Terms}
use Rattle.desk_terms.specs.declared.terms.Terms.TheVariants as terms
use Rattle.desk_terms.specs.declared.asked.Mark.{Mark}
use Rattle.desk_terms.specs.declared.asked.Mark.TheVariants.{Fresh, Frozen, Late, Held, Recalc}
use Rattle.desk_terms.specs.declared.cause.Cause.{Cause}
use Rattle.desk_terms.specs.declared.value.Value.{Value}
use Rattle.desk_terms.specs.declared.value.Value.TheVariants as value
use Rattle.desk_terms.specs.declared.value.Input as input
use Rattle.desk_terms.specs.Asked.{mark_word}
use Rattle.desk_terms.specs.Reading.{Outcome}
use Rattle.desk_model.specs.declared.entry.Entry.{Entry}
use Rattle.desk_model.specs.declared.entry.Entry.TheVariants.{Gives, Needs, Refuses}
use Rattle.desk_model.specs.Uses.{uses}
use Rattle.desk_model.specs.Fresh.{inputs_by}
use Rattle.desk_model.specs.Market.{terms_at}
use Rattle.desk_model.specs.State.{State, kept_at, last_answer, least_source}
use Rattle.session_model.specs.Standing.{Standing}
use Rattle.why_model.specs.Workings.{part_products, NodeRate}
use Rattle.why_model.specs.Answer.{named, terms_word, shown_text, parts_text, source_text, workings_by}

-- the inputs of a price, by the last values of the objects that it needs
abbrev pub last_inputs : State → ℕ → Result (List input.Input) Cause
last_inputs s o = inputs_by (last_answer s) (uses s.market o)

-- the workings of an object with these terms and this last value
abbrev pub workings_in : Standing → ℕ → Option Terms → Option Value → List ℕ
workings_in p o None last = []
workings_in p o (Some terms) None = []
workings_in p o (Some terms) (Some value) = workings_by p o terms value (last_inputs p.state o)

-- the line of a priced object
abbrev pub priced_line : Standing → ℕ → Terms → Mark → Outcome → List ℕ
priced_line p o terms mark outcome =
    named p o ++ codes " " ++ terms_word terms ++ codes " " ++ mark_word mark ++ codes " " ++ shown_text p outcome
    ++ codes "\n"

abbrev pub line_in : Standing → ℕ → Option Terms → Mark → Outcome → List ℕ
line_in p o None mark outcome = []
line_in p o (Some terms) mark outcome = priced_line p o terms mark outcome

-- ---- parts

abbrev pub parts_by : Standing → ℕ → List Part → Result (List input.Input) Cause → List ℕ
parts_by p o parts (Ok inputs) = parts_text p (named p o) (part_products parts inputs)
parts_by p o parts (Err cause) = []

-- ---- nodes

abbrev pub helper_quotes : List Helper → List ℕ
helper_quotes [] = []
helper_quotes (helper ∷ helpers) = helper.quote ∷ helper_quotes helpers

abbrev pub quotes_in : Option Terms → List ℕ
quotes_in None = []
quotes_in (Some (terms.Quote value)) = []
quotes_in (Some (terms.Derived minus first second)) = []
quotes_in (Some (terms.Handle kind target)) = []
quotes_in (Some (terms.Index terms fixings)) = []
quotes_in (Some (terms.Engine curve)) = []
quotes_in (Some (terms.Curve terms)) = helper_quotes terms.helpers
quotes_in (Some (terms.Implied curve reference)) = []
quotes_in (Some (terms.Stock quote)) = []
quotes_in (Some (terms.Composite parts)) = []
quotes_in (Some (terms.Flows flows engine)) = []

-- the rates that entries give, up to the first that gives none
abbrev pub and_rates : Entry → List ℤ → List ℤ
and_rates (Gives rate) rates = rate ∷ rates
and_rates (Needs x) rates = []
and_rates (Refuses cause) rates = []

abbrev pub rates_by : (ℕ → Entry) → List ℕ → List ℤ
rates_by read [] = []
rates_by read (quote ∷ quotes) = and_rates (read quote) (rates_by read quotes)

-- nodes with their quotes and rates, as far as there are all three
abbrev pub nodes_with : List CurveNode → List ℕ → List ℤ → List NodeRate
nodes_with [] quotes rates = []
nodes_with (node ∷ nodes) [] rates = []
nodes_with (node ∷ nodes) (quote ∷ quotes) [] = []
nodes_with (node ∷ nodes) (quote ∷ quotes) (rate ∷ rates) =
    record { node = node; quote = quote; rate = rate } ∷ nodes_with nodes quotes rates

abbrev pub nodes_in : Option Value → List CurveNode
nodes_in None = []
nodes_in (Some (value.Money amount)) = []
nodes_in (Some (value.Curve curve)) = curve.nodes

-- ---- behind the line of a priced object

-- by the mark and the cause of an answer to an ask
abbrev pub behind_in : Standing → ℕ → Mark → Option Cause → List ℕ
behind_in p o Frozen cause = []
behind_in p o Late cause = source_text p o (least_source p.state o)
behind_in p o Fresh (Some cause) = []
behind_in p o Fresh None = workings_in p o (terms_at p.state.market o) (kept_at p.state o).last
behind_in p o Held (Some cause) = []
behind_in p o Held None = workings_in p o (terms_at p.state.market o) (kept_at p.state o).last
behind_in p o Recalc (Some cause) = []
behind_in p o Recalc None = workings_in p o (terms_at p.state.market o) (kept_at p.state o).last

-- where the workings of an object are written, it has a value, and its inputs are there
pub record CanWork (s : State) (o : ℕ) : Type 0 where
  pub inputs : IsOk (last_inputs s o)
  pub last : IsSome (kept_at s o).last

abbrev pub HasWorkings : State → ℕ → Mark → Option Cause → Type 0
HasWorkings s o Frozen cause = Unit {0}
HasWorkings s o Late cause = Unit {0}
HasWorkings s o Fresh (Some cause) = Unit {0}
HasWorkings s o Fresh None = CanWork s o
HasWorkings s o Held (Some cause) = Unit {0}
HasWorkings s o Held None = CanWork s o
HasWorkings s o Recalc (Some cause) = Unit {0}
HasWorkings s o Recalc None = CanWork s o
