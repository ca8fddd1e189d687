-- THE ANSWER of what a price was computed from, byte by byte (this project's profile). Each text has its newlines.
use Rattle.std.specs.Prelude.{ℕ, ℤ, true, false, if◌then◌else◌, List, [], ◌∷◌, ◌++◌, codes, Option, Some, None, Result, Ok, Err}
use Rattle.day_number.specs.Day.{day_text}
use Rattle.fixed_amount.specs.Decimal.{decimal_text}
use Rattle.desk_names.specs.Names.{has_text, place_of}
use Rattle.curve_points.specs.declared.curves.CurveNode.{CurveNode}
use Rattle.desk_terms.specs.declared.terms.Terms.{Terms}
use Rattle.desk_terms.specs.declared.terms.Terms.TheVariants.{Quote, Derived, Handle, Curve, Implied, Index, Engine, Stock, Composite, Flows}
use Rattle.desk_terms.specs.declared.value.Value.{Value}
use Rattle.desk_terms.specs.declared.value.Value.TheVariants as value
use Rattle.desk_terms.specs.declared.value.Input as input
use Rattle.desk_terms.specs.declared.cause.Cause.{Cause}
use Rattle.desk_terms.specs.Asked.{mark_word}
use Rattle.desk_terms.specs.Reading.{Outcome, Calc}
use Rattle.flow_terms.specs.Flows.{is_expired}
use Rattle.price_report.specs.Line.{cause_text, point_text}
use Rattle.price_report.specs.Namer.{object_text}
use Rattle.session_commands.specs.declared.refusal.Refusal.{Refusal}
use Rattle.session_commands.specs.declared.refusal.Refusal.TheVariants.{Unknown}
use Rattle.session_commands.specs.Refusal.{refusal_word}
use Rattle.desk_model.specs.declared.slot.Slot.{Slot}
use Rattle.desk_model.specs.declared.slot.Slot.TheVariants as slot
use Rattle.desk_model.specs.Market.{edges, slot_at, without}
use Rattle.desk_model.specs.State.{is_frozen, is_late, least_source, mark_of, shows}
use Rattle.desk_model.specs.Uses.{uses}
use Rattle.desk_model.specs.Fresh.{inputs_by}
use Rattle.session_model.specs.declared.act.How.TheVariants.{Ask}
use Rattle.session_model.specs.declared.place.Place.TheVariants.{Priced}
use Rattle.session_model.specs.Pricing.{asking}
use Rattle.session_model.specs.Resolve.{find}
use Rattle.session_model.specs.Standing.{Standing}
use Rattle.session_model.specs.Turn.{line_of}
use Rattle.why_model.specs.Listing.{listing}
use Rattle.why_model.specs.Workings.{PartProduct, part_products, NodeRate, node_rates, FlowProduct, flows_at, sum_of_flows}

-- ---- words

-- the name of an object
abbrev pub named : Standing → ℕ → List ℕ
named p o = object_text p.names p.of_object o

abbrev pub each_named : Standing → List ℕ → List ℕ
each_named p [] = []
each_named p (o ∷ os) = codes " " ++ named p o ++ each_named p os

-- the word of an object with these terms
abbrev pub terms_word : Terms → List ℕ
terms_word (Quote value) = codes "quote"
terms_word (Derived true first second) = codes "difference"
terms_word (Derived false first second) = codes "sum"
terms_word (Handle kind target) = codes "handle"
terms_word (Index terms fixings) = codes "index"
terms_word (Engine curve) = codes "engine"
terms_word (Curve terms) = codes "curve"
terms_word (Implied curve reference) = codes "implied"
terms_word (Stock quote) = codes "stock"
terms_word (Composite parts) = codes "composite"
terms_word (Flows flows engine) = codes "flows"

-- the rate of a quote, with nine places
abbrev pub rate_text : Option ℤ → List ℕ
rate_text None = codes "unset"
rate_text (Some rate) = decimal_text rate 9

-- what a priced object shows: an amount with six places, the reference day of a curve, or the cause
abbrev pub shown_text : Standing → Outcome → List ℕ
shown_text p (Ok (value.Money amount)) = decimal_text amount 6
shown_text p (Ok (value.Curve curve)) = day_text curve.reference
shown_text p (Err cause) = codes "refused " ++ cause_text p.names p.of_object cause

-- ---- the workings of the object with a name

-- `K part WEIGHT MEMBER VALUE PRODUCT` for each part
abbrev pub parts_text : Standing → List ℕ → List PartProduct → List ℕ
parts_text p name [] = []
parts_text p name (part ∷ parts) =
    name ++ codes " part " ++ decimal_text part.weight 0 ++ codes " " ++ named p part.member ++ codes " "
    ++ decimal_text part.worth 6 ++ codes " " ++ decimal_text part.product 6 ++ codes "\n" ++ parts_text p name parts

-- `C node DAY DISCOUNT QUOTE RATE` for each node of a curve that is built
abbrev pub node_rates_text : Standing → List ℕ → List NodeRate → List ℕ
node_rates_text p name [] = []
node_rates_text p name (node ∷ nodes) =
    name ++ codes " node " ++ point_text node.node.day node.node.factor ++ codes " " ++ named p node.quote ++ codes " "
    ++ decimal_text node.rate 9 ++ codes "\n" ++ node_rates_text p name nodes

-- `C node DAY DISCOUNT` for each node of a curve that is seen from another day
abbrev pub nodes_text : List ℕ → List CurveNode → List ℕ
nodes_text name [] = []
nodes_text name (node ∷ nodes) =
    name ++ codes " node " ++ point_text node.day node.factor ++ codes "\n" ++ nodes_text name nodes

-- ` fixing DAY RATE` of a flow that stands on a fixing
abbrev pub fixing_text : Option (ℤ × ℤ) → List ℕ
fixing_text None = []
fixing_text (Some fixing) = codes " fixing " ++ day_text fixing.0 ++ codes " " ++ decimal_text fixing.1 9

-- `B flow PAID AMOUNT DISCOUNT PRODUCT` for each flow, the product with its eighteen places
abbrev pub flows_text : List ℕ → List FlowProduct → List ℕ
flows_text name [] = []
flows_text name (flow ∷ flows) =
    name ++ codes " flow " ++ day_text flow.paid ++ codes " " ++ decimal_text flow.amount 6 ++ codes " "
    ++ decimal_text flow.factor 12 ++ codes " " ++ decimal_text flow.product 18 ++ fixing_text flow.fixing ++ codes "\n"
    ++ flows_text name flows

-- the flows, and `B sum SUM`; none where they are refused, and then no value is shown
abbrev pub sum_text : List ℕ → Result (List FlowProduct) Cause → List ℕ
sum_text name (Err cause) = []
sum_text name (Ok flows) =
    flows_text name flows ++ name ++ codes " sum " ++ decimal_text (sum_of_flows flows) 18 ++ codes "\n"

-- the nodes of a value that is a curve
abbrev pub nodes_of : Value → List CurveNode
nodes_of (value.Money amount) = []
nodes_of (value.Curve curve) = curve.nodes

-- the workings of a value of the object o with these terms, over the inputs of its price
abbrev pub workings_over : Standing → ℕ → Terms → Value → List input.Input → List ℕ
workings_over p o (Quote value) shown inputs = []
workings_over p o (Derived minus first second) shown inputs = []
workings_over p o (Handle kind target) shown inputs = []
workings_over p o (Index terms fixings) shown inputs = []
workings_over p o (Engine curve) shown inputs = []
workings_over p o (Stock quote) shown inputs = []
workings_over p o (Curve terms) shown inputs =
    node_rates_text p (named p o) (node_rates (nodes_of shown) terms.helpers inputs)
workings_over p o (Implied curve reference) shown inputs = nodes_text (named p o) (nodes_of shown)
workings_over p o (Composite parts) shown inputs = parts_text p (named p o) (part_products parts inputs)
workings_over p o (Flows flows engine) shown inputs =
    if is_expired flows.flows p.state.market.today
    then []
    else sum_text (named p o) (flows_at p.state.market o flows inputs)

-- where an input is refused there is no value to work out
abbrev pub workings_by : Standing → ℕ → Terms → Value → Result (List input.Input) Cause → List ℕ
workings_by p o terms shown (Ok inputs) = workings_over p o terms shown inputs
workings_by p o terms shown (Err cause) = []

-- the workings of what an object shows: none where it is refused
abbrev pub workings_of : Calc → Standing → ℕ → Terms → Outcome → List ℕ
workings_of calc p o terms (Ok shown) = workings_by p o terms shown (inputs_by (shows calc p.state) (uses p.state.market o))
workings_of calc p o terms (Err cause) = []

-- ---- one object

-- `N source S`: what makes a late object late
abbrev pub source_text : Standing → ℕ → Option ℕ → List ℕ
source_text p o None = []
source_text p o (Some source) = named p o ++ codes " source " ++ named p source ++ codes "\n"

-- behind the line of a priced object: of a frozen one nothing, of a late one its source, of any other its workings
abbrev pub behind : Calc → Standing → ℕ → Terms → List ℕ
behind calc p o terms =
    if is_frozen p.state o
    then []
    else if is_late p.state o
    then source_text p o (least_source p.state o)
    else workings_of calc p o terms (shows calc p.state o)

-- `N KIND MARK VALUE`, and what stands behind it
abbrev pub priced_text : Calc → Standing → ℕ → Terms → List ℕ
priced_text calc p o terms =
    named p o ++ codes " " ++ terms_word terms ++ codes " " ++ mark_word (mark_of p.state o) ++ codes " "
    ++ shown_text p (shows calc p.state o) ++ codes "\n" ++ behind calc p o terms

-- `Q quote VALUE`
abbrev pub quote_text : Standing → ℕ → Option ℤ → List ℕ
quote_text p o rate = named p o ++ codes " quote " ++ rate_text rate ++ codes "\n"

-- `N KIND` and what it observes, `today` apart
abbrev pub passing_text : Standing → ℕ → Terms → List ℕ
passing_text p o terms =
    named p o ++ codes " " ++ terms_word terms ++ each_named p (without 0 (edges p.state.market o)) ++ codes "\n"

abbrev pub terms_text : Calc → Standing → ℕ → Terms → List ℕ
terms_text calc p o (Quote rate) = quote_text p o rate
terms_text calc p o (Derived minus first second) = passing_text p o (Derived minus first second)
terms_text calc p o (Handle kind target) = passing_text p o (Handle kind target)
terms_text calc p o (Index terms fixings) = passing_text p o (Index terms fixings)
terms_text calc p o (Engine curve) = passing_text p o (Engine curve)
terms_text calc p o (Curve terms) = priced_text calc p o (Curve terms)
terms_text calc p o (Implied curve reference) = priced_text calc p o (Implied curve reference)
terms_text calc p o (Stock quote) = priced_text calc p o (Stock quote)
terms_text calc p o (Composite parts) = priced_text calc p o (Composite parts)
terms_text calc p o (Flows flows engine) = priced_text calc p o (Flows flows engine)

-- what is written of an object by what stands at its number: `today day DAY` of the evaluation date, of a watcher nothing
abbrev pub slot_text : Calc → Standing → ℕ → Slot → List ℕ
slot_text calc p o slot.Free = []
slot_text calc p o slot.Today = named p o ++ codes " day " ++ day_text p.state.market.today ++ codes "\n"
slot_text calc p o slot.Watcher = []
slot_text calc p o (slot.Live terms) = terms_text calc p o terms

unfoldable pub object_lines : Calc → Standing → ℕ → List ℕ
object_lines calc p o = slot_text calc p o (slot_at p.state.market o)

unfoldable pub lines_of_each : Calc → Standing → List ℕ → List ℕ
lines_of_each calc p [] = []
lines_of_each calc p (o ∷ os) = object_lines calc p o ++ lines_of_each calc p os

-- ---- the whole

-- the live priced object that a text names, or why there is none
abbrev pub priced_object : Standing → List ℕ → Result ℕ Refusal
priced_object p text =
    if has_text p.names text then find Priced p (place_of p.names text) else Err (Unknown (place_of p.names text))

-- `refused why unknown NAME` or `refused why kind NAME`, the name as it was given
abbrev pub refused_text : Refusal → List ℕ → List ℕ
refused_text refusal text = codes "refused why " ++ refusal_word refusal ++ codes " " ++ text ++ codes "\n"

-- the line of an ask of the name, and then each object that the answer lists
abbrev pub answer_for : Calc → Standing → List ℕ → Result ℕ Refusal → List ℕ
answer_for calc p text (Err refusal) = refused_text refusal text
answer_for calc p text (Ok o) =
    line_of p (place_of p.names text) o Ask (asking calc o p.state) ++ lines_of_each calc p (listing p.state o)

-- THE ANSWER for a name over a session
unfoldable pub why_text : Calc → Standing → List ℕ → List ℕ
why_text calc p text = answer_for calc p text (priced_object p text)
