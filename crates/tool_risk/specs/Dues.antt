-- WHAT AN INSTRUMENT PAYS until the next business day: of its flows those that its price counts today, and on that day no longer.
use Rattle.std.specs.Prelude.{ℕ, zero, suc, ℤ, pos, neg_ℤ, ◌+ℤ◌, ◌*ℤ◌, ◌^◌, int_le, Bool, ◌&&◌, if◌then◌else◌, List, [], ◌∷◌, ◌++◌, slice_get, Option, None, Some, Result, Ok, Err}
use Rattle.curve_points.specs.Curve.{Curve}
use Rattle.flow_terms.specs.declared.flows.FlowTerms.{FlowTerms}
use Rattle.flow_terms.specs.Flows.{is_expired, needs_forecast}
use Rattle.desk_terms.specs.declared.kind.Wanted.TheVariants.{Member}
use Rattle.desk_terms.specs.declared.cause.Cause.{Cause}
use Rattle.desk_terms.specs.declared.cause.Cause.TheVariants.{TooLarge, Unpriced}
use Rattle.desk_terms.specs.declared.terms.Part.{Part}
use Rattle.desk_terms.specs.declared.terms.Terms.{Terms}
use Rattle.desk_terms.specs.declared.terms.Terms.TheVariants.{Quote, Derived, Handle, Curve as Built, Implied, Index, Engine, Stock, Composite, Flows}
use Rattle.desk_terms.specs.Reading.{IndexReading}
use Rattle.desk_model.specs.Links.{serves_as}
use Rattle.desk_model.specs.Market.{Market, kind_at, terms_at}
use Rattle.desk_model.specs.Uses.{index_at}
use Rattle.cash_flow_legs.specs.declared.live_flows.Flow.{Flow}
use Rattle.cash_flow_legs.specs.Amount.{IndexView}
use Rattle.cash_flow_legs.specs.Live.{live_flows}
use Rattle.bump_model.specs.Quotes.{stands_on}
use Rattle.tool_risk.specs.declared.dues.Span as code
use Rattle.tool_risk.specs.declared.given.GivenCurve.{GivenCurve}
use Rattle.tool_risk.specs.Given.{curve_by}

-- the day until which payments count, and the curves that engines and indexes give today and on that day
pub record Span : Type 0 where
  pub day : ℤ
  pub today : List GivenCurve
  pub later : List GivenCurve

abbrev pub span_of : ℤ → List GivenCurve → List GivenCurve → Span
span_of day today later = record { day = day; today = today; later = later }

-- the same of the code's
abbrev pub span_in : code.Span → Span
span_in span = span_of span.day span.today.now span.later.now

-- an amount within the limit of prices: 10^24 units either way
abbrev pub money_of : ℕ → ℤ → Result ℤ Cause
money_of o units = if int_le (neg_ℤ (pos (10 ^ 24))) units && int_le units (pos (10 ^ 24)) then Ok units else Err (TooLarge o)

-- ---- of flows

-- the last day whose payments a price on a day no longer counts: the later of the day and the reference day of the discount curve
abbrev pub settled : ℤ → Option Curve → ℤ
settled day None = day
settled day (Some curve) = if int_le curve.reference day then day else curve.reference

-- the amount of a flow that is paid up to a day; nothing of another
abbrev pub amount_by : ℤ → Flow → ℤ
amount_by until flow = if int_le flow.paid until then flow.amount else pos 0

abbrev pub amounts : ℤ → List Flow → ℤ
amounts until [] = pos 0
amounts until (flow ∷ flows) = amount_by until flow +ℤ amounts until flows

-- the sum of flows up to a day, where they have amounts
abbrev pub paid_until : ℕ → ℤ → Result (List Flow) Cause → Result ℤ Cause
paid_until o until (Ok flows) = money_of o (amounts until flows)
paid_until o until (Err cause) = Err cause

-- the flows that a price counts over a discount curve and, where a rate has to be forecast, over the curve of the index; up to a day
abbrev pub due_over : ℕ → FlowTerms → ℤ → ℤ → ℤ → Option IndexView → Option Curve → Result ℤ Cause
due_over o flows today after until index forecast =
    paid_until o until (live_flows index today after forecast o flows.flows)

abbrev pub view_read : IndexReading → IndexView
view_read index = record { object = index.object; terms = index.terms; fixings = index.fixings }

-- no price counts a flow whose index gives no curve where it needs one
abbrev pub due_by : ℕ → FlowTerms → ℤ → ℤ → ℤ → IndexReading → Bool → Option Curve → Result ℤ Cause
due_by o flows today after until index needs (Some forecast) = due_over o flows today after until (Some (view_read index)) (Some forecast)
due_by o flows today after until index needs None =
    if needs then Err (Unpriced o) else due_over o flows today after until (Some (view_read index)) None

abbrev pub due_on : ℕ → FlowTerms → ℤ → ℤ → ℤ → Option IndexReading → Option Curve → Result ℤ Cause
due_on o flows today after until None forecast = Err (Unpriced o)
due_on o flows today after until (Some index) forecast =
    due_by o flows today after until index (needs_forecast flows.flows index.fixings today) forecast

abbrev pub due_named : Market → ℕ → FlowTerms → ℤ → ℤ → Option ℕ → List GivenCurve → Result ℤ Cause
due_named market o flows after until None curves = due_over o flows market.today after until None None
due_named market o flows after until (Some x) curves =
    due_on o flows market.today after until (index_at market (Some x)) (curve_by curves x)

abbrev pub due_after : Market → ℕ → FlowTerms → ℤ → List GivenCurve → Option Curve → Result ℤ Cause
due_after market o flows until curves None = Err (Unpriced o)
due_after market o flows until curves (Some curve) = due_named market o flows curve.reference until flows.index curves

-- nothing where each is paid
abbrev pub flows_due : Market → ℕ → FlowTerms → ℕ → Span → Result ℤ Cause
flows_due market o flows engine span =
    if is_expired flows.flows market.today
    then Ok (pos 0)
    else due_after market o flows (settled span.day (curve_by span.later engine)) span.today
    (curve_by span.today engine)

-- ---- of instruments, in order of creation: what a composite names was made before it

abbrev pub or_unpriced : ℕ → Option (Result ℤ Cause) → Result ℤ Cause
or_unpriced member None = Err (Unpriced member)
or_unpriced member (Some due) = due

abbrev pub member_due : List (Result ℤ Cause) → ℕ → Result ℤ Cause
member_due before member = or_unpriced member (slice_get before member)

abbrev pub times : ℤ → Result ℤ Cause → Result ℤ Cause
times weight (Ok due) = Ok (weight *ℤ due)
times weight (Err cause) = Err cause

-- a weight times what its member pays
abbrev pub product : List (Result ℤ Cause) → Part → Result ℤ Cause
product before part = times part.weight (member_due before part.member)

abbrev pub added : ℤ → Result ℤ Cause → Result ℤ Cause
added units (Ok sum) = Ok (units +ℤ sum)
added units (Err cause) = Err cause

abbrev pub and_sum : Result ℤ Cause → Result ℤ Cause → Result ℤ Cause
and_sum (Ok units) sum = added units sum
and_sum (Err cause) sum = Err cause

-- the sum over the parts; the first cause decides
abbrev pub summed : (Part → Result ℤ Cause) → List Part → Result ℤ Cause
summed value [] = Ok (pos 0)
summed value (part ∷ parts) = and_sum (value part) (summed value parts)

abbrev pub in_limit : ℕ → Result ℤ Cause → Result ℤ Cause
in_limit o (Ok units) = money_of o units
in_limit o (Err cause) = Err cause

abbrev pub weighted : ℕ → List Part → List (Result ℤ Cause) → Result ℤ Cause
weighted o parts before = in_limit o (summed (product before) parts)

-- a stock pays nothing
abbrev pub due_in : Market → ℕ → Span → List (Result ℤ Cause) → Option Terms → Result ℤ Cause
due_in market o span before None = Ok (pos 0)
due_in market o span before (Some (Quote value)) = Ok (pos 0)
due_in market o span before (Some (Derived minus first second)) = Ok (pos 0)
due_in market o span before (Some (Handle kind target)) = Ok (pos 0)
due_in market o span before (Some (Index terms fixings)) = Ok (pos 0)
due_in market o span before (Some (Engine curve)) = Ok (pos 0)
due_in market o span before (Some (Built terms)) = Ok (pos 0)
due_in market o span before (Some (Implied curve reference)) = Ok (pos 0)
due_in market o span before (Some (Stock quote)) = Ok (pos 0)
due_in market o span before (Some (Composite parts)) = weighted o parts before
due_in market o span before (Some (Flows flows None)) = Ok (pos 0)
due_in market o span before (Some (Flows flows (Some engine))) = flows_due market o flows engine span

abbrev pub due_of : Market → ℕ → Span → List (Result ℤ Cause) → Result ℤ Cause
due_of market o span before = due_in market o span before (terms_at market o)

-- an instrument beneath o
abbrev pub is_member : Market → ℕ → ℕ → Bool
is_member market o x = serves_as (kind_at market x) Member && stands_on market o x

abbrev pub due_beneath : Market → ℕ → ℕ → Span → List (Result ℤ Cause) → Result ℤ Cause
due_beneath market o x span before = if is_member market o x then due_of market x span before else Ok (pos 0)

-- what each of the first objects pays that lies beneath o
unfoldable pub dues : Market → ℕ → Span → ℕ → List (Result ℤ Cause)
dues market o span zero = []
dues market o span (suc x) = dues market o span x ++ due_beneath market o x span (dues market o span x) ∷ []

-- WHAT o PAYS
abbrev pub paid : Market → ℕ → Span → Result ℤ Cause
paid market o span = due_of market o span (dues market o span o)
