-- What is drawn of one object (this project's profile).
use Rattle.std.specs.Prelude.{ℕ, ℤ, ◌-◌, Bool, true, false, if◌then◌else◌, List, length, Option, None, Some, slice_get}
use Rattle.std.specs.List.{list_any}
use Rattle.curve_points.specs.declared.curves.CurveNode.{CurveNode}
use Rattle.curve_points.specs.Curve.{Curve, origin}
use Rattle.desk_terms.specs.declared.asked.Asked.{Asked}
use Rattle.desk_terms.specs.declared.asked.Mark.{Mark}
use Rattle.desk_terms.specs.declared.cause.Cause.{Cause}
use Rattle.desk_terms.specs.declared.kind.Kind.{Kind}
use Rattle.desk_terms.specs.declared.kind.Kind.TheVariants.{Today}
use Rattle.desk_terms.specs.declared.terms.Terms.{Terms}
use Rattle.desk_terms.specs.declared.terms.Terms.TheVariants as terms
use Rattle.desk_terms.specs.declared.value.Value.{Value}
use Rattle.desk_terms.specs.declared.value.Value.TheVariants as value
use Rattle.desk_terms.specs.Kind.{Role, role}
use Rattle.desk_terms.specs.Kind.Role.{Source, Forwarder, Lazy, Watching}
use Rattle.desk_model.specs.Market.{terms_at}
use Rattle.desk_model.specs.State.{State, kept_at, is_source}
use Rattle.object_store.specs.Objects.{quoted}
use Rattle.flow_terms.specs.declared.flows.FlowTerm.{FlowTerm}
use Rattle.flow_terms.specs.declared.flows.FlowTerm.TheVariants.{Known, Float, Forward}
use Rattle.session_model.specs.Place.{is_kind}
use Rattle.graph_dot.specs.declared.node.Finding.{Finding}
use Rattle.graph_dot.specs.declared.node.Finding.TheVariants.{Unasked, NotCurrent, Kept, Missing}
use Rattle.graph_dot.specs.declared.node.Shown.{Shown}
use Rattle.graph_dot.specs.declared.node.Shown.TheVariants as shown
use Rattle.graph_dot.specs.declared.node.FlowKind.{FlowKind}
use Rattle.graph_dot.specs.declared.node.FlowKind.TheVariants.{Bond, Swap, Agreement}
use Rattle.graph_dot.specs.declared.node.GraphNode.{GraphNode}

-- ---- what an ask would find

-- an answer without a computation: the last value, or that there is none
abbrev pub kept_as : Option Cause → Mark → Finding
kept_as None mark = Kept mark
kept_as (Some cause) mark = Missing mark

-- of a priced object: where an ask answers nothing without a computation, it is not current
abbrev pub found_in : Option Asked → Finding
found_in None = NotCurrent
found_in (Some asked) = kept_as asked.cause asked.mark

-- only what is priced is asked
abbrev pub finding_of : Role → Option Asked → Finding
finding_of Source held = Unasked
finding_of Forwarder held = Unasked
finding_of Lazy held = found_in held
finding_of Watching held = Unasked

-- ---- what is shown of a value

-- the last point of a curve: where it begins, if it has no node
abbrev pub point_or_origin : ℤ → Option CurveNode → CurveNode
point_or_origin reference None = origin reference
point_or_origin reference (Some node) = node

abbrev pub last_point : Curve → CurveNode
last_point curve = point_or_origin curve.reference (slice_get curve.nodes (length curve.nodes - 1))

abbrev pub value_shown : Value → Shown
value_shown (value.Money amount) = shown.Money amount
value_shown (value.Curve curve) = shown.Point (last_point curve)

abbrev pub last_shown : Option Value → Shown
last_shown None = shown.Nothing
last_shown (Some value) = value_shown value

abbrev pub rate_shown : Option ℤ → Shown
rate_shown None = shown.Unset
rate_shown (Some rate) = shown.Rate rate

-- the rate of a quote, the last value of any other object
abbrev pub shown_as : Option (Option ℤ) → Option Value → Shown
shown_as None last = last_shown last
shown_as (Some rate) last = rate_shown rate

abbrev pub quoted_in : Option Terms → Option (Option ℤ)
quoted_in None = None
quoted_in (Some terms) = quoted terms

abbrev pub shown_at : State → ℕ → Shown
shown_at state o = shown_as (quoted_in (terms_at state.market o)) (kept_at state o).last

-- and of `today` the date
abbrev pub shown_for : State → ℕ → Kind → Shown
shown_for state o kind = if is_kind Today kind then shown.Date state.market.today else shown_at state o

-- ---- what an instrument of flows is

-- a redemption is an amount that accrues over no period
abbrev pub is_redemption : FlowTerm → Bool
is_redemption (Known paid amount None) = true
is_redemption (Known paid amount (Some period)) = false
is_redemption (Float paid notional spread parts fixing) = false
is_redemption (Forward paid notional strike fixing) = false

abbrev pub is_settlement : FlowTerm → Bool
is_settlement (Known paid amount period) = false
is_settlement (Float paid notional spread parts fixing) = false
is_settlement (Forward paid notional strike fixing) = true

-- a forward rate agreement is settled, a bond is redeemed, a swap is neither
abbrev pub flow_kind : List FlowTerm → FlowKind
flow_kind flows = if list_any is_settlement flows then Agreement else if list_any is_redemption flows then Bond else Swap

-- of terms that are no flows it is none
abbrev pub flows_of : Terms → Option FlowKind
flows_of (terms.Quote value) = None
flows_of (terms.Derived minus first second) = None
flows_of (terms.Handle kind target) = None
flows_of (terms.Curve terms) = None
flows_of (terms.Implied curve reference) = None
flows_of (terms.Index terms fixings) = None
flows_of (terms.Engine curve) = None
flows_of (terms.Stock quote) = None
flows_of (terms.Composite parts) = None
flows_of (terms.Flows flows engine) = Some (flow_kind flows.flows)

abbrev pub flows_in : Option Terms → Option FlowKind
flows_in None = None
flows_in (Some terms) = flows_of terms

abbrev pub flows_at : State → ℕ → Option FlowKind
flows_at state o = flows_in (terms_at state.market o)

-- ---- the node

-- the node of an object of a kind, where this is what an ask answers without a computation
abbrev pub node_of : State → ℕ → Kind → Option Asked → GraphNode
node_of state o kind held = record {
  object = o;
  kind = kind;
  flows = flows_at state o;
  shown = shown_for state o kind;
  finding = finding_of (role kind) held;
  is_deferred = is_source state o;
}
