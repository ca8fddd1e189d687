-- The workings of a value: the numbers from which a hand gets it (this project's profile).
use Rattle.std.specs.Prelude.{ℕ, ℤ, pos, ◌+ℤ◌, ◌*ℤ◌, List, [], ◌∷◌, Option, Some, None, Result, Ok, Err}
use Rattle.std.specs.List.{filter}
use Rattle.curve_points.specs.declared.curves.CurveNode.{CurveNode}
use Rattle.curve_points.specs.Curve.{Curve}
use Rattle.curve_terms.specs.declared.terms.Helper.{Helper}
use Rattle.desk_terms.specs.declared.terms.Part.{Part}
use Rattle.desk_terms.specs.declared.value.Input as input
use Rattle.desk_terms.specs.declared.cause.Cause.{Cause}
use Rattle.desk_terms.specs.declared.cause.Cause.TheVariants.{NoFixing, TooLarge}
use Rattle.flow_terms.specs.declared.flows.FlowTerm.{FlowTerm}
use Rattle.flow_terms.specs.declared.flows.FlowTerms.{FlowTerms}
use Rattle.flow_terms.specs.Flows.{paid_on, fixed_on}
use Rattle.cash_flow_legs.specs.Amount.{IndexView, amount_of, rate_on}
use Rattle.cash_flow_legs.specs.Live.{is_live}
use Rattle.discount_engines.specs.Worth.{factor_on}
use Rattle.discount_engines.specs.Flows.{view_read}
use Rattle.desk_model.specs.Market.{Market}
use Rattle.desk_model.specs.Uses.{index_at}

-- ---- a composite

-- a weight, a member, what the member is worth, and the product of weight and worth
pub record PartProduct : Type 0 where
  pub weight : ℤ
  pub member : ℕ
  pub worth : ℤ
  pub product : ℤ

-- a part, where its member is worth so much
abbrev pub part_product : Part → ℤ → PartProduct
part_product part worth =
    record { weight = part.weight; member = part.member; worth = worth; product = part.weight *ℤ worth }

-- the parts in order, each with what its member is worth
abbrev pub part_products : List Part → List input.Input → List PartProduct
part_products [] inputs = []
part_products (part ∷ parts) [] = []
part_products (part ∷ parts) (input.TheVariants.Money worth ∷ inputs) = part_product part worth ∷ part_products parts inputs
part_products (part ∷ parts) (input.TheVariants.Rate rate ∷ inputs) = []
part_products (part ∷ parts) (input.TheVariants.Curve curve ∷ inputs) = []

-- the sum of the products
abbrev pub sum_of_parts : List PartProduct → ℤ
sum_of_parts [] = pos 0
sum_of_parts (part ∷ parts) = part.product +ℤ sum_of_parts parts

-- ---- a curve

-- a node, the quote of its helper, and the rate that was read there
pub record NodeRate : Type 0 where
  pub node : CurveNode
  pub quote : ℕ
  pub rate : ℤ

-- the nodes in order: the one at the end of each helper, with the rate that its quote gives
abbrev pub node_rates : List CurveNode → List Helper → List input.Input → List NodeRate
node_rates [] helpers inputs = []
node_rates (node ∷ nodes) [] inputs = []
node_rates (node ∷ nodes) (helper ∷ helpers) [] = []
node_rates (node ∷ nodes) (helper ∷ helpers) (input.TheVariants.Rate rate ∷ inputs) =
    record { node = node; quote = helper.quote; rate = rate } ∷ node_rates nodes helpers inputs
node_rates (node ∷ nodes) (helper ∷ helpers) (input.TheVariants.Money amount ∷ inputs) = []
node_rates (node ∷ nodes) (helper ∷ helpers) (input.TheVariants.Curve curve ∷ inputs) = []

-- ---- a bond, swap or forward rate agreement

-- a flow: the day on which it is paid, its amount, the discount factor there, the product of both, and the day and the
-- rate of the fixing on which the amount stands, if it stands on one
pub record FlowProduct : Type 0 where
  pub paid : ℤ
  pub amount : ℤ
  pub factor : ℤ
  pub product : ℤ
  pub fixing : Option (ℤ × ℤ)

-- a rate with its day
abbrev pub rate_of_day : ℤ → Result ℤ Cause → Result (Option (ℤ × ℤ)) Cause
rate_of_day day (Ok rate) = Ok (Some (day, rate))
rate_of_day day (Err cause) = Err cause

-- the fixing of a flow, by the rates of its index
abbrev pub fixing_by : (ℤ → Result ℤ Cause) → Option ℤ → Result (Option (ℤ × ℤ)) Cause
fixing_by rate None = Ok None
fixing_by rate (Some day) = rate_of_day day (rate day)

-- the rate of an index that is given; without one there is none, of the instrument o
abbrev pub rate_by : Option IndexView → ℤ → Option Curve → ℕ → ℤ → Result ℤ Cause
rate_by (Some index) today forecast o day = rate_on index today forecast day
rate_by None today forecast o day = Err (NoFixing o day)

-- the three that make it up; the first cause decides
abbrev pub flow_of : ℤ → Result ℤ Cause → Result ℤ Cause → Result (Option (ℤ × ℤ)) Cause → Result FlowProduct Cause
flow_of paid (Err cause) factor fixing = Err cause
flow_of paid (Ok amount) (Err cause) fixing = Err cause
flow_of paid (Ok amount) (Ok factor) (Err cause) = Err cause
flow_of paid (Ok amount) (Ok factor) (Ok fixing) =
    Ok (record { paid = paid; amount = amount; factor = factor; product = amount *ℤ factor; fixing = fixing })

-- a flow, where these give amounts, discount factors and rates
abbrev pub flow_product : (FlowTerm → Result ℤ Cause) → (ℤ → Result ℤ Cause) → (ℤ → Result ℤ Cause) → FlowTerm
    → Result FlowProduct Cause
flow_product amount factor rate flow =
    flow_of (paid_on flow) (amount flow) (factor (paid_on flow)) (fixing_by rate (fixed_on flow))

-- a flow in front of others; the first cause decides
abbrev pub before : Result FlowProduct Cause → Result (List FlowProduct) Cause → Result (List FlowProduct) Cause
before (Err cause) flows = Err cause
before (Ok flow) (Err cause) = Err cause
before (Ok flow) (Ok flows) = Ok (flow ∷ flows)

unfoldable pub each_flow : (FlowTerm → Result FlowProduct Cause) → List FlowTerm → Result (List FlowProduct) Cause
each_flow product [] = Ok []
each_flow product (flow ∷ flows) = before (product flow) (each_flow product flows)

-- the flows of o that are paid after today and after the discount curve's reference day, in their order
abbrev pub flow_products : ℕ → List FlowTerm → ℤ → Option IndexView → Curve → Option Curve
    → Result (List FlowProduct) Cause
flow_products o flows today index curve forecast =
    each_flow (flow_product (amount_of index today forecast o) (factor_on curve) (rate_by index today forecast o))
    (filter (is_live today curve.reference) flows)

-- over the inputs of the price: the discount curve, and the curve that the index is forecast from where it is taken too
abbrev pub flows_over : ℕ → List FlowTerm → ℤ → Option IndexView → List input.Input → Result (List FlowProduct) Cause
flows_over o flows today index (input.TheVariants.Curve curve ∷ []) = flow_products o flows today index curve None
flows_over o flows today index (input.TheVariants.Curve curve ∷ input.TheVariants.Curve forecast ∷ []) =
    flow_products o flows today index curve (Some forecast)
flows_over o flows today index inputs = Err (TooLarge o)

-- the flows of an object with these terms, at the evaluation date of a market and by the fixings of its index there
abbrev pub flows_at : Market → ℕ → FlowTerms → List input.Input → Result (List FlowProduct) Cause
flows_at market o flows inputs = flows_over o flows.flows market.today (view_read (index_at market flows.index)) inputs

-- THE SUM of the products, exact
abbrev pub sum_of_flows : List FlowProduct → ℤ
sum_of_flows [] = pos 0
sum_of_flows (flow ∷ flows) = flow.product +ℤ sum_of_flows flows
