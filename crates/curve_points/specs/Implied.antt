-- A curve seen from a later day (QuantLib's ImpliedTermStructure).
use Rattle.std.specs.Prelude.{◌≡◌, ℕ, ℤ, pos, ◌*ℤ◌, unsigned_abs, int_lt, Bool, ◌||◌, List, map, filter, Option, Some, None, Result, Ok, Err}
use Rattle.std.specs.List.{position_from}
use Rattle.fixed_amount.specs.Rounding.{closest}
use Rattle.curve_points.specs.declared.curves.CurveNode.{CurveNode}
use Rattle.curve_points.specs.declared.points.PointFault.{PointFault}
use Rattle.curve_points.specs.declared.points.PointFault.TheVariants.{Before as PointBefore, Past as PointPast}
use Rattle.curve_points.specs.declared.seen.ImpliedFault.{ImpliedFault}
use Rattle.curve_points.specs.declared.seen.ImpliedFault.TheVariants.{Before, Past, Node, NoMemory}
use Rattle.curve_points.specs.Curve.{Curve}
use Rattle.curve_points.specs.Segment.{one, most}
use Rattle.curve_points.specs.Point.{discount_at}

-- a node as it is seen from a day: its factor over the factor there, rounded once
abbrev pub seen_from : ℤ → CurveNode → CurveNode
seen_from factor node =
    record { day = node.day; factor = closest (node.factor *ℤ one) (unsigned_abs factor) }

-- all nodes as they are seen
abbrev pub all_seen : ℤ → List CurveNode → List CurveNode
all_seen factor nodes = map (seen_from factor) nodes

-- the factor is no discount factor: below one unit, or above 4
abbrev pub is_outside : CurveNode → Bool
is_outside node = int_lt node.factor (pos 1) || int_lt most node.factor

-- the nodes, or the number of one that is out of range
abbrev pub unless_outside : List CurveNode → Option ℕ → Result (List CurveNode) ImpliedFault
unless_outside nodes None = Ok nodes
unless_outside nodes (Some number) = Err (Node number)

-- the nodes, or the number of the first that is out of range, counted from 1
abbrev pub within_range : List CurveNode → Result (List CurveNode) ImpliedFault
within_range nodes = unless_outside nodes (position_from is_outside 1 nodes)

-- the nodes after a day
abbrev pub nodes_after : ℤ → List CurveNode → List CurveNode
nodes_after day nodes = filter (λ node. int_lt day node.day) nodes

-- the nodes after a day as they are seen from it, where the factor there is known
abbrev pub seen_nodes : ℤ → ℤ → List CurveNode → Result (List CurveNode) ImpliedFault
seen_nodes factor day nodes = within_range (all_seen factor (nodes_after day nodes))

-- the curve of an owner, a reference day and nodes
abbrev pub curve_of : ℕ → ℤ → Result (List CurveNode) ImpliedFault → Result Curve ImpliedFault
curve_of owner reference (Ok nodes) =
    Ok (record { owner = owner; reference = reference; nodes = nodes })
curve_of owner reference (Err fault) = Err fault

-- a day outside the curve from which it is to be seen
abbrev pub refusal : PointFault → ImpliedFault
refusal PointBefore = Before
refusal PointPast = Past

-- the nodes seen from a day, by the factor there
abbrev pub seen_at : Result ℤ PointFault → ℤ → List CurveNode → Result (List CurveNode) ImpliedFault
seen_at (Ok factor) day nodes = seen_nodes factor day nodes
seen_at (Err fault) day nodes = Err (refusal fault)

-- the curve that an owner sees from a reference day
unfoldable pub implied_curve : Curve → ℕ → ℤ → Result Curve ImpliedFault
implied_curve curve owner reference =
    curve_of owner reference (seen_at (discount_at curve reference) reference curve.nodes)

-- what a call answers that gives a definition's value or fault, or is refused for want of memory
abbrev pub Gives : {X : Type 0} → Result X ImpliedFault → Result X ImpliedFault → Type 0
Gives due (Ok x) = due ≡ Ok x
Gives due (Err Before) = due ≡ Err Before
Gives due (Err Past) = due ≡ Err Past
Gives due (Err (Node number)) = due ≡ Err (Node number)
Gives due (Err NoMemory) = Unit {0}
