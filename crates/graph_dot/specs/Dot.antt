-- THE GRAPH as text in Graphviz' DOT language (this project's profile, after The DOT Language and Graphviz' attributes).
-- `names` are the texts of the names by their numbers, `of_object` the names of the objects by theirs. The pieces of text
-- stand in `src/texts.rt`. Names are written within quotes, as a word of DOT may be one; `Plain` says why nothing in them
-- has to be escaped.
use Rattle.std.specs.Prelude.{ℕ, ℤ, Bool, true, false, ◌==◌, List, [], ◌∷◌, ◌++◌, codes, Option, None, Some}
use Rattle.day_number.specs.Day.{day_text}
use Rattle.fixed_amount.specs.Decimal.{decimal_text}
use Rattle.price_report.specs.Namer.{object_text}
use Rattle.price_report.specs.Line.{point_text}
use Rattle.curve_points.specs.declared.curves.CurveNode.{CurveNode}
use Rattle.desk_terms.specs.declared.kind.Kind.{Kind}
use Rattle.desk_terms.specs.declared.kind.Kind.TheVariants as kind
use Rattle.desk_terms.specs.Kind.{Role, role}
use Rattle.desk_terms.specs.Kind.Role.{Source, Forwarder, Lazy, Watching}
use Rattle.desk_terms.specs.declared.asked.Mark.TheVariants.{Fresh, Frozen, Late, Held, Recalc}
use Rattle.desk_terms.specs.Asked.{mark_word}
use Rattle.graph_dot.specs.declared.node.Finding.{Finding}
use Rattle.graph_dot.specs.declared.node.Finding.TheVariants.{Unasked, NotCurrent, Kept, Missing}
use Rattle.graph_dot.specs.declared.node.Shown.{Shown}
use Rattle.graph_dot.specs.declared.node.Shown.TheVariants.{Nothing, Date, Unset, Rate, Money, Point}
use Rattle.graph_dot.specs.declared.node.FlowKind.{FlowKind}
use Rattle.graph_dot.specs.declared.node.FlowKind.TheVariants.{Bond, Swap, Agreement}
use Rattle.graph_dot.specs.declared.node.GraphNode.{GraphNode}
use Rattle.graph_dot.specs.declared.node.GraphEdge.{GraphEdge}
use Rattle.graph_dot.specs.declared.texts.TheConstants.{HEAD, FOOT, NODE, SHAPE, DEFERRED, LABEL, NODE_END, LINE, ARROW, ARROW_END, DASHED_END, LIGHT_END, LIGHT_DASHED_END}

-- ---- the nodes

-- the word of a kind
abbrev pub kind_word : Kind → List ℕ
kind_word kind.Today = codes "evaluation date"
kind_word kind.Quote = codes "quote"
kind_word kind.Derived = codes "derived quote"
kind_word kind.QuoteHandle = codes "quote handle"
kind_word kind.CurveHandle = codes "curve handle"
kind_word kind.Index = codes "index"
kind_word kind.Engine = codes "engine"
kind_word kind.Curve = codes "curve"
kind_word kind.Implied = codes "implied curve"
kind_word kind.Stock = codes "stock"
kind_word kind.Composite = codes "composite"
kind_word kind.Flows = codes "cash flows"
kind_word kind.Watcher = codes "watcher"

-- the word of what an instrument of flows is
abbrev pub flow_word : FlowKind → List ℕ
flow_word Bond = codes "bond"
flow_word Swap = codes "swap"
flow_word Agreement = codes "forward rate agreement"

abbrev pub node_word : Kind → Option FlowKind → List ℕ
node_word kind None = kind_word kind
node_word kind (Some flows) = flow_word flows

-- a shape for each role
abbrev pub shape_in : Role → List ℕ
shape_in Source = codes "ellipse"
shape_in Forwarder = codes "hexagon"
shape_in Lazy = codes "box"
shape_in Watching = codes "octagon, style=\"filled,dotted\""

abbrev pub shape_of : Kind → List ℕ
shape_of k = shape_in (role k)

-- a colour for what an ask would find
abbrev pub colour_of : Finding → List ℕ
colour_of Unasked = []
colour_of NotCurrent = codes ", fillcolor=\"#d9d9d9\""
colour_of (Kept Fresh) = codes ", fillcolor=\"#b7e1a1\""
colour_of (Kept Frozen) = codes ", fillcolor=\"#a9cdf2\""
colour_of (Kept Late) = codes ", fillcolor=\"#ffc680\""
colour_of (Kept Held) = codes ", fillcolor=\"#fff2a8\""
colour_of (Kept Recalc) = codes ", fillcolor=\"#b7e1a1\""
colour_of (Missing mark) = codes ", fillcolor=\"#f4a6a6\""

-- a double border for a deferred source
abbrev pub border_of : Bool → List ℕ
border_of true = DEFERRED.now
border_of false = []

-- a line of a label, below the one before
unfoldable pub line : List ℕ → List ℕ
line text = LINE.now ++ text

-- the evaluation date
unfoldable pub date_line : ℤ → List ℕ
date_line day = line (day_text day)

-- the last point of a curve: the day, and the discount factor there with twelve places
unfoldable pub point_line : CurveNode → List ℕ
point_line point = line (point_text point.day point.factor)

-- what is shown of a value: a rate with nine places, money with six
abbrev pub shown_lines : Shown → List ℕ
shown_lines Nothing = []
shown_lines (Date day) = date_line day
shown_lines Unset = line (codes "unset")
shown_lines (Rate rate) = line (decimal_text rate 9)
shown_lines (Money amount) = line (decimal_text amount 6)
shown_lines (Point point) = point_line point

-- what an ask would find, in words
abbrev pub finding_lines : Finding → List ℕ
finding_lines Unasked = []
finding_lines NotCurrent = line (codes "not current")
finding_lines (Kept mark) = line (mark_word mark)
finding_lines (Missing mark) = line (mark_word mark) ++ line (codes "unpriced")

abbrev pub deferred_lines : Bool → List ℕ
deferred_lines true = line (codes "deferred")
deferred_lines false = []

-- the label of an object: its name, its kind, its value, what an ask would find, and whether it is a deferred source
unfoldable pub label_text : List ℕ → GraphNode → List ℕ
label_text name node =
    name ++ line (node_word node.kind node.flows) ++ shown_lines node.shown ++ finding_lines node.finding
    ++ deferred_lines node.is_deferred

unfoldable pub node_text : List (List ℕ) → List ℕ → GraphNode → List ℕ
node_text names of_object node =
    NODE.now ++ object_text names of_object node.object ++ SHAPE.now ++ shape_of node.kind ++ colour_of node.finding
    ++ border_of node.is_deferred ++ LABEL.now ++ label_text (object_text names of_object node.object) node
    ++ NODE_END.now

unfoldable pub nodes_text : List (List ℕ) → List ℕ → List GraphNode → List ℕ
nodes_text names of_object [] = []
nodes_text names of_object (node ∷ nodes) = node_text names of_object node ++ nodes_text names of_object nodes

-- ---- the arrows

-- object 0 is `today`
abbrev pub is_today : ℕ → Bool
is_today object = object == 0

-- the arrow of a registration is dashed, one to `today` is light, and moves no object to another column
abbrev pub arrow_end : Bool → Bool → List ℕ
arrow_end true true = LIGHT_DASHED_END.now
arrow_end true false = DASHED_END.now
arrow_end false true = LIGHT_END.now
arrow_end false false = ARROW_END.now

-- an arrow from an object to one that it observes
unfoldable pub edge_text : List (List ℕ) → List ℕ → GraphEdge → List ℕ
edge_text names of_object edge =
    NODE.now ++ object_text names of_object edge.observer ++ ARROW.now ++ object_text names of_object edge.subject
    ++ arrow_end edge.is_registration (is_today edge.subject)

unfoldable pub edges_text : List (List ℕ) → List ℕ → List GraphEdge → List ℕ
edges_text names of_object [] = []
edges_text names of_object (edge ∷ edges) = edge_text names of_object edge ++ edges_text names of_object edges

-- ---- the whole

-- THE GRAPH of these nodes and edges, behind a legend of its signs
unfoldable pub graph_text : List (List ℕ) → List ℕ → List GraphNode → List GraphEdge → List ℕ
graph_text names of_object nodes edges =
    HEAD.now ++ nodes_text names of_object nodes ++ edges_text names of_object edges ++ FOOT.now
