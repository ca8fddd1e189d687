-- Nodes and arrows written out by hand.
use Rattle.std.specs.Prelude.{◌≡◌, ℕ, Bool, true, false, List, [], ◌∷◌, pos, negsuc, codes, Option, None, Some}
use Rattle.desk_terms.specs.declared.kind.Kind.TheVariants.{Today, Quote, CurveHandle, Curve, Stock, Flows, Watcher}
use Rattle.desk_terms.specs.declared.kind.Kind.{Kind}
use Rattle.desk_terms.specs.declared.asked.Mark.TheVariants.{Fresh, Frozen}
use Rattle.graph_dot.specs.declared.node.FlowKind.{FlowKind}
use Rattle.graph_dot.specs.declared.node.FlowKind.TheVariants.{Bond, Swap, Agreement}
use Rattle.graph_dot.specs.declared.node.Finding.{Finding}
use Rattle.graph_dot.specs.declared.node.Finding.TheVariants.{Unasked, NotCurrent, Kept, Missing}
use Rattle.graph_dot.specs.declared.node.Shown.{Shown}
use Rattle.graph_dot.specs.declared.node.Shown.TheVariants as shown
use Rattle.graph_dot.specs.Dot.{node_text, edges_text, graph_text}
use Rattle.graph_dot.specs.declared.node.GraphNode.{GraphNode}

abbrev pub five_names : List (List ℕ)
five_names = codes "today" ∷ codes "q" ∷ codes "s" ∷ codes "c" ∷ codes "w" ∷ []

abbrev pub five_objects : List ℕ
five_objects = 0 ∷ 1 ∷ 2 ∷ 3 ∷ 4 ∷ []

abbrev pub flowing : ℕ → Kind → Option FlowKind → Shown → Finding → Bool → GraphNode
flowing object kind flows shown finding is_deferred =
    record { object = object; kind = kind; flows = flows; shown = shown; finding = finding; is_deferred = is_deferred }

abbrev pub node : ℕ → Kind → Shown → Finding → Bool → GraphNode
node object kind shown finding is_deferred = flowing object kind None shown finding is_deferred

abbrev pub drawn : GraphNode → List ℕ
drawn n = node_text five_names five_objects n

pub record AreDrawn : Type 0 where
  pub today : drawn (node 0 Today (shown.Date (pos 19_724)) Unasked false) ≡
      codes "  \"today\" [shape=ellipse, label=\"today\\nevaluation date\\n2024-01-02\"];\n"
  pub quote : drawn (node 1 Quote (shown.Rate (pos 36_000_000)) Unasked true) ≡
      codes "  \"q\" [shape=ellipse, peripheries=2, label=\"q\\nquote\\n0.036000000\\ndeferred\"];\n"
  pub unset : drawn (node 1 Quote shown.Unset Unasked false) ≡
      codes "  \"q\" [shape=ellipse, label=\"q\\nquote\\nunset\"];\n"
  pub fresh : drawn (node 2 Stock (shown.Money (negsuc 12_345_677)) (Kept Fresh) false) ≡
      codes "  \"s\" [shape=box, fillcolor=\"#b7e1a1\", label=\"s\\nstock\\n-12.345678\\nfresh\"];\n"
  pub unpriced : drawn (node 2 Flows shown.Nothing (Missing Frozen) false) ≡
      codes "  \"s\" [shape=box, fillcolor=\"#f4a6a6\", label=\"s\\ncash flows\\nfrozen\\nunpriced\"];\n"
  pub bond : drawn (flowing 2 Flows (Some Bond) shown.Nothing NotCurrent false) ≡
      codes "  \"s\" [shape=box, fillcolor=\"#d9d9d9\", label=\"s\\nbond\\nnot current\"];\n"
  pub swap : drawn (flowing 2 Flows (Some Swap) shown.Nothing NotCurrent false) ≡
      codes "  \"s\" [shape=box, fillcolor=\"#d9d9d9\", label=\"s\\nswap\\nnot current\"];\n"
  pub agreement : drawn (flowing 2 Flows (Some Agreement) shown.Nothing NotCurrent false) ≡
      codes "  \"s\" [shape=box, fillcolor=\"#d9d9d9\", label=\"s\\nforward rate agreement\\nnot current\"];\n"
  pub outdated : drawn (node 3 Curve (shown.Point (record { day = pos 19_824; factor = pos 990_099_009_901 })) NotCurrent false) ≡
      codes "  \"c\" [shape=box, fillcolor=\"#d9d9d9\", label=\"c\\ncurve\\n2024-04-11 0.990099009901\\nnot current\"];\n"
  pub forwarder : drawn (node 3 CurveHandle shown.Nothing Unasked false) ≡
      codes "  \"c\" [shape=hexagon, label=\"c\\ncurve handle\"];\n"
  pub watcher : drawn (node 4 Watcher shown.Nothing Unasked false) ≡
      codes "  \"w\" [shape=octagon, style=\"filled,dotted\", label=\"w\\nwatcher\"];\n"
  pub arrows : edges_text five_names five_objects
      (record { observer = 2; subject = 1; is_registration = false } ∷ record { observer = 4; subject = 2; is_registration = true } ∷ []) ≡
      codes "  \"s\" -> \"q\";\n  \"w\" -> \"s\" [style=dashed];\n"
  pub light_arrows : edges_text five_names five_objects
      (record { observer = 3; subject = 0; is_registration = false } ∷ record { observer = 4; subject = 0; is_registration = true } ∷ []) ≡
      codes "  \"c\" -> \"today\" [color=\"#c8c8c8\", constraint=false];\n  \"w\" -> \"today\" [style=dashed, color=\"#c8c8c8\", constraint=false];\n"
  pub empty : graph_text five_names five_objects [] [] ≡
      codes "// An arrow goes from an object to what it observes; that of a registration is dashed, that to `today` is light.\n// Ellipses are sources, hexagons pass notices on, boxes are priced, dotted octagons are watchers.\n// A box is green where its value is fresh, grey where it is not current, blue where it is frozen, orange where it is late,\n// yellow where something beneath it is held, red where it is held and has no value.\n// A double border is a deferred source: it changed, and has told nobody yet.\ndigraph session {\n  rankdir=LR;\n  node [fontname=\"sans-serif\", fontsize=11, style=filled, fillcolor=white];\n  edge [arrowsize=0.7];\n  subgraph cluster_legend {\n    label=\"An arrow leads to what an object observes: dashed\\lto what a watcher is registered with, light to today.\\l\";\n    fontname=\"sans-serif\"; fontsize=10; labeljust=l; color=\"#c8c8c8\";\n    node [fontsize=10, height=0.3];\n    edge [style=invis];\n    \"a source\" [shape=ellipse];\n    \"a deferred source\" [shape=ellipse, peripheries=2];\n    \"it passes notices on\" [shape=hexagon];\n    \"it is priced\" [shape=box];\n    \"a watcher\" [shape=octagon, style=\"filled,dotted\"];\n    \"it is fresh\" [shape=box, fillcolor=\"#b7e1a1\", label=\"fresh\"];\n    \"it is not current\" [shape=box, fillcolor=\"#d9d9d9\", label=\"not current\"];\n    \"it is frozen\" [shape=box, fillcolor=\"#a9cdf2\", label=\"frozen\"];\n    \"it is late\" [shape=box, fillcolor=\"#ffc680\", label=\"late\"];\n    \"it is held\" [shape=box, fillcolor=\"#fff2a8\", label=\"held\"];\n    \"it is unpriced\" [shape=box, fillcolor=\"#f4a6a6\", label=\"frozen or late, unpriced\"];\n    \"it is fresh\" -> \"a source\";\n    \"it is not current\" -> \"a deferred source\";\n    \"it is frozen\" -> \"it passes notices on\";\n    \"it is late\" -> \"it is priced\";\n    \"it is held\" -> \"a watcher\";\n  }\n}\n"
