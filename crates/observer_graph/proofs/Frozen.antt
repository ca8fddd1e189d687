-- How many nodes are frozen, after edits of them.
use Rattle.std.proofs.Common.{◌≡◌, inl, inr, ℕ, zero, suc, ◌+◌, ◌<◌, ◌≤◌, Bool, true, false, List, [], ◌∷◌, ◌++◌, length, refl, ◌∙◌, ap, arith, Option, Some, None}
use Rattle.std.specs.Prelude.{slice_index_or, slice_set, if◌then◌else◌}
use Rattle.observer_graph.specs.declared.node.Node.{Node}
use Rattle.observer_graph.specs.declared.node.Flags.{Flags}
use Rattle.observer_graph.specs.GraphView.{IsLazy, flags_of}
use Rattle.observer_graph.specs.Late.{frozen_of, frozen_count}
use Rattle.observer_graph.specs.Notice.{Settles, unsettled}
use Rattle.observer_graph.specs.Change.{flagged}
use Rattle.observer_graph.specs.Walks.{graph_of}
use Rattle.observer_graph.proofs.Wholes.{node_read}

abbrev pub frozen_at : List (Option Node) → ℕ → Bool
frozen_at nodes o = frozen_of (slice_index_or nodes o None)

abbrev pub one_if : Bool → ℕ
one_if b = if b then 1 else 0

pub count_set : (nodes : List (Option Node)) (o : ℕ) (node : Option Node) → o < length nodes
    → frozen_count (slice_set nodes o node) + one_if (frozen_at nodes o) ≡ frozen_count nodes + one_if (frozen_of node)
count_set [] o node low = absurd (omega arith)
count_set (n ∷ nodes) zero node low = omega arith
count_set (n ∷ nodes) (suc o) node low = let e = count_set nodes o node (omega arith) in omega arith

pub count_last : (nodes : List (Option Node)) (node : Option Node) → frozen_of node ≡ false
    → frozen_count (nodes ++ node ∷ []) ≡ frozen_count nodes
count_last [] node off = ap (λ (b : Bool). one_if b + 0) off
count_last (n ∷ nodes) node off = let e = count_last nodes node off in omega arith

at_most_one : (b : Bool) → one_if b ≤ 1
at_most_one true = omega arith
at_most_one false = omega arith

pub count_most : (nodes : List (Option Node)) → frozen_count nodes ≤ length nodes
count_most [] = omega arith
count_most (n ∷ nodes) = let e = count_most nodes in let b = at_most_one (frozen_of n) in omega arith

pub count_same : (nodes nodes2 : List (Option Node)) → length nodes2 ≡ length nodes
    → ((o : ℕ) → frozen_at nodes2 o ≡ frozen_at nodes o) → frozen_count nodes2 ≡ frozen_count nodes
count_same [] [] len same = refl
count_same [] (m ∷ nodes2) len same = absurd (omega arith)
count_same (n ∷ nodes) [] len same = absurd (omega arith)
count_same (n ∷ nodes) (m ∷ nodes2) len same =
    let e = count_same nodes nodes2 (omega arith) (λ o. same (suc o)) in
    let b = ap one_if (same 0) in omega arith

-- a frozen node is counted
pub count_some : (nodes : List (Option Node)) (o : ℕ) → frozen_at nodes o ≡ true → 0 < frozen_count nodes
count_some [] zero e = absurd (cc)
count_some [] (suc o) e = absurd (cc)
count_some (n ∷ nodes) zero e = let b = ap one_if e in omega arith
count_some (n ∷ nodes) (suc o) e = let more = count_some nodes o e in omega arith

pub count_none : (nodes : List (Option Node)) → frozen_count nodes ≡ 0 → (o : ℕ) → frozen_at nodes o ≡ false
count_none nodes none o = by_case (frozen_at nodes o) refl
  where
    by_case : (b : Bool) → frozen_at nodes o ≡ b → b ≡ false
    by_case true e = let more = count_some nodes o e in absurd (omega arith)
    by_case false e = refl

unsettled_frozen : (node : Option Node) → frozen_of (unsettled node) ≡ frozen_of node
unsettled_frozen None = refl
unsettled_frozen (Some node) = refl

-- a notice freezes none
pub count_told : (nodes nodes2 : List (Option Node)) (sources sources2 : List Bool) (subjects : List (List ℕ))
    → Settles (graph_of nodes subjects sources) (graph_of nodes2 subjects sources2) → frozen_count nodes2 ≡ frozen_count nodes
count_told nodes nodes2 sources sources2 subjects t = count_same nodes nodes2 t.len (λ o. elim (t.node o) [
  | inl h ↦ ap frozen_of h.1 ∙ unsettled_frozen (slice_index_or nodes o None)
  | inr h ↦ ap frozen_of h.1
])

-- a node that is not current, whatever it is
pub count_stale : (nodes : List (Option Node)) (o : ℕ) → o < length nodes
    → frozen_count (slice_set nodes o (unsettled (slice_index_or nodes o None))) ≡ frozen_count nodes
count_stale nodes o low =
    let e = count_set nodes o (unsettled (slice_index_or nodes o None)) low in
    let b = ap one_if (unsettled_frozen (slice_index_or nodes o None)) in omega arith

flagged_frozen : (flags : Flags) (node : Option Node) → IsLazy node → frozen_of (flagged flags node) ≡ flags.frozen
flagged_frozen flags None lazy = absurd lazy
flagged_frozen flags (Some node) lazy = refl

-- other flags of a lazy node
pub count_flagged : (nodes : List (Option Node)) (o count : ℕ) (flags : Flags) → IsLazy (slice_index_or nodes o None)
    → o < length nodes → count + one_if (frozen_at nodes o) ≡ frozen_count nodes + one_if flags.frozen
    → count ≡ frozen_count (slice_set nodes o (flagged flags (slice_index_or nodes o None)))
count_flagged nodes o count flags lazy low counted =
    let e = count_set nodes o (flagged flags (slice_index_or nodes o None)) low in
    let b = ap one_if (flagged_frozen flags (slice_index_or nodes o None) lazy) in omega arith

-- a lazy node that is current
pub count_settled : (nodes : List (Option Node)) (o : ℕ) → IsLazy (slice_index_or nodes o None) → o < length nodes
    → frozen_count nodes ≡ frozen_count (slice_set nodes o
    (flagged (record (flags_of (slice_index_or nodes o None)) { current = true }) (slice_index_or nodes o None)))
count_settled nodes o lazy low =
    count_flagged nodes o (frozen_count nodes) (record (flags_of (slice_index_or nodes o None)) { current = true }) lazy low refl

-- a node less
pub count_removed : (nodes : List (Option Node)) (o count : ℕ) → o < length nodes
    → count + one_if (frozen_at nodes o) ≡ frozen_count nodes + one_if false → count ≡ frozen_count (slice_set nodes o None)
count_removed nodes o count low counted = let e = count_set nodes o None low in omega arith

-- what a read of a live node says
pub frozen_read : (nodes : List (Option Node)) (place o : ℕ) (node : Option Node) (was : Bool) → place ≡ o
    → o < length nodes → node ≡ slice_index_or nodes place node → was ≡ frozen_of node → was ≡ frozen_at nodes o
frozen_read nodes place o node was same low is are = are ∙ ap frozen_of (node_read nodes place o node same low is)
