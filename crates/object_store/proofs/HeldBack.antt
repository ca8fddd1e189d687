-- What the graph of a store tells of lateness is what its view says.
use Rattle.std.proofs.Common.{◌≡◌, ◌⊎◌, inl, inr, ℕ, Bool, true, false, List, Option, None, Some, refl, sym, ◌∙◌, ap, subst}
use Rattle.std.specs.Prelude.{◌↔◌, ◌==◌, ◌||◌, not, is_some}
use Rattle.walks.specs.Walk.{Among, Below}
use Rattle.walks.proofs.Ranks.{below_wider}
use Rattle.desk_terms.specs.declared.value.Value.{Value}
use Rattle.desk_model.specs.declared.kept.Kept.{Kept}
use Rattle.std.proofs.lemmas.Bool.{false≢true}
use Rattle.observer_graph.specs.declared.node.Node.{Node}
use Rattle.observer_graph.specs.GraphView.{GraphView, node_at, is_source, subjects_of, edges_as, edges_of}
use Rattle.observer_graph.specs.Notice.{IsLeast, IsUser, Reaches}
use Rattle.observer_graph.specs.declared.node.Role.{Role}
use Rattle.observer_graph.proofs.Exactly.{below_there}
use Rattle.observer_graph.specs.Late as graphs
use Rattle.object_store.specs.Shape.{kept_of, shape_of, role_in, edges_from, edges_at}
use Rattle.object_store.specs.Store.{StoreView, stored_at}
use Rattle.desk_terms.specs.declared.asked.Mark.{Mark}
use Rattle.desk_terms.specs.declared.asked.Mark.TheVariants.{Fresh, Frozen, Late, Held}
use Rattle.observer_graph.specs.declared.node.Standing.{Standing}
use Rattle.observer_graph.specs.declared.node.Standing.TheVariants as stands
use Rattle.object_store.specs.Late.{IsLateOf, holds_back, IsClear, IsMarkOf}
use Rattle.object_store.proofs.Kept.{Fits, kept_at_node, role_at_node}

-- the mark of an answer by how its node stands
abbrev pub mark_as : Standing → Mark
mark_as stands.Frozen = Frozen
mark_as stands.Late = Late
mark_as stands.Held = Held
mark_as stands.Clear = Fresh

least_same : (P Q : ℕ → Type 0) → ((x : ℕ) → P x ↔ Q x) → (least : Option ℕ) → IsLeast P least → IsLeast Q least
least_same P Q same None none = λ x q. none x ((same x).1 q)
least_same P Q same (Some y) is = ((same y).0 is.0, λ x q. is.1 x ((same x).1 q))

module _ (graph : GraphView) where
  -- a path of edges in the graph is one in its shape, and the other way round
  edges_same : (o : ℕ) → edges_at (shape_of graph) o ≡ edges_of graph o
  edges_same o = ap (λ (r : Option Role). edges_from r (subjects_of graph o)) (role_at_node graph.nodes o) ∙ by_node (node_at graph o)
    where
      by_node : (node : Option Node) → edges_from (role_in node) (subjects_of graph o) ≡ edges_as node (subjects_of graph o)
      by_node None = refl
      by_node (Some node) = refl

  path_there : (found through through2 : ℕ → Bool) → ((y : ℕ) → through y ≡ through2 y) → (o : ℕ)
      → Below (edges_of graph) found through o → Below (edges_at (shape_of graph)) found through2 o
  path_there found through through2 agree o below = below_wider (edges_at (shape_of graph)) found found through through2 (λ y e. e)
      (λ y e. sym (agree y) ∙ e) o
      (below_there (edges_of graph) (edges_at (shape_of graph)) found through (λ z x a. subst (Among x) (sym (edges_same z)) a) o below)

  path_back : (found through through2 : ℕ → Bool) → ((y : ℕ) → through y ≡ through2 y) → (o : ℕ)
      → Below (edges_at (shape_of graph)) found through2 o → Below (edges_of graph) found through o
  path_back found through through2 agree o below = below_there (edges_at (shape_of graph)) (edges_of graph) found through
      (λ z x a. subst (Among x) (edges_same z) a) o
      (below_wider (edges_at (shape_of graph)) found found through2 through (λ y e. e) (λ y e. agree y ∙ e) o below)

  pub reaches_node : (from to : ℕ) (b : Bool) → (b ≡ true) ↔ Reaches graph from to
      → (b ≡ true) ↔ ((from ≡ to) ⊎ Below (edges_at (shape_of graph)) (λ y. y == to) (λ y. true) from)
  reaches_node from to b is = (
    λ e. elim (is.0 e) [
      | inl same ↦ inl same
      | inr below ↦ inr (path_there (λ y. y == to) (λ y. true) (λ y. true) (λ y. refl) from below)
    ],
    λ reached. is.1 (elim reached [
      | inl same ↦ inl same
      | inr below ↦ inr (path_back (λ y. y == to) (λ y. true) (λ y. true) (λ y. refl) from below)
    ]),
  )

  pub user_node : (x : ℕ) (least : Option ℕ) → IsLeast (IsUser graph x) least
      → IsLeast (λ o. Among x (edges_at (shape_of graph) o)) least
  user_node x least is = least_same (IsUser graph x) (λ o. Among x (edges_at (shape_of graph) o))
      (λ o. (λ a. subst (Among x) (sym (edges_same o)) a, λ a. subst (Among x) (edges_same o) a)) least is

module _ (graph : GraphView) (lasts : List (Option Value)) (on : Bool) (fits : Fits graph lasts) where
  abbrev view : StoreView
  view = record { kept = kept_of graph lasts; shape = shape_of graph; deferring = on; noticed = graph.noticed }

  pub frozen_node : (y : ℕ) → (stored_at view y).frozen ≡ graphs.is_frozen graph y
  frozen_node y = ap (λ (k : Kept). k.frozen) (kept_at_node graph lasts fits y)

  pub frozen_gone : (y : ℕ) → is_some (node_at graph y) ≡ false → (stored_at view y).frozen ≡ false
  frozen_gone y gone = frozen_node y ∙ by_node (node_at graph y) gone
    where
      by_node : (node : Option Node) → is_some node ≡ false → graphs.frozen_of node ≡ false
      by_node None e = refl
      by_node (Some node) e = absurd (false≢true (sym e))

  pub source_node : (y : ℕ) → (stored_at view y).source ≡ is_source graph y
  source_node y = ap (λ (k : Kept). k.source) (kept_at_node graph lasts fits y)

  held_node : (y : ℕ) → holds_back view y ≡ graphs.is_held_back graph y
  held_node y = ap (λ (k : Kept). k.frozen || k.source) (kept_at_node graph lasts fits y)

  late_node : (o x : ℕ) → graphs.IsLateOf graph o x ↔ IsLateOf view o x
  late_node o x = (
    λ late. (
      source_node x ∙ late.0,
      elim late.1 [
        | inl here ↦ inl here
        | inr below ↦ inr (path_there graph (λ y. y == x) (λ y. not (graphs.is_frozen graph y)) (λ y. not (stored_at view y).frozen) (λ y. sym (ap not (frozen_node y))) o below)
      ],
    ),
    λ late. (
      sym (source_node x) ∙ late.0,
      elim late.1 [
        | inl here ↦ inl here
        | inr below ↦ inr (path_back graph (λ y. y == x) (λ y. not (graphs.is_frozen graph y)) (λ y. not (stored_at view y).frozen) (λ y. sym (ap not (frozen_node y))) o below)
      ],
    ),
  )

  pub least_late : (o : ℕ) (least : Option ℕ) → IsLeast (graphs.IsLateOf graph o) least → IsLeast (IsLateOf view o) least
  least_late o least is = least_same (graphs.IsLateOf graph o) (IsLateOf view o) (late_node o) least is

  pub clear_node : (o : ℕ) (b : Bool) → (b ≡ true) ↔ graphs.IsClear graph o → (b ≡ true) ↔ IsClear view o
  clear_node o b is = (
    λ e x reached. held_node x ∙ is.0 e x ((reached_same x).1 reached),
    λ clear. is.1 (λ x reached. sym (held_node x) ∙ clear x ((reached_same x).0 reached)),
  )
    where
      reached_same : (x : ℕ) → Reaches graph o x ↔ ((o ≡ x) ⊎ Below (edges_at (shape_of graph)) (λ y. y == x) (λ y. true) o)
      reached_same x = (
        λ reached. elim reached [
          | inl same ↦ inl same
          | inr below ↦ inr (path_there graph (λ y. y == x) (λ y. true) (λ y. true) (λ y. refl) o below)
        ],
        λ reached. elim reached [
          | inl same ↦ inl same
          | inr below ↦ inr (path_back graph (λ y. y == x) (λ y. true) (λ y. true) (λ y. refl) o below)
        ],
      )

  -- how a node stands in the graph is the mark of the object's answers
  pub mark_node : (o : ℕ) (standing : Standing) → graphs.StandsAs graph o standing → IsMarkOf view o (mark_as standing)
  mark_node o stands.Frozen is = frozen_node o ∙ is
  mark_node o stands.Late is = (frozen_node o ∙ is.0, (is.1.0, least_late o (Some is.1.0) is.1.1))
  mark_node o stands.Held is = (
    frozen_node o ∙ is.0,
    (least_late o None is.1.0, λ clear. false≢true ((clear_node o false (λ e. absurd (false≢true e), λ there. absurd (is.1.1 there))).1 clear)),
  )
  mark_node o stands.Clear is = (
    frozen_node o ∙ is.0,
    (least_late o None is.1.0, (clear_node o true (λ e. is.1.1, λ there. refl)).0 refl),
  )
