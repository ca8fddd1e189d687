-- A graph stays whole.
use Rattle.std.proofs.Common.{◌≡◌, ◌≢◌, inl, inr, ℕ, zero, suc, ◌+◌, ◌<◌, ◌≤◌, ◌^◌, Bool, true, false, List, [], ◌∷◌, ◌++◌, length, refl, sym, ◌∙◌, ap, subst, arith, Option, Some, None, Ok, Err, Result}
use Rattle.std.specs.Prelude.{slice_index_or, slice_set, IsSome, is_some, OnOk, OnErr}
use Rattle.std.proofs.lemmas.Bool.{cases_eq, false≢true}
use Rattle.std.proofs.lemmas.List.{get_or-set_same, get_or-set_other, length-set, length-append, get_or_default}
use Rattle.walks.specs.Walk.{IsOnce}
use Rattle.edge_lists.specs.EdgesView.{EdgesView, SameNodes, TakesNode, subject_lists, subjects_of, with_node, no_heads}
use Rattle.edge_lists.specs.EdgesView as pairs
use Rattle.edge_lists.specs.declared.edge.Heads.{Heads}
use Rattle.edge_lists.specs.Ends.{heads_at}
use Rattle.edge_lists.proofs.Listing.{length_below, subject_list}
use Rattle.observer_graph.specs.declared.node.Role.{Role}
use Rattle.observer_graph.specs.declared.node.Role.TheVariants.{Source, Forwarder, Lazy, Watcher}
use Rattle.observer_graph.specs.declared.node.Flags.{Flags}
use Rattle.observer_graph.specs.declared.node.Node.{Node}
use Rattle.observer_graph.specs.Lists.{is_marked, SetView}
use Rattle.observer_graph.specs.Stands.{Stands}
use Rattle.observer_graph.specs.Walks.{graph_of}
use Rattle.observer_graph.specs.GraphView.{GraphView, IsWhole, IsLive, IsLazy, IsPlain, HasFlags, node_at, no_flags}
use Rattle.observer_graph.specs.Notice.{Settles, unsettled}
use Rattle.observer_graph.specs.Change.{with_flags, flagged}
use Rattle.observer_graph.proofs.Marks.{marked_front}
use Rattle.observer_graph.proofs.SubjectLists.{among_listed, front_some}

-- what holds on both exits
pub either : {T E : Type 0} {A B P : Type 0} (result : Result T E) → OnOk result A → OnErr result B → (A → P)
    → (B → P) → P
either (Ok x) a b f g = f a
either (Err e) a b f g = g b

-- a live node is within
pub live_within : (nodes : List (Option Node)) (o : ℕ) → IsSome (slice_index_or nodes o None) → o < length nodes
live_within [] zero live = absurd (false≢true live)
live_within [] (suc o) live = absurd (false≢true live)
live_within (n ∷ nodes) zero live = omega arith
live_within (n ∷ nodes) (suc o) live = let w = live_within nodes o live in omega arith

-- what holds at each place of a list, after one place was written
set_at : {A : Type 0} (P : ℕ → A → Type 0) (xs : List A) (o : ℕ) (new d : A) → o < length xs → P o new
    → ((p : ℕ) → p ≢ o → P p (slice_index_or xs p d)) → (p : ℕ) → P p (slice_index_or (slice_set xs o new) p d)
set_at P xs o new d low here others p = elim (cases_eq p o) [
  | inl same ↦ subst (λ (z : ℕ). P z (slice_index_or (slice_set xs o new) z d)) (sym same)
      (subst (P o) (sym (get_or-set_same xs o new d low)) here)
  | inr other ↦ subst (P p) (sym (get_or-set_other xs o p new d other)) (others p other)
]

-- a lazy node is live, and is so and plain with other flags
lazy_live : (node : Option Node) → IsLazy node → IsSome node
lazy_live None lazy = absurd lazy
lazy_live (Some node) lazy = refl

pub is_live : (graph : GraphView) (o : ℕ) → IsLazy (node_at graph o) → IsLive graph o
is_live graph o lazy = lazy_live (node_at graph o) lazy

flagged_some : (flags : Flags) (node : Option Node) → is_some (flagged flags node) ≡ is_some node
flagged_some flags None = refl
flagged_some flags (Some node) = refl

flagged_plain : (flags : Flags) (node : Option Node) → IsLazy node → IsPlain (flagged flags node)
flagged_plain flags None lazy = absurd lazy
flagged_plain flags (Some node) lazy = subst (λ (r : Role). HasFlags r flags) (sym lazy) tt

pub whole_flagged : (graph : GraphView) (o : ℕ) (flags : Flags) → IsLazy (node_at graph o) → IsWhole graph
    → IsWhole (with_flags o flags graph)
whole_flagged graph o flags lazy w = record {
  lists = w.lists ∙ sym len;
  marks = w.marks ∙ sym len;
  ends = λ x p a. let e = w.ends x p a in (stays x e.0, stays p e.1);
  once = w.once;
  live = λ p e. stays p (w.live p e);
  flags = set_at (λ p n. IsPlain n) graph.nodes o new None low (flagged_plain flags (node_at graph o) lazy) (λ p other. w.flags p);
  limit = subst (λ (n : ℕ). n ≤ 2 ^ 16) (sym len) w.limit;
}
  where
    new : Option Node
    new = flagged flags (node_at graph o)

    len : length (slice_set graph.nodes o new) ≡ length graph.nodes
    len = length-set graph.nodes o new

    low : o < length graph.nodes
    low = live_within graph.nodes o (is_live graph o lazy)

    stays : (p : ℕ) → IsLive graph p → IsSome (slice_index_or (slice_set graph.nodes o new) p None)
    stays = set_at (λ p n. IsLive graph p → IsSome n) graph.nodes o new None low
        (λ live. flagged_some flags (node_at graph o) ∙ live) (λ p other live. live)

-- what a notice does to a node
unsettled_some : (node : Option Node) → is_some (unsettled node) ≡ is_some node
unsettled_some None = refl
unsettled_some (Some node) = refl

unsettled_plain : (node : Option Node) → IsPlain node → IsPlain (unsettled node)
unsettled_plain None plain = tt
unsettled_plain (Some node) plain = by_role node.role plain
  where
    by_role : (role : Role) → HasFlags role node.flags → HasFlags role (record node.flags { current = false })
    by_role Source plain = ap (λ (f : Flags). record f { current = false }) plain
    by_role Forwarder plain = ap (λ (f : Flags). record f { current = false }) plain
    by_role Lazy plain = tt
    by_role Watcher plain = ap (λ (f : Flags). record f { current = false }) plain

-- what a read of a live node gives
pub node_read : (nodes : List (Option Node)) (place o : ℕ) (node : Option Node) → place ≡ o → o < length nodes
    → node ≡ slice_index_or nodes place node → node ≡ slice_index_or nodes o None
node_read nodes place o node same low is = is ∙ ap (λ (i : ℕ). slice_index_or nodes i node) same
    ∙ get_or_default nodes o node None low

pub off_flags : (flags : Flags) → (flags.current ≡ false) × ((flags.frozen ≡ false) × (flags.forward ≡ false))
    → flags ≡ no_flags
off_flags flags off = λ i. record { current = off.0 i; frozen = off.1.0 i; forward = off.1.1 i }

-- a new node: it is plain, and those before it are as they were
plain_role : (role : Role) → HasFlags role no_flags
plain_role Source = refl
plain_role Forwarder = refl
plain_role Lazy = tt
plain_role Watcher = refl

plain_front : (nodes : List (Option Node)) (role : Role) → ((o : ℕ) → IsPlain (slice_index_or nodes o None)) → (o : ℕ)
    → IsPlain (slice_index_or (nodes ++ Some (record { role = role; flags = no_flags }) ∷ []) o None)
plain_front [] role plain zero = plain_role role
plain_front [] role plain (suc zero) = tt
plain_front [] role plain (suc (suc o)) = tt
plain_front (n ∷ nodes) role plain zero = plain 0
plain_front (n ∷ nodes) role plain (suc o) = plain_front nodes role (λ p. plain (suc p)) o

live_front : {A B : Type 0} (xs : List (Option A)) (ys : List (Option B)) (a : A) (b : B) → length xs ≡ length ys
    → ((o : ℕ) → is_some (slice_index_or xs o None) ≡ is_some (slice_index_or ys o None)) → (o : ℕ)
    → is_some (slice_index_or (xs ++ Some a ∷ []) o None) ≡ is_some (slice_index_or (ys ++ Some b ∷ []) o None)
live_front [] [] a b len same zero = refl
live_front [] [] a b len same (suc zero) = refl
live_front [] [] a b len same (suc (suc o)) = refl
live_front [] (y ∷ ys) a b len same o = absurd (omega arith)
live_front (x ∷ xs) [] a b len same o = absurd (omega arith)
live_front (x ∷ xs) (y ∷ ys) a b len same zero = same 0
live_front (x ∷ xs) (y ∷ ys) a b len same (suc o) = live_front xs ys a b (omega arith) (λ p. same (suc p)) o

-- the same nodes live where their list is the same
pub same_nodes : (v w : EdgesView) → w.nodes ≡ v.nodes → SameNodes v w
same_nodes v w same = record {
  given = ap length same;
  live = λ x. ap (λ (nodes : List (Option Heads)). is_some (heads_at nodes x)) same;
}

-- pairs of live nodes make a whole graph
whole_by : (nodes : List (Option Node)) (edges : EdgesView) (sources : List Bool) → pairs.IsWhole edges
    → length edges.nodes ≡ length nodes → ((o : ℕ) → is_some (heads_at edges.nodes o) ≡ is_some (slice_index_or nodes o None))
    → length sources ≡ length nodes → ((o : ℕ) → is_marked sources o ≡ true → IsSome (slice_index_or nodes o None))
    → ((o : ℕ) → IsPlain (slice_index_or nodes o None)) → IsWhole (graph_of nodes (subject_lists edges) sources)
whole_by nodes edges sources whole given live marks marked plain = record {
  lists = length_below (subjects_of edges) (length edges.nodes) ∙ given;
  marks = marks;
  ends = λ x o a. let e = whole.ends x o ((among_listed edges whole x o).0 a) in (sym (live x) ∙ e.0, sym (live o) ∙ e.1);
  once = λ o. subst IsOnce (sym (subject_list edges whole o)) (whole.once o);
  live = marked;
  flags = plain;
  limit = let limit = whole.limit in omega arith;
}

module _ (nodes : List (Option Node)) (edges : EdgesView) (sources wave : SetView) (s : Stands nodes edges sources wave) where
  -- a live node is one of the pairs' live ones
  pub live_among : (o : ℕ) → IsSome (slice_index_or nodes o None) → IsSome (heads_at edges.nodes o)
  live_among o live = s.live o ∙ live

  -- other pairs of the same nodes
  pub stands_pairs : (edges2 : EdgesView) → pairs.IsWhole edges2 → SameNodes edges edges2 → Stands nodes edges2 sources wave
  stands_pairs edges2 whole same = record {
    pairs = whole;
    given = same.given ∙ s.given;
    live = λ o. same.live o ∙ s.live o;
    whole = whole_by nodes edges2 sources.marks whole (same.given ∙ s.given) (λ o. same.live o ∙ s.live o)
        s.whole.marks s.whole.live s.whole.flags;
    room = s.room;
    empty = s.empty;
  }

  -- other values of the same live nodes, and no source more
  stands_nodes : (nodes2 : List (Option Node)) (sources2 : SetView) → length nodes2 ≡ length nodes
      → ((o : ℕ) → (is_some (slice_index_or nodes2 o None) ≡ is_some (slice_index_or nodes o None)) × IsPlain (slice_index_or nodes2 o None))
      → length sources2.marks ≡ length sources.marks
      → ((o : ℕ) → is_marked sources2.marks o ≡ true → is_marked sources.marks o ≡ true) → Stands nodes2 edges sources2 wave
  stands_nodes nodes2 sources2 len same long was = record {
    pairs = s.pairs;
    given = s.given ∙ sym len;
    live = λ o. s.live o ∙ sym (same o).0;
    whole = whole_by nodes2 edges sources2.marks s.pairs (s.given ∙ sym len) (λ o. s.live o ∙ sym (same o).0)
        (long ∙ s.whole.marks ∙ sym len) (λ o e. (same o).0 ∙ s.whole.live o (was o e)) (λ o. (same o).1);
    room = s.room ∙ sym len;
    empty = s.empty;
  }

  -- another value of one of them
  stands_set : (o : ℕ) (new : Option Node) → o < length nodes → is_some new ≡ is_some (slice_index_or nodes o None) → IsPlain new
      → Stands (slice_set nodes o new) edges sources wave
  stands_set o new low same plain = stands_nodes (slice_set nodes o new) sources (length-set nodes o new)
      (set_at (λ p n. (is_some n ≡ is_some (slice_index_or nodes p None)) × IsPlain n) nodes o new None low
      (same, plain) (λ p other. (refl, s.whole.flags p))) refl (λ o e. e)

  -- a lazy node with other flags
  pub stands_flagged : (o : ℕ) (flags : Flags) → IsLazy (slice_index_or nodes o None)
      → Stands (slice_set nodes o (flagged flags (slice_index_or nodes o None))) edges sources wave
  stands_flagged o flags lazy = stands_set o (flagged flags (slice_index_or nodes o None))
      (live_within nodes o (lazy_live (slice_index_or nodes o None) lazy))
      (flagged_some flags (slice_index_or nodes o None)) (flagged_plain flags (slice_index_or nodes o None) lazy)

  -- a node that is not current, whatever it is
  pub stands_stale : (o : ℕ) → o < length nodes
      → Stands (slice_set nodes o (unsettled (slice_index_or nodes o None))) edges sources wave
  stands_stale o low = stands_set o (unsettled (slice_index_or nodes o None)) low
      (unsettled_some (slice_index_or nodes o None)) (unsettled_plain (slice_index_or nodes o None) (s.whole.flags o))

  -- after a notice
  pub stands_told : (nodes2 : List (Option Node)) (sources2 : SetView)
      → Settles (graph_of nodes (subject_lists edges) sources.marks) (graph_of nodes2 (subject_lists edges) sources2.marks)
      → Stands nodes2 edges sources2 wave
  stands_told nodes2 sources2 t = stands_nodes nodes2 sources2 t.len
      (λ o. elim (t.node o) [
        | inl h ↦ (
          ap is_some h.1 ∙ unsettled_some (slice_index_or nodes o None),
          subst IsPlain (sym h.1) (unsettled_plain (slice_index_or nodes o None) (s.whole.flags o)),
        )
        | inr h ↦ (ap is_some h.1, subst IsPlain (sym h.1) (s.whole.flags o))
      ])
      t.marks (λ o e. absurd (false≢true (sym (t.sources o) ∙ e)))

  -- without a node
  pub stands_removed : (edges2 : EdgesView) (sources2 : SetView) (o : ℕ) → o < length nodes
      → pairs.IsWhole edges2 → TakesNode edges edges2 o
      → sources2.marks ≡ slice_set sources.marks o false → Stands (slice_set nodes o None) edges2 sources2 wave
  stands_removed edges2 sources2 o low whole takes marks = record {
    pairs = whole;
    given = given;
    live = live;
    whole = whole_by (slice_set nodes o None) edges2 sources2.marks whole given live
        (ap length marks ∙ length-set sources.marks o false ∙ s.whole.marks ∙ sym len) marked
        (set_at (λ p n. IsPlain n) nodes o None None low tt (λ p other. s.whole.flags p));
    room = s.room ∙ sym len;
    empty = s.empty;
  }
    where
      len : length (slice_set nodes o None) ≡ length nodes
      len = length-set nodes o None

      given : length edges2.nodes ≡ length (slice_set nodes o None)
      given = takes.given ∙ s.given ∙ sym len

      live : (p : ℕ) → is_some (heads_at edges2.nodes p) ≡ is_some (slice_index_or (slice_set nodes o None) p None)
      live = set_at (λ p n. is_some (heads_at edges2.nodes p) ≡ is_some n) nodes o None None low
          (ap is_some takes.gone) (λ p other. takes.others p other ∙ s.live p)

      marked : (p : ℕ) → is_marked sources2.marks p ≡ true → IsSome (slice_index_or (slice_set nodes o None) p None)
      marked p e = set_at (λ p n. is_marked (slice_set sources.marks o false) p ≡ true → IsSome n) nodes o None None low
          (λ on. absurd (false≢true (sym (get_or-set_same sources.marks o false false (let m = s.whole.marks in omega arith)) ∙ on)))
          (λ p other on. s.whole.live p (sym (get_or-set_other sources.marks o p false false other) ∙ on)) p
          (ap (λ (l : List Bool). is_marked l p) (sym marks) ∙ e)

  -- with a new node
  pub stands_grown : (nodes2 : List (Option Node)) (edges2 : EdgesView) (sources2 wave2 : SetView) (role : Role) (flags : Flags)
      → pairs.IsWhole edges2 → SameNodes (with_node edges) edges2 → flags ≡ no_flags
      → nodes2 ≡ nodes ++ Some (record { role = role; flags = flags }) ∷ [] → sources2.marks ≡ sources.marks ++ false ∷ []
      → length wave2.marks ≡ length wave.marks + 1 → wave2.items ≡ [] → Stands nodes2 edges2 sources2 wave2
  stands_grown nodes2 edges2 sources2 wave2 role flags whole same off nodes_are marks room empty =
      subst (λ (n : List (Option Node)). Stands n edges2 sources2 wave2)
      (sym (nodes_are ∙ ap (λ (f : Flags). nodes ++ Some (record { role = role; flags = f }) ∷ []) off)) (record {
        pairs = whole;
        given = given;
        live = live;
        whole = whole_by more edges2 sources2.marks whole given live
            (let l = longer in let a = ap length marks in let b = length-append sources.marks (false ∷ []) in
            let c = s.whole.marks in omega arith)
            (λ o e. front_some nodes (Some node) o
            (s.whole.live o (marked_front sources.marks o (ap (λ (l : List Bool). is_marked l o) (sym marks) ∙ e))))
            (plain_front nodes role s.whole.flags);
        room = let l = longer in let a = s.room in omega arith;
        empty = empty;
      })
    where
      node : Node
      node = record { role = role; flags = no_flags }

      more : List (Option Node)
      more = nodes ++ Some node ∷ []

      longer : length more ≡ length nodes + 1
      longer = length-append nodes (Some node ∷ [])

      given : length edges2.nodes ≡ length more
      given = let l = longer in let a = same.given in let b = length-append edges.nodes (Some no_heads ∷ []) in
          let c = s.given in omega arith

      live : (o : ℕ) → is_some (heads_at edges2.nodes o) ≡ is_some (slice_index_or more o None)
      live o = same.live o ∙ live_front edges.nodes nodes no_heads node s.given s.live o
