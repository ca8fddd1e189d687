-- What is stored of each object, by number.
use Rattle.std.proofs.Common.{◌≡◌, ◌≢◌, inl, inr, ℕ, zero, suc, ◌+◌, ◌<◌, Bool, true, false, List, [], ◌∷◌, ◌++◌, length, refl, sym, ◌∙◌, ap, subst, arith, Option, Some, None}
use Rattle.std.specs.Prelude.{slice_index_or, slice_set, map, is_some, IsSome, IfSome, IfNone}
use Rattle.std.proofs.lemmas.List.{length-set, length-append, get_or-set_same, get_or-set_other, get_or_past, map-set, map-append}
use Rattle.std.proofs.lemmas.Bool.{cases_eq, cases_lt, false≢true}
use Rattle.walks.proofs.Ranks.{below_wider}
use Rattle.observer_graph.proofs.Wholes.{live_within}
use Rattle.desk_terms.specs.declared.value.Value.{Value}
use Rattle.desk_model.specs.declared.kept.Kept.{Kept}
use Rattle.desk_model.specs.State.{unpriced}
use Rattle.observer_graph.specs.declared.node.Role.{Role}
use Rattle.observer_graph.specs.declared.node.Flags.{Flags}
use Rattle.observer_graph.specs.declared.node.Node.{Node}
use Rattle.observer_graph.specs.declared.node.Role.TheVariants.{Watcher}
use Rattle.observer_graph.specs.GraphView.{GraphView, IsWatcher, node_at, is_source, flags_of, no_flags}
use Rattle.observer_graph.specs.Notice.{IsTold, Tells, passes_at, passes_of, unsettled, with_stale}
use Rattle.observer_graph.specs.Change.{AddsNode, TakesNode, flagged, with_flags, with_source}
use Rattle.desk_model.specs.Visit.{with_value}
use Rattle.object_store.specs.Shape.{Shape, role_at, observed_by, role_in, kept_as, kept_from, kept_of, shape_of}
use Rattle.object_store.specs.Store.{StoreView, AddsObject, TakesObject, Notices, IsNotified, stored_at, stored_as, marked, passes_by, notified_kept}
use Rattle.object_store.proofs.Touched.{pushed_default}

-- lists that have the same at each place
pub same_lists : {A : Type 0} (xs ys : List A) (d : A) → length xs ≡ length ys → ((o : ℕ) → slice_index_or xs o d ≡ slice_index_or ys o d) → xs ≡ ys
same_lists [] [] d long same = refl
same_lists [] (y ∷ ys) d long same = absurd (omega (arith, long))
same_lists (x ∷ xs) [] d long same = absurd (omega (arith, long))
same_lists (x ∷ xs) (y ∷ ys) d long same = ap (λ z. z ∷ xs) (same zero) ∙ ap (λ l. y ∷ l) (same_lists xs ys d (omega (arith, long)) (λ o. same (suc o)))

pub length-kept : (graph : GraphView) (from : ℕ) (lasts : List (Option Value)) → length (kept_from graph from lasts) ≡ length lasts
length-kept graph from [] = refl
length-kept graph from (last ∷ lasts) = ap suc (length-kept graph (from + 1) lasts)

kept_there : (graph : GraphView) (from o : ℕ) (lasts : List (Option Value)) → o < length lasts
    → slice_index_or (kept_from graph from lasts) o unpriced ≡ kept_as (node_at graph (from + o)) (is_source graph (from + o)) (slice_index_or lasts o None)
kept_there graph from o [] low = absurd (omega (arith, low))
kept_there graph from zero (last ∷ lasts) low = let e : from ≡ from + zero = omega arith in ap (λ (n : ℕ). kept_as (node_at graph n) (is_source graph n) last) e
kept_there graph from (suc o) (last ∷ lasts) low = kept_there graph (from + 1) o lasts (omega (arith, low))
    ∙ (let e : from + 1 + o ≡ from + suc o = omega arith in ap (λ (n : ℕ). kept_as (node_at graph n) (is_source graph n) (slice_index_or lasts o None)) e)

-- one node and one mark for each last value
pub record Fits (graph : GraphView) (lasts : List (Option Value)) : Type 0 where
  pub nodes : length graph.nodes ≡ length lasts
  pub sources : length graph.sources ≡ length lasts

pub kept_at_node : (graph : GraphView) (lasts : List (Option Value)) → Fits graph lasts → (o : ℕ)
    → slice_index_or (kept_of graph lasts) o unpriced ≡ kept_as (node_at graph o) (is_source graph o) (slice_index_or lasts o None)
kept_at_node graph lasts fits o = elim (cases_lt o (length lasts)) [
  | inl low ↦ kept_there graph 0 o lasts low ∙ (let e : 0 + o ≡ o = omega arith in ap (λ (n : ℕ). kept_as (node_at graph n) (is_source graph n) (slice_index_or lasts o None)) e)
  | inr past ↦ get_or_past (kept_of graph lasts) o unpriced (let l = length-kept graph 0 lasts in omega (arith, l, past))
      ∙ sym (ap (λ (n : Option Node). kept_as n (is_source graph o) (slice_index_or lasts o None)) (get_or_past graph.nodes o None (let l = fits.nodes in omega (arith, l, past)))
      ∙ ap (λ (b : Bool). kept_as None b (slice_index_or lasts o None)) (get_or_past graph.sources o false (let l = fits.sources in omega (arith, l, past)))
      ∙ ap (kept_as None false) (get_or_past lasts o None past))
]

-- what is stored is this list
pub kept_is : (graph : GraphView) (lasts : List (Option Value)) → Fits graph lasts → (ks : List Kept) → length ks ≡ length lasts
    → ((o : ℕ) → slice_index_or ks o unpriced ≡ kept_as (node_at graph o) (is_source graph o) (slice_index_or lasts o None)) → kept_of graph lasts ≡ ks
kept_is graph lasts fits ks long each = same_lists (kept_of graph lasts) ks unpriced (length-kept graph 0 lasts ∙ sym long) (λ o. kept_at_node graph lasts fits o ∙ sym (each o))

-- one object is changed
pub kept_set : (graph new : GraphView) (lasts lasts2 : List (Option Value)) → Fits graph lasts → Fits new lasts2 → length lasts2 ≡ length lasts
    → (x : ℕ) (k : Kept) → x < length lasts → kept_as (node_at new x) (is_source new x) (slice_index_or lasts2 x None) ≡ k
    → ((o : ℕ) → o ≢ x → (node_at new o ≡ node_at graph o) × (is_source new o ≡ is_source graph o) × (slice_index_or lasts2 o None ≡ slice_index_or lasts o None))
    → kept_of new lasts2 ≡ slice_set (kept_of graph lasts) x k
kept_set graph new lasts lasts2 fits fits2 long x k low here others =
    kept_is new lasts2 fits2 (slice_set (kept_of graph lasts) x k) (length-set (kept_of graph lasts) x k ∙ length-kept graph 0 lasts ∙ sym long)
    (λ o. elim (cases_eq o x) [
      | inl same ↦ subst (λ (z : ℕ). slice_index_or (slice_set (kept_of graph lasts) x k) z unpriced ≡ kept_as (node_at new z) (is_source new z) (slice_index_or lasts2 z None)) (sym same)
          (get_or-set_same (kept_of graph lasts) x k unpriced (let l = length-kept graph 0 lasts in omega (arith, l, low)) ∙ sym here)
      | inr other ↦ let e = others o other in
          get_or-set_other (kept_of graph lasts) x o k unpriced other ∙ kept_at_node graph lasts fits o
          ∙ sym (ap (λ (n : Option Node). kept_as n (is_source new o) (slice_index_or lasts2 o None)) e.0
          ∙ ap (λ (b : Bool). kept_as (node_at graph o) b (slice_index_or lasts2 o None)) e.1
          ∙ ap (kept_as (node_at graph o) (is_source graph o)) e.2)
    ])

pub role_at_node : (nodes : List (Option Node)) (o : ℕ) → slice_index_or (map role_in nodes) o None ≡ role_in (slice_index_or nodes o None)
role_at_node [] zero = refl
role_at_node [] (suc o) = refl
role_at_node (n ∷ nodes) zero = refl
role_at_node (n ∷ nodes) (suc o) = role_at_node nodes o

length-roles : (nodes : List (Option Node)) → length (map role_in nodes) ≡ length nodes
length-roles [] = refl
length-roles (n ∷ nodes) = ap suc (length-roles nodes)

-- the roles stay where each node keeps its role
pub same_roles : (nodes nodes2 : List (Option Node)) → length nodes2 ≡ length nodes → ((o : ℕ) → role_in (slice_index_or nodes2 o None) ≡ role_in (slice_index_or nodes o None))
    → map role_in nodes2 ≡ map role_in nodes
same_roles nodes nodes2 long each = same_lists (map role_in nodes2) (map role_in nodes) None (length-roles nodes2 ∙ long ∙ sym (length-roles nodes))
    (λ o. role_at_node nodes2 o ∙ each o ∙ sym (role_at_node nodes o))

pub same_shape : (graph new : GraphView) → map role_in new.nodes ≡ map role_in graph.nodes → new.subjects ≡ graph.subjects
    → new.spare ≡ graph.spare → shape_of new ≡ shape_of graph
same_shape graph new roles subjects spare = λ i. record { roles = roles i; subjects = subjects i; spare = spare i }

-- stores that have the same
pub same_view : (a b : StoreView) → a.kept ≡ b.kept → a.shape ≡ b.shape → a.deferring ≡ b.deferring → a.noticed ≡ b.noticed → a ≡ b
same_view a b kept shape switch told = λ i. record { kept = kept i; shape = shape i; deferring = switch i; noticed = told i }

-- an object is there where its node is, in the graph of this shape
pub live_as : (graph : GraphView) (shape : Shape) → shape_of graph ≡ shape → (x : ℕ) → is_some (node_at graph x) ≡ is_some (role_at shape x)
live_as graph shape same x = by_node (node_at graph x) ∙ sym (ap is_some (role_at_node graph.nodes x)) ∙ ap (λ (s : Shape). is_some (role_at s x)) same
  where
    by_node : (node : Option Node) → is_some node ≡ is_some (role_in node)
    by_node None = refl
    by_node (Some node) = refl

-- a live node
pub live_node : (graph : GraphView) (x : ℕ) → is_some (role_at (shape_of graph) x) ≡ true → IsSome (node_at graph x)
live_node graph x is = live_as graph (shape_of graph) refl x ∙ is

module _ (graph : GraphView) (lasts : List (Option Value)) (fits : Fits graph lasts) (x : ℕ) (low : x < length lasts) where
  in_nodes : x < length graph.nodes
  in_nodes = let l = fits.nodes in omega (arith, l, low)

  here : slice_index_or (kept_of graph lasts) x unpriced ≡ kept_as (node_at graph x) (is_source graph x) (slice_index_or lasts x None)
  here = kept_at_node graph lasts fits x

  -- a marked object
  pub marked_kept : kept_of (with_source x graph) lasts ≡ slice_set (kept_of graph lasts) x (record (slice_index_or (kept_of graph lasts) x unpriced) { source = true })
  marked_kept = kept_set graph (with_source x graph) lasts lasts fits (record { nodes = fits.nodes; sources = length-set graph.sources x true ∙ fits.sources }) refl x _ low
      (ap (λ (b : Bool). kept_as (node_at graph x) b (slice_index_or lasts x None)) (get_or-set_same graph.sources x true false (let l = fits.sources in omega (arith, l, low)))
      ∙ sym (ap (λ (k : Kept). record k { source = true }) here))
      (λ o other. (refl, get_or-set_other graph.sources x o true false other, refl))

  -- an object that is not current
  pub outdated_kept : kept_of (with_stale x graph) lasts ≡ slice_set (kept_of graph lasts) x (record (slice_index_or (kept_of graph lasts) x unpriced) { current = false })
  outdated_kept = kept_set graph (with_stale x graph) lasts lasts fits (record { nodes = length-set graph.nodes x (unsettled (node_at graph x)) ∙ fits.nodes; sources = fits.sources }) refl x _ low
      (ap (λ (n : Option Node). kept_as n (is_source graph x) (slice_index_or lasts x None)) (get_or-set_same graph.nodes x (unsettled (node_at graph x)) None in_nodes)
      ∙ stale_as (node_at graph x) ∙ sym (ap (λ (k : Kept). record k { current = false }) here))
      (λ o other. (get_or-set_other graph.nodes x o (unsettled (node_at graph x)) None other, refl, refl))
    where
      stale_as : (node : Option Node) → kept_as (unsettled node) (is_source graph x) (slice_index_or lasts x None) ≡ record (kept_as node (is_source graph x) (slice_index_or lasts x None)) { current = false }
      stale_as None = refl
      stale_as (Some node) = refl

  pub outdated_shape : shape_of (with_stale x graph) ≡ shape_of graph
  outdated_shape = same_shape graph (with_stale x graph) (same_roles graph.nodes (slice_set graph.nodes x (unsettled (node_at graph x))) (length-set graph.nodes x (unsettled (node_at graph x)))
      (λ o. elim (cases_eq o x) [
        | inl same ↦ subst (λ (z : ℕ). role_in (slice_index_or (slice_set graph.nodes x (unsettled (node_at graph x))) z None) ≡ role_in (slice_index_or graph.nodes z None)) (sym same)
            (ap role_in (get_or-set_same graph.nodes x (unsettled (node_at graph x)) None in_nodes) ∙ role_kept (node_at graph x))
        | inr other ↦ ap role_in (get_or-set_other graph.nodes x o (unsettled (node_at graph x)) None other)
      ])) refl refl
    where
      role_kept : (node : Option Node) → role_in (unsettled node) ≡ role_in node
      role_kept None = refl
      role_kept (Some node) = refl

  -- an object with other flags
  module _ (flags : Flags) where
    abbrev node2 : Option Node
    node2 = flagged flags (node_at graph x)

    pub flagged_kept : (k : Kept) → kept_as node2 (is_source graph x) (slice_index_or lasts x None) ≡ k → kept_of (with_flags x flags graph) lasts ≡ slice_set (kept_of graph lasts) x k
    flagged_kept k is = kept_set graph (with_flags x flags graph) lasts lasts fits (record { nodes = length-set graph.nodes x node2 ∙ fits.nodes; sources = fits.sources }) refl x k low
        (ap (λ (n : Option Node). kept_as n (is_source graph x) (slice_index_or lasts x None)) (get_or-set_same graph.nodes x node2 None in_nodes) ∙ is)
        (λ o other. (get_or-set_other graph.nodes x o node2 None other, refl, refl))

    pub frozen_kept : (on : Bool) → flags ≡ record (flags_of (node_at graph x)) { frozen = on } → IsSome (node_at graph x)
        → kept_of (with_flags x flags graph) lasts ≡ slice_set (kept_of graph lasts) x (record (slice_index_or (kept_of graph lasts) x unpriced) { frozen = on })
    frozen_kept on is live = flagged_kept (record (slice_index_or (kept_of graph lasts) x unpriced) { frozen = on }) (flag_as (node_at graph x) live is ∙ sym (ap (λ (k : Kept). record k { frozen = on }) here))
      where
        flag_as : (node : Option Node) → IsSome node → flags ≡ record (flags_of node) { frozen = on } → kept_as (flagged flags node) (is_source graph x) (slice_index_or lasts x None) ≡ record (kept_as node (is_source graph x) (slice_index_or lasts x None)) { frozen = on }
        flag_as None live is = absurd (false≢true live)
        flag_as (Some node) live is = ap (λ (f : Flags). kept_as (Some (record node { flags = f })) (is_source graph x) (slice_index_or lasts x None)) is

    pub forward_kept : (on : Bool) → flags ≡ record (flags_of (node_at graph x)) { forward = on } → IsSome (node_at graph x)
        → kept_of (with_flags x flags graph) lasts ≡ slice_set (kept_of graph lasts) x (record (slice_index_or (kept_of graph lasts) x unpriced) { forward = on })
    forward_kept on is live = flagged_kept (record (slice_index_or (kept_of graph lasts) x unpriced) { forward = on }) (flag_as (node_at graph x) live is ∙ sym (ap (λ (k : Kept). record k { forward = on }) here))
      where
        flag_as : (node : Option Node) → IsSome node → flags ≡ record (flags_of node) { forward = on } → kept_as (flagged flags node) (is_source graph x) (slice_index_or lasts x None) ≡ record (kept_as node (is_source graph x) (slice_index_or lasts x None)) { forward = on }
        flag_as None live is = absurd (false≢true live)
        flag_as (Some node) live is = ap (λ (f : Flags). kept_as (Some (record node { flags = f })) (is_source graph x) (slice_index_or lasts x None)) is

    -- a lazy object with a value
    pub valued_kept : flags ≡ record (flags_of (node_at graph x)) { current = true } → (value : Value) → IsSome (node_at graph x) → kept_of (with_flags x flags graph) (slice_set lasts x (Some value)) ≡ slice_set (kept_of graph lasts) x (with_value (slice_index_or (kept_of graph lasts) x unpriced) (Some value))
    valued_kept is value live = kept_set graph (with_flags x flags graph) lasts (slice_set lasts x (Some value)) fits
        (record { nodes = length-set graph.nodes x node2 ∙ fits.nodes ∙ sym (length-set lasts x (Some value)); sources = fits.sources ∙ sym (length-set lasts x (Some value)) }) (length-set lasts x (Some value)) x _ low
        (ap (λ (n : Option Node). kept_as n (is_source graph x) (slice_index_or (slice_set lasts x (Some value)) x None)) (get_or-set_same graph.nodes x node2 None in_nodes)
        ∙ ap (kept_as node2 (is_source graph x)) (get_or-set_same lasts x (Some value) None low)
        ∙ value_as (node_at graph x) live is ∙ sym (ap (λ (k : Kept). with_value k (Some value)) here))
        (λ o other. (get_or-set_other graph.nodes x o node2 None other, refl, get_or-set_other lasts x o (Some value) None other))
      where
        value_as : (node : Option Node) → IsSome node → flags ≡ record (flags_of node) { current = true } → kept_as (flagged flags node) (is_source graph x) (Some value) ≡ with_value (kept_as node (is_source graph x) (slice_index_or lasts x None)) (Some value)
        value_as None live is = absurd (false≢true live)
        value_as (Some node) live is = ap (λ (f : Flags). kept_as (Some (record node { flags = f })) (is_source graph x) (Some value)) is

    pub flagged_shape : shape_of (with_flags x flags graph) ≡ shape_of graph
    flagged_shape = same_shape graph (with_flags x flags graph) (same_roles graph.nodes (slice_set graph.nodes x node2) (length-set graph.nodes x node2)
        (λ o. elim (cases_eq o x) [
          | inl same ↦ subst (λ (z : ℕ). role_in (slice_index_or (slice_set graph.nodes x node2) z None) ≡ role_in (slice_index_or graph.nodes z None)) (sym same)
              (ap role_in (get_or-set_same graph.nodes x node2 None in_nodes) ∙ role_kept (node_at graph x))
          | inr other ↦ ap role_in (get_or-set_other graph.nodes x o node2 None other)
        ])) refl refl
      where
        role_kept : (node : Option Node) → role_in (flagged flags node) ≡ role_in node
        role_kept None = refl
        role_kept (Some node) = refl

  -- an object that is gone
  pub taken_kept : (new : GraphView) (on : Bool) → TakesNode graph new x
      → TakesObject x (record { kept = kept_of graph lasts; shape = shape_of graph; deferring = on; noticed = graph.noticed }) (record { kept = kept_of new (slice_set lasts x None); shape = shape_of new; deferring = on; noticed = new.noticed })
  taken_kept new on takes = record {
    switch = refl;
    told = takes.noticed;
    spare = takes.room;
    kept = kept_set graph new lasts (slice_set lasts x None) fits
        (record { nodes = ap length takes.nodes ∙ length-set graph.nodes x None ∙ fits.nodes ∙ sym (length-set lasts x None); sources = ap length takes.sources ∙ length-set graph.sources x false ∙ fits.sources ∙ sym (length-set lasts x None) })
        (length-set lasts x None) x unpriced low
        (ap (λ (l : List (Option Node)). kept_as (slice_index_or l x None) (is_source new x) (slice_index_or (slice_set lasts x None) x None)) takes.nodes
        ∙ ap (λ (n : Option Node). kept_as n (is_source new x) (slice_index_or (slice_set lasts x None) x None)) (get_or-set_same graph.nodes x None None in_nodes)
        ∙ ap (λ (b : Bool). kept_as None b (slice_index_or (slice_set lasts x None) x None)) (ap (λ (l : List Bool). slice_index_or l x false) takes.sources ∙ get_or-set_same graph.sources x false false (let l = fits.sources in omega (arith, l, low)))
        ∙ ap (kept_as None false) (get_or-set_same lasts x None None low))
        (λ o other. (
          ap (λ (l : List (Option Node)). slice_index_or l o None) takes.nodes ∙ get_or-set_other graph.nodes x o None None other,
          ap (λ (l : List Bool). slice_index_or l o false) takes.sources ∙ get_or-set_other graph.sources x o false false other,
          get_or-set_other lasts x o None None other,
        ));
    roles = ap (map role_in) takes.nodes ∙ map-set role_in graph.nodes x None;
    pairs = λ y o. takes.pairs y o;
  }

-- an object more
pub grown_kept : (graph new : GraphView) (lasts lasts2 : List (Option Value)) (on : Bool) (role : Role) (named : List ℕ) → Fits graph lasts → AddsNode role named graph new → lasts2 ≡ lasts ++ None ∷ []
    → AddsObject role named (record { kept = kept_of graph lasts; shape = shape_of graph; deferring = on; noticed = graph.noticed }) (record { kept = kept_of new lasts2; shape = shape_of new; deferring = on; noticed = new.noticed })
grown_kept graph new lasts lasts2 on role named fits adds more = record {
  switch = refl;
  told = adds.noticed;
  spare = adds.spare;
  kept = kept_is new lasts2 (record { nodes = ap length adds.nodes ∙ length-append graph.nodes (Some node ∷ []) ∙ ap (λ (n : ℕ). n + 1) fits.nodes ∙ sym longer; sources = ap length adds.sources ∙ length-append graph.sources (false ∷ []) ∙ ap (λ (n : ℕ). n + 1) fits.sources ∙ sym longer })
      (kept_of graph lasts ++ unpriced ∷ []) (length-append (kept_of graph lasts) (unpriced ∷ []) ∙ ap (λ (n : ℕ). n + 1) (length-kept graph 0 lasts) ∙ sym longer)
      (λ o. pushed_default (kept_of graph lasts) unpriced o ∙ kept_at_node graph lasts fits o ∙ sym (at_each o));
  roles = ap (map role_in) adds.nodes ∙ map-append role_in graph.nodes (Some node ∷ []);
  pairs = λ y o. let p = adds.pairs y o in (
    λ a. elim (p.0 a) [ inl was ↦ inl was | inr q ↦ inr (q.0, q.1 ∙ fits.nodes ∙ sym (length-kept graph 0 lasts)) ],
    λ h. p.1 (elim h [ inl was ↦ inl was | inr q ↦ inr (q.0, q.1 ∙ length-kept graph 0 lasts ∙ sym fits.nodes) ]),
  );
}
  where
    node : Node
    node = record { role = role; flags = no_flags }

    longer : length lasts2 ≡ length lasts + 1
    longer = ap length more ∙ length-append lasts (None ∷ [])

    source_at : (o : ℕ) → is_source new o ≡ is_source graph o
    source_at o = ap (λ (l : List Bool). slice_index_or l o false) adds.sources ∙ pushed_default graph.sources false o

    last_at : (o : ℕ) → slice_index_or lasts2 o None ≡ slice_index_or lasts o None
    last_at o = ap (λ (l : List (Option Value)). slice_index_or l o None) more ∙ pushed_default lasts None o

    node_as : (o : ℕ) → kept_as (node_at new o) (is_source graph o) (slice_index_or lasts o None) ≡ kept_as (node_at graph o) (is_source graph o) (slice_index_or lasts o None)
    node_as o = elim (cases_eq o (length graph.nodes)) [
      | inl same ↦ ap (λ (n : Option Node). kept_as n (is_source graph o) (slice_index_or lasts o None)) (ap (λ (l : List (Option Node)). slice_index_or l o None) adds.nodes ∙ ap (λ (z : ℕ). slice_index_or (graph.nodes ++ Some node ∷ []) z None) same ∙ last_pushed graph.nodes (Some node))
          ∙ sym (ap (λ (n : Option Node). kept_as n (is_source graph o) (slice_index_or lasts o None)) (get_or_past graph.nodes o None (let s = same in omega arith)))
      | inr other ↦ ap (λ (n : Option Node). kept_as n (is_source graph o) (slice_index_or lasts o None)) (ap (λ (l : List (Option Node)). slice_index_or l o None) adds.nodes ∙ other_pushed graph.nodes (Some node) o other)
    ]
      where
        last_pushed : (ns : List (Option Node)) (n : Option Node) → slice_index_or (ns ++ n ∷ []) (length ns) None ≡ n
        last_pushed [] n = refl
        last_pushed (m ∷ ns) n = last_pushed ns n

        other_pushed : (ns : List (Option Node)) (n : Option Node) (o : ℕ) → o ≢ length ns → slice_index_or (ns ++ n ∷ []) o None ≡ slice_index_or ns o None
        other_pushed [] n zero other = absurd (other refl)
        other_pushed [] n (suc o) other = refl
        other_pushed (m ∷ ns) n zero other = refl
        other_pushed (m ∷ ns) n (suc o) other = other_pushed ns n o (λ e. other (ap suc e))

    at_each : (o : ℕ) → kept_as (node_at new o) (is_source new o) (slice_index_or lasts2 o None) ≡ kept_as (node_at graph o) (is_source graph o) (slice_index_or lasts o None)
    at_each o = ap (λ (b : Bool). kept_as (node_at new o) b (slice_index_or lasts2 o None)) (source_at o)
        ∙ ap (kept_as (node_at new o) (is_source graph o)) (last_at o) ∙ node_as o

-- a notice
module _ (graph new : GraphView) (lasts : List (Option Value)) (on off : Bool) (fits : Fits graph lasts) (tells : Tells graph new) where
  fits2 : Fits new lasts
  fits2 = record { nodes = tells.settles.len ∙ fits.nodes; sources = tells.settles.marks ∙ fits.sources }

  abbrev old_view : StoreView
  old_view = record { kept = kept_of graph lasts; shape = shape_of graph; deferring = on; noticed = graph.noticed }

  source_is : (y : ℕ) → (stored_at old_view y).source ≡ is_source graph y
  source_is y = ap (λ (k : Kept). k.source) (kept_at_node graph lasts fits y)

  passes_is : (y : ℕ) → passes_by (role_at (shape_of graph) y) (stored_at old_view y) ≡ passes_at graph y
  passes_is y = ap (λ (k : Kept). passes_by (role_at (shape_of graph) y) k) (kept_at_node graph lasts fits y)
      ∙ ap (λ (r : Option Role). passes_by r (kept_as (node_at graph y) (is_source graph y) (slice_index_or lasts y None))) (role_at_node graph.nodes y)
      ∙ by_node (node_at graph y)
    where
      by_node : (node : Option Node) → passes_by (role_in node) (kept_as node (is_source graph y) (slice_index_or lasts y None)) ≡ passes_of node
      by_node None = refl
      by_node (Some node) = refl

  told_there : (o : ℕ) → IsTold graph o → IsNotified old_view o
  told_there o told = below_wider (observed_by (shape_of graph)) (is_source graph) (λ y. (stored_at old_view y).source) (passes_at graph) (λ y. passes_by (role_at (shape_of graph) y) (stored_at old_view y))
      (λ y e. source_is y ∙ e) (λ y e. passes_is y ∙ e) o told

  told_back : (o : ℕ) → IsNotified old_view o → IsTold graph o
  told_back o told = below_wider (observed_by (shape_of graph)) (λ y. (stored_at old_view y).source) (is_source graph) (λ y. passes_by (role_at (shape_of graph) y) (stored_at old_view y)) (passes_at graph)
      (λ y e. sym (source_is y) ∙ e) (λ y e. sym (passes_is y) ∙ e) o told

  after : (o : ℕ) → slice_index_or (kept_of new lasts) o unpriced ≡ kept_as (node_at new o) false (slice_index_or lasts o None)
  after o = kept_at_node new lasts fits2 o ∙ ap (λ (b : Bool). kept_as (node_at new o) b (slice_index_or lasts o None)) (tells.settles.sources o)

  -- a node that is a watcher has its role, and the other way round
  watcher_there : (w : ℕ) → IsWatcher (node_at graph w) → role_at (shape_of graph) w ≡ Some Watcher
  watcher_there w is = role_at_node graph.nodes w ∙ by_node (node_at graph w) is
    where
      by_node : (node : Option Node) → IsWatcher node → role_in node ≡ Some Watcher
      by_node None none = absurd none
      by_node (Some node) is = ap Some is

  watcher_back : (w : ℕ) → role_at (shape_of graph) w ≡ Some Watcher → IsWatcher (node_at graph w)
  watcher_back w is = by_node (node_at graph w) (sym (role_at_node graph.nodes w) ∙ is)
    where
      same_role : (a b : Role) → Some a ≡ Some b → a ≡ b
      same_role a b e = cc

      by_node : (node : Option Node) → role_in node ≡ Some Watcher → IsWatcher node
      by_node None none = absurd (cc)
      by_node (Some node) is = same_role node.role Watcher is

  told_as : (node : Option Node) (b : Bool) (last : Option Value) → kept_as (unsettled node) false last ≡ notified_kept true (kept_as node b last)
  told_as None b last = refl
  told_as (Some node) b last = refl

  pub notices : Notices old_view (record { kept = kept_of new lasts; shape = shape_of new; deferring = off; noticed = new.noticed })
  notices = record {
    shape = same_shape graph new (same_roles graph.nodes new.nodes tells.settles.len (λ o. elim (tells.settles.node o) [
      | inl told ↦ ap role_in told.1 ∙ role_kept (node_at graph o)
      | inr spared ↦ ap role_in spared.1
    ])) tells.settles.subjects tells.spare;
    long = length-kept new 0 lasts ∙ sym (length-kept graph 0 lasts);
    each = λ o. elim (tells.settles.node o) [
      | inl told ↦ inl (
        told_there o told.0,
        after o ∙ ap (λ (n : Option Node). kept_as n false (slice_index_or lasts o None)) told.1
            ∙ told_as (node_at graph o) (is_source graph o) (slice_index_or lasts o None)
            ∙ ap (notified_kept true) (sym (kept_at_node graph lasts fits o)),
      )
      | inr spared ↦ inr (
        (λ is. spared.0 (told_back o is)),
        after o ∙ ap (λ (n : Option Node). kept_as n false (slice_index_or lasts o None)) spared.1
            ∙ ap (notified_kept false) (sym (kept_at_node graph lasts fits o)),
      )
    ];
    noticed = λ w. (
      λ among. elim ((tells.noticed w).0 among) [
        | inl was ↦ inl was
        | inr now ↦ inr (watcher_there w now.0, told_there w now.1)
      ],
      λ either. (tells.noticed w).1 (elim either [
        | inl was ↦ inl was
        | inr now ↦ inr (watcher_back w now.0, told_back w now.1)
      ]),
    );
    rising = tells.rising;
  }
    where
      role_kept : (node : Option Node) → role_in (unsettled node) ≡ role_in node
      role_kept None = refl
      role_kept (Some node) = refl

-- a notice of one object more
pub notices_marked : (graph new : GraphView) (lasts : List (Option Value)) (on off : Bool) → Fits graph lasts → (x : ℕ) → x < length lasts → Tells (with_source x graph) new
    → Notices (marked x (record { kept = kept_of graph lasts; shape = shape_of graph; deferring = on; noticed = graph.noticed })) (record { kept = kept_of new lasts; shape = shape_of new; deferring = off; noticed = new.noticed })
notices_marked graph new lasts on off fits x low tells =
    subst (λ (k : List Kept). Notices (record { kept = k; shape = shape_of graph; deferring = on; noticed = graph.noticed }) (record { kept = kept_of new lasts; shape = shape_of new; deferring = off; noticed = new.noticed })) (marked_kept graph lasts fits x low)
    (notices (with_source x graph) new lasts on off (record { nodes = fits.nodes; sources = length-set graph.sources x true ∙ fits.sources }) tells)

-- THE VIEW of a store
abbrev pub view_of : GraphView → List (Option Value) → Bool → StoreView
view_of graph lasts on = record { kept = kept_of graph lasts; shape = shape_of graph; deferring = on; noticed = graph.noticed }

-- an object that is there has a last value, or none
pub place_within : (graph : GraphView) (lasts : List (Option Value)) → Fits graph lasts → (x : ℕ) → is_some (role_at (shape_of graph) x) ≡ true → x < length lasts
place_within graph lasts fits x is = let low = live_within graph.nodes x (live_node graph x is) in let n = fits.nodes in omega (arith, low, n)

module _ (graph : GraphView) (lasts : List (Option Value)) (on : Bool) (fits : Fits graph lasts) (x : ℕ) (is : is_some (role_at (shape_of graph) x) ≡ true) where
  low : x < length lasts
  low = place_within graph lasts fits x is

  abbrev stored : Kept
  stored = stored_at (view_of graph lasts on) x

  pub marked_view : (new : GraphView) (switch : Bool) → new ≡ with_source x graph → switch ≡ on → view_of new lasts switch ≡ marked x (view_of graph lasts on)
  marked_view new switch e same = ap (λ (g : GraphView). view_of g lasts switch) e
      ∙ same_view (view_of (with_source x graph) lasts switch) (marked x (view_of graph lasts on)) (marked_kept graph lasts fits x low) refl same refl

  pub outdated_view : (new : GraphView) → new ≡ with_stale x graph → view_of new lasts on ≡ stored_as x (record stored { current = false }) (view_of graph lasts on)
  outdated_view new e = ap (λ (g : GraphView). view_of g lasts on) e
      ∙ same_view (view_of (with_stale x graph) lasts on) (stored_as x (record stored { current = false }) (view_of graph lasts on)) (outdated_kept graph lasts fits x low) (outdated_shape graph lasts fits x low) refl refl

  pub frozen_view : (new : GraphView) (flags : Flags) (frozen : Bool) → new ≡ with_flags x flags graph → flags ≡ record (flags_of (node_at graph x)) { frozen = frozen }
      → view_of new lasts on ≡ stored_as x (record stored { frozen = frozen }) (view_of graph lasts on)
  frozen_view new flags frozen e are = ap (λ (g : GraphView). view_of g lasts on) e
      ∙ same_view (view_of (with_flags x flags graph) lasts on) (stored_as x (record stored { frozen = frozen }) (view_of graph lasts on))
      (frozen_kept graph lasts fits x low flags frozen are (live_node graph x is)) (flagged_shape graph lasts fits x low flags) refl refl

  pub forward_view : (new : GraphView) (flags : Flags) (forward : Bool) → new ≡ with_flags x flags graph → flags ≡ record (flags_of (node_at graph x)) { forward = forward }
      → view_of new lasts on ≡ stored_as x (record stored { forward = forward }) (view_of graph lasts on)
  forward_view new flags forward e are = ap (λ (g : GraphView). view_of g lasts on) e
      ∙ same_view (view_of (with_flags x flags graph) lasts on) (stored_as x (record stored { forward = forward }) (view_of graph lasts on))
      (forward_kept graph lasts fits x low flags forward are (live_node graph x is)) (flagged_shape graph lasts fits x low flags) refl refl

-- other pairs
pub pairs_kept : (graph new : GraphView) (lasts : List (Option Value)) → new.nodes ≡ graph.nodes → new.sources ≡ graph.sources → (kept_of new lasts ≡ kept_of graph lasts) × (map role_in new.nodes ≡ map role_in graph.nodes)
pairs_kept graph new lasts nodes sources = (kept_both 0 lasts, ap (map role_in) nodes)
  where
    kept_both : (from : ℕ) (lasts : List (Option Value)) → kept_from new from lasts ≡ kept_from graph from lasts
    kept_both from [] = refl
    kept_both from (last ∷ lasts) = ap (λ (l : List (Option Node)). kept_as (slice_index_or l from None) (is_source new from) last ∷ kept_from new (from + 1) lasts) nodes
        ∙ ap (λ (l : List Bool). kept_as (node_at graph from) (slice_index_or l from false) last ∷ kept_from new (from + 1) lasts) sources
        ∙ ap (λ (l : List Kept). kept_as (node_at graph from) (is_source graph from) last ∷ l) (kept_both (from + 1) lasts)

-- a told watcher that is handed out changes nothing else
module _ (graph new : GraphView) (lasts : List (Option Value)) (on : Bool) where
  pub none_told : (r : Option ℕ) → IfNone r ((graph.noticed ≡ []) × (new ≡ graph)) → IfNone r ((graph.noticed ≡ []) × (view_of new lasts on ≡ view_of graph lasts on))
  none_told None none = (none.0, ap (λ (g : GraphView). view_of g lasts on) none.1)
  none_told (Some w) none = tt

  pub some_told : (r : Option ℕ) → IfSome r (λ w. (graph.noticed ≡ w ∷ new.noticed) × (new ≡ record graph { noticed = new.noticed }))
      → IfSome r (λ w. (graph.noticed ≡ w ∷ new.noticed) × (view_of new lasts on ≡ record (view_of graph lasts on) { noticed = new.noticed }))
  some_told None some = tt
  some_told (Some w) some = (
    some.0,
    let p = pairs_kept graph new lasts (ap (λ (g : GraphView). g.nodes) some.1) (ap (λ (g : GraphView). g.sources) some.1) in
        same_view (view_of new lasts on) (record (view_of graph lasts on) { noticed = new.noticed }) p.0 (same_shape graph new p.1 (ap (λ (g : GraphView). g.subjects) some.1) (ap (λ (g : GraphView). g.spare) some.1)) refl refl,
  )
