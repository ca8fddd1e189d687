-- What a call of the graph or of the deferral leaves of the store that lends it.
use Rattle.std.proofs.Common.{◌≡◌, ℕ, Bool, true, false, length, Option, refl, ◌∙◌, ap, subst}
use Rattle.std.specs.Prelude.{◌↔◌, is_some, IsSome}
use Rattle.walks.specs.Walk.{Among}
use Rattle.observer_graph.specs.declared.node.Flags.{Flags}
use Rattle.observer_graph.specs.GraphView.{GraphView, IsPair, node_at, flags_at}
use Rattle.observer_graph.specs.Change.{AddsPair, TakesPair, with_flags}
use Rattle.observer_graph.specs.Notice.{IsLeast, with_stale}
use Rattle.observer_graph.specs.Late as graphs
use Rattle.object_store.specs.Late.{IsLateOf}
use Rattle.object_store.specs.Shape.{role_at, observed_by, shape_of}
use Rattle.object_store.specs.Store.{StoreView, Joins, Leaves, stored_at, stored_as}
use Rattle.object_store.specs.declared.store.Store.TheInside.{Inside}
use Rattle.object_store.proofs.HeldBack.{least_late}
use Rattle.object_store.proofs.Kept.{Fits, view_of, live_as, outdated_view, frozen_view, forward_view, pairs_kept}

-- a store of these parts, and one whose graph was changed
abbrev pub seen : Inside → StoreView
seen s = view_of s.deferral.graph s.lasts.items s.deferral.on

abbrev pub seen_with : Inside → GraphView → StoreView
seen_with s graph = view_of graph s.lasts.items s.deferral.on

abbrev pub Stands : Inside → Type 0
Stands s = (length s.deferral.graph.nodes ≡ length s.lasts.items) × (length s.deferral.graph.sources ≡ length s.lasts.items)

module _ (s : Inside) (stands : Stands s) (old : StoreView) (same : seen s ≡ old) where
  abbrev graph : GraphView
  graph = s.deferral.graph

  fits : Fits graph s.lasts.items
  fits = record { nodes = stands.0; sources = stands.1 }

  pub live : (x : ℕ) → is_some (role_at old.shape x) ≡ true → IsSome (node_at graph x)
  live x there = live_as graph old.shape (ap (λ (v : StoreView). v.shape) same) x ∙ there

  back : (x : ℕ) → is_some (role_at old.shape x) ≡ true → is_some (role_at (shape_of graph) x) ≡ true
  back x there = ap (λ (v : StoreView). is_some (role_at v.shape x)) same ∙ there

  pub pair : (x o : ℕ) (b : Bool) → (b ≡ true) ↔ IsPair graph x o → (b ≡ true) ↔ Among x (observed_by old.shape o)
  pair x o b is = subst (λ (v : StoreView). (b ≡ true) ↔ Among x (observed_by v.shape o)) same is

  pub late : (o : ℕ) (least : Option ℕ) → IsLeast (graphs.IsLateOf graph o) least → IsLeast (IsLateOf old o) least
  late o least is = subst (λ (v : StoreView). IsLeast (IsLateOf v o) least) same (least_late graph s.lasts.items s.deferral.on fits o least is)

  pub joins : (new : GraphView) (x o : ℕ) → AddsPair graph new x o → Joins old (seen_with s new) x o
  joins new x o more = subst (λ (v : StoreView). Joins v (seen_with s new) x o) same
      (let p = pairs_kept graph new s.lasts.items more.nodes more.sources in record { kept = p.0; switch = refl; told = more.noticed; roles = p.1; pairs = λ y z. more.pairs y z })

  pub leaves : (new : GraphView) (x o : ℕ) → TakesPair graph new x o → Leaves old (seen_with s new) x o
  leaves new x o less = subst (λ (v : StoreView). Leaves v (seen_with s new) x o) same
      (let p = pairs_kept graph new s.lasts.items less.nodes less.sources in record { kept = p.0; switch = refl; told = less.noticed; roles = p.1; pairs = λ y z. less.pairs y z })

  module _ (x : ℕ) (there : is_some (role_at old.shape x) ≡ true) where
    pub outdated : (new : GraphView) → new ≡ with_stale x graph → seen_with s new ≡ stored_as x (record (stored_at old x) { current = false }) old
    outdated new e = subst (λ (v : StoreView). seen_with s new ≡ stored_as x (record (stored_at v x) { current = false }) v) same
        (outdated_view graph s.lasts.items s.deferral.on fits x (back x there) new e)

    pub frozen : (new : GraphView) (flags : Flags) (on : Bool) → new ≡ with_flags x flags graph → flags ≡ record (flags_at graph x) { frozen = on }
        → seen_with s new ≡ stored_as x (record (stored_at old x) { frozen = on }) old
    frozen new flags on e are = subst (λ (v : StoreView). seen_with s new ≡ stored_as x (record (stored_at v x) { frozen = on }) v) same
        (frozen_view graph s.lasts.items s.deferral.on fits x (back x there) new flags on e are)

    pub forwards : (new : GraphView) (flags : Flags) (on : Bool) → new ≡ with_flags x flags graph → flags ≡ record (flags_at graph x) { forward = on }
        → seen_with s new ≡ stored_as x (record (stored_at old x) { forward = on }) old
    forwards new flags on e are = subst (λ (v : StoreView). seen_with s new ≡ stored_as x (record (stored_at v x) { forward = on }) v) same
        (forward_view graph s.lasts.items s.deferral.on fits x (back x there) new flags on e are)
