-- Links that fit a graph, after a change of both.
use Rattle.std.proofs.Common.{◌≡◌, ◌≢◌, ◌⊎◌, inl, inr, ℕ, ◌≤◌, arith, List, refl, sym, ◌∙◌, ap, subst, Option, Some, None}
use Rattle.std.proofs.lemmas.Bool.{cases_eq}
use Rattle.observer_graph.specs.GraphView.{GraphView, IsLive, IsPair}
use Rattle.link_table.specs.declared.links.Link.{Link}
use Rattle.link_table.specs.Links.{free_count, ChangesAt, Fits, FitsBut, Joins, Leaves, Observes, Relinks, link_at, target_at, target_of}
use Rattle.observer_graph.specs.Change.{AddsPair, TakesPair}
use Rattle.link_table.proofs.Maps.{changed_here, changed_there}
use Rattle.link_table.proofs.Counting.{free_same}
use Rattle.std.specs.Prelude.{slice_set}

some_is : (a b : ℕ) → Some a ≡ Some b → a ≡ b
some_is a b e = cc

none_is_some : (a : ℕ) → None ≡ Some a → ⊥
none_is_some a e = absurd cc

-- whether an optional target is this one
is_or_not : (target : Option ℕ) (x : ℕ) → (target ≡ Some x) ⊎ (target ≡ Some x → ⊥)
is_or_not None x = inr (λ e. none_is_some x e)
is_or_not (Some t) x = elim (cases_eq t x) [
  | inl same ↦ inl (ap Some same)
  | inr other ↦ inr
      (λ e. other (some_is t x e))
]

-- the same links in look-ups
pub fits_same : (old new : List (Option Link)) (graph : GraphView) → ((h : ℕ) → link_at new h ≡ link_at old h)
    → Fits old graph → Fits new graph
fits_same old new graph same fits = record {
  linked = λ h t is. fits.linked h t (ap target_of (sym (same h)) ∙ is);
  spare = let count = free_same old new same in let room = fits.spare in omega arith;
}

-- a number that has no target now, others as they were
linked_but : (old new : List (Option Link)) (graph : GraphView) (holder : ℕ) (link : Option Link)
    → ChangesAt old new holder link → target_of link ≡ None
    → ((h t : ℕ) → (h ≡ holder → ⊥) → target_at old h ≡ Some t → Observes graph h t)
    → (h t : ℕ) → target_at new h ≡ Some t → Observes graph h t
linked_but old new graph holder link change none linked h t is = elim (cases_eq h holder) [
  | inl same ↦ absurd (none_is_some t (sym none ∙ ap target_of (sym (changed_here old new holder link change)
      ∙ ap (link_at new) (sym same)) ∙ is))
  | inr other ↦ linked h t other (ap target_of (sym (changed_there old new holder link change h other)) ∙ is)
]

-- a number that is no holder any more
pub fits_but : (links : List (Option Link)) (place holder : ℕ) (graph : GraphView) → place ≡ holder
    → ChangesAt links (slice_set links place None) holder None → FitsBut holder links graph
    → Fits (slice_set links place None) graph
fits_but links place holder graph at change fits = record {
  linked = linked_but links (slice_set links place None) graph holder None change refl fits.linked;
  spare = subst (λ (p : ℕ). free_count (slice_set links p None) ≤ graph.spare) (sym at) fits.spare;
}

-- a holder more, which has no target, and a spare place for it
pub fits_added : (old new : List (Option Link)) (graph : GraphView) (holder spare : ℕ)
    → ChangesAt old new holder (Some (record { target = None })) → free_count new ≤ spare → Fits old graph
    → Fits new (record graph { spare = spare })
fits_added old new graph holder spare change room fits = record {
  linked = linked_but old new (record graph { spare = spare }) holder (Some (record { target = None })) change refl
      (λ h t other is. fits.linked h t is);
  spare = room;
}

-- the same target again
pub relinks_same : (graph : GraphView) (links : List (Option Link)) (holder : ℕ) (target : Option ℕ)
    → Fits links graph → target_at links holder ≡ target → Relinks graph graph holder (target_at links holder) target
relinks_same graph links holder target fits same = record {
  nodes = refl;
  sources = refl;
  noticed = refl;
  pairs = λ x o. (λ a. apart x o (cases_eq o holder) (is_or_not (target_at links holder) x) a, λ h. back x o h);
}
  where
    apart : (x o : ℕ) → (o ≡ holder) ⊎ (o ≢ holder) → (target_at links holder ≡ Some x)
        ⊎ (target_at links holder ≡ Some x → ⊥) → IsPair graph x o
        → (IsPair graph x o × ((o ≡ holder) × (target_at links holder ≡ Some x) → ⊥))
        ⊎ ((o ≡ holder) × (target ≡ Some x))
    apart x o (inr other) is a = inl (a, λ p. other p.0)
    apart x o (inl here) (inr not) a = inl (a, λ p. not p.1)
    apart x o (inl here) (inl is) a = inr (here, sym same ∙ is)

    back : (x o : ℕ) → (IsPair graph x o × ((o ≡ holder) × (target_at links holder ≡ Some x) → ⊥))
        ⊎ ((o ≡ holder) × (target ≡ Some x)) → IsPair graph x o
    back x o (inl h) = h.0
    back x o (inr h) = subst (IsPair graph x) (sym h.0) (fits.linked holder x (same ∙ h.1)).2

-- another target
pub relinks_other : (old mid new : GraphView) (holder : ℕ) (was now : Option ℕ) → Leaves old mid holder was
    → Joins mid new holder now → Relinks old new holder was now
relinks_other old mid new holder was now leaves joins = record {
  nodes = joins.nodes ∙ leaves.nodes;
  sources = joins.sources ∙ leaves.sources;
  noticed = joins.noticed ∙ leaves.noticed;
  pairs = λ x o. (
    λ a. elim ((joins.pairs x o).0 a) [ inl was ↦ inl ((leaves.pairs x o).0 was) | inr j ↦ inr j ],
    λ h. (joins.pairs x o).1 (elim h [ inl p ↦ inl ((leaves.pairs x o).1 p) | inr j ↦ inr j ]),
  );
}

pub live_there : (old new : GraphView) → new.nodes ≡ old.nodes → (o : ℕ) → IsLive old o → IsLive new o
live_there old new nodes o live = subst (λ n. IsLive (record old { nodes = n }) o) (sym nodes) live

-- the pairs of links and graph that were relinked
linked_relinked : (old new : List (Option Link)) (graph graph2 : GraphView) (holder : ℕ) (target : Option ℕ)
    → ((h t : ℕ) → target_at old h ≡ Some t → Observes graph h t)
    → ChangesAt old new holder (Some (record { target = target }))
    → Relinks graph graph2 holder (target_at old holder) target → IsLive graph holder
    → ((t : ℕ) → target ≡ Some t → IsLive graph t) → (h t : ℕ) → target_at new h ≡ Some t → Observes graph2 h t
linked_relinked old new graph graph2 holder target linked change relinks live targets h t is = elim (cases_eq h holder) [
  | inl same ↦ subst (λ (z : ℕ). Observes graph2 z t) (sym same)
      (let wanted = sym (ap target_of (changed_here old new holder (Some (record { target = target })) change))
      ∙ ap (target_at new) (sym same) ∙ is in (
        live_there graph graph2 relinks.nodes holder live,
        live_there graph graph2 relinks.nodes t
            (targets t wanted),
        (relinks.pairs t holder).1 (inr (refl, wanted)),
      ))
  | inr other ↦
      let o = linked h t (ap target_of (sym (changed_there old new holder (Some (record { target = target }))
      change h other)) ∙ is) in (
        live_there graph graph2 relinks.nodes h o.0,
        live_there graph graph2 relinks.nodes t o.1,
        (relinks.pairs t h).1
            (inl (o.2, λ p. other p.0)),
      )
]

-- links and graph that were relinked fit
pub fits_relinked : (old new : List (Option Link)) (graph graph2 : GraphView) (holder : ℕ) (target : Option ℕ)
    → Fits old graph → ChangesAt old new holder (Some (record { target = target }))
    → Relinks graph graph2 holder (target_at old holder) target → IsLive graph holder
    → ((t : ℕ) → target ≡ Some t → IsLive graph t) → free_count new ≤ graph2.spare → Fits new graph2
fits_relinked old new graph graph2 holder target fits change relinks live targets room = record {
  linked = linked_relinked old new graph graph2 holder target fits.linked change relinks live targets;
  spare = room;
}

-- one pair more is the holder's with the target that there is
pub joins_one : (old new : GraphView) (holder t : ℕ) (target : Option ℕ) → target ≡ Some t → AddsPair old new t holder
    → Joins old new holder target
joins_one old new holder t target is adds = record {
  nodes = adds.nodes;
  sources = adds.sources;
  noticed = adds.noticed;
  pairs = λ x o. (
    λ a. elim ((adds.pairs x o).0 a) [ inl was ↦ inl was | inr e ↦ inr (e.1, is ∙ ap Some (sym e.0)) ],
    λ h. (adds.pairs x o).1 (elim h [ inl was ↦ inl was | inr j ↦ inr (some_is x t (sym j.1 ∙ is), j.0) ]),
  );
}

-- and one pair less
pub leaves_one : (old new : GraphView) (holder t : ℕ) (target : Option ℕ) → target ≡ Some t
    → TakesPair old new t holder → Leaves old new holder target
leaves_one old new holder t target is takes = record {
  nodes = takes.nodes;
  sources = takes.sources;
  noticed = takes.noticed;
  pairs = λ x o. (
    λ a. let h = (takes.pairs x o).0 a in (h.0, λ p. h.1 (some_is x t (sym p.1 ∙ is), p.0)),
    λ h. (takes.pairs x o).1 (h.0, λ p. h.1 (p.1, is ∙ ap Some (sym p.0))),
  );
}
