-- A holder that was moved may be moved again.
use Rattle.std.proofs.Common.{◌≡◌, inl, inr, ℕ, zero, suc, ◌<◌, List, [], length, refl, sym, ◌∙◌, ap, subst, arith, Option, None, Some}
use Rattle.std.specs.Prelude.{IsSome}
use Rattle.observer_graph.specs.GraphView.{GraphView, IsLive, IsPair}
use Rattle.observer_graph.specs.declared.node.Role.TheVariants.{Source, Forwarder}
use Rattle.observer_graph.specs.Change.{with_node}
use Rattle.link_table.specs.declared.links.Link.{Link}
use Rattle.link_table.specs.Links.{ChangesAt, Fits, Relinks, link_at, target_at, target_of}
use Rattle.link_table.proofs.Maps.{changed_here}
use Rattle.link_table.proofs.Counting.{free_none}
use Rattle.link_table.proofs.Fitting.{live_there}
use Rattle.graph_vectors.specs.Moves.{IsMovable}

-- what the holder observes is what it holds
pub none_else : (links : List (Option Link)) (graph : GraphView) (holder : ℕ) (target : Option ℕ)
    → IsMovable links graph holder
    → (t : ℕ) → target ≡ Some t → (target_at links holder ≡ target → ⊥) → IsPair graph t holder → ⊥
none_else links graph holder target m t is other a = other (m.only t a ∙ sym is)

pub movable_moved : (old new : List (Option Link)) (graph graph2 : GraphView) (holder : ℕ) (target : Option ℕ)
    → IsMovable old graph holder
    → ChangesAt old new holder (Some (record { target = target }))
    → Relinks graph graph2 holder (target_at old holder) target → Fits new graph2
    → IsMovable new graph2 holder
movable_moved old new graph graph2 holder target m change relinks fits = record {
  fits = fits;
  known = subst IsSome (sym (changed_here old new holder (Some (record { target = target })) change)) refl;
  live = live_there graph graph2 relinks.nodes holder m.live;
  sources = λ t low. live_there graph graph2 relinks.nodes t (m.sources t low);
  only = λ t a. elim ((relinks.pairs t holder).0 a) [
    | inl was ↦ absurd (was.1 (refl, m.only t was.0))
    | inr now ↦ ap target_of (changed_here old new holder (Some (record { target = target })) change) ∙ now.1
  ];
}

-- two sources and a holder
first_graph : GraphView
first_graph = with_node Forwarder
    (with_node Source (with_node Source (record { nodes = []; subjects = []; sources = []; noticed = []; spare = 0 })))

source_live : (t : ℕ) → t < 2 → IsLive first_graph t
unfolding first_graph
source_live zero low = refl
source_live (suc zero) low = refl
source_live (suc (suc t)) low = absurd (omega arith)

holder_live : IsLive first_graph 2
unfolding first_graph
holder_live = refl

holder_free : (t : ℕ) → IsPair first_graph t 2 → ⊥
unfolding first_graph
holder_free t a = a

pub movable_first : (g0 g1 g2 g3 g4 : GraphView) (spare : ℕ) (old new : List (Option Link)) (holder : ℕ)
    → g0 ≡ record { nodes = []; subjects = []; sources = []; noticed = []; spare = 0 }
    → g1 ≡ with_node Source g0 → g2 ≡ with_node Source g1 → g3 ≡ with_node Forwarder g2 → g4 ≡ record g3 { spare = spare } → holder ≡ length g2.nodes
    → ChangesAt old new holder (Some (record { target = None })) → Fits new g4 → IsMovable new g4 holder
unfolding first_graph
movable_first g0 g1 g2 g3 g4 spare old new holder e0 e1 e2 e3 e4 at change fits = record {
  fits = fits;
  known = subst IsSome (sym (changed_here old new holder (Some (record { target = None })) change)) refl;
  live = subst (IsLive g4) (sym number) (subst (λ (g : GraphView). IsLive g 2) (sym graph) holder_live);
  sources = λ t low. subst (λ (g : GraphView). IsLive g t) (sym graph) (source_live t low);
  only = λ t a. absurd (holder_free t (subst (λ (g : GraphView). IsPair g t 2) graph (subst (IsPair g4 t) number a)));
}
  where
    second : g2 ≡ with_node Source (with_node Source (record { nodes = []; subjects = []; sources = []; noticed = []; spare = 0 }))
    second = e2 ∙ ap (with_node Source) (e1 ∙ ap (with_node Source) e0)

    graph : g4 ≡ record (with_node Forwarder
        (with_node Source (with_node Source (record { nodes = []; subjects = []; sources = []; noticed = []; spare = 0 })))) { spare = spare }
    graph = e4 ∙ ap (λ (g : GraphView). record g { spare = spare }) (e3 ∙ ap (with_node Forwarder) second)

    number : holder ≡ 2
    number = at ∙ ap (λ (g : GraphView). length g.nodes) second

-- where there is no holder, links fit each graph
pub none_fits : (links : List (Option Link)) (graph : GraphView) → ((h : ℕ) → link_at links h ≡ None) → Fits links graph
none_fits links graph none = record {
  linked = λ h t is. absurd (clash t (sym (ap target_of (none h)) ∙ is));
  spare = let count = free_none links none in omega arith;
}
  where
    clash : (t : ℕ) → None ≡ Some t → ⊥
    clash t e = absurd cc
