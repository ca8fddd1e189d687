-- The graph of a desk: the role of each object and whom it observes.
use Rattle.std.specs.Prelude.{◌≡◌, ◌↔◌, ◌+◌, ◌≤◌, ℕ, Bool, false, List, [], ◌∷◌, length, map, Option, Some, None, slice_index_or, if◌then◌else◌}
use Rattle.std.specs.List.{sum_by}
use Rattle.walks.specs.Walk.{Among}
use Rattle.desk_terms.specs.declared.terms.Terms.{Terms}
use Rattle.desk_terms.specs.declared.terms.Terms.TheVariants as terms
use Rattle.desk_terms.specs.declared.value.Value.{Value}
use Rattle.desk_terms.specs.Kind as kind
use Rattle.curve_terms.specs.declared.terms.CurveStart.{CurveStart}
use Rattle.curve_terms.specs.declared.terms.CurveStart.TheVariants.{Moving, Fixed}
use Rattle.desk_terms.specs.Terms.{inputs_of, observes_today}
use Rattle.desk_model.specs.declared.kept.Kept.{Kept}
use Rattle.desk_model.specs.declared.slot.Slot.{Slot}
use Rattle.desk_model.specs.declared.slot.Slot.TheVariants as slot
use Rattle.desk_model.specs.Effect.{with_pair}
use Rattle.desk_model.specs.Market.{Market, slot_at, is_watcher, edges, named, role_of}
use Rattle.observer_graph.specs.declared.node.Role.{Role}
use Rattle.observer_graph.specs.declared.node.Role.TheVariants.{Source, Forwarder, Lazy, Watcher}
use Rattle.observer_graph.specs.declared.node.Node.{Node}
use Rattle.observer_graph.specs.GraphView.{GraphView, node_at, flags_of, is_source, edges_by}
use Rattle.observer_graph.specs.Lists.{list_at}

-- by number: its role, none where no object has it, and the objects that it observes, in no order; and how many pairs
-- more find room without memory
pub record Shape : Type 0 where
  pub roles : List (Option Role)
  pub subjects : List (List ℕ)
  pub spare : ℕ

abbrev pub role_at : Shape → ℕ → Option Role
role_at shape o = slice_index_or shape.roles o None

abbrev pub observed_by : Shape → ℕ → List ℕ
observed_by shape o = list_at shape.subjects o

abbrev pub role_in : Option Node → Option Role
role_in None = None
role_in (Some node) = Some node.role

-- the edges of an object: what it observes; a watcher has none
abbrev pub edges_from : Option Role → List ℕ → List ℕ
edges_from None subjects = []
edges_from (Some role) subjects = edges_by role subjects

abbrev pub edges_at : Shape → ℕ → List ℕ
edges_at shape o = edges_from (role_at shape o) (observed_by shape o)

-- how a node takes a notice that stands for an object with this role
abbrev pub node_role : kind.Role → Role
node_role kind.Role.Source = Source
node_role kind.Role.Forwarder = Forwarder
node_role kind.Role.Lazy = Lazy
node_role kind.Role.Watching = Source

-- the role of what stands at a number; none where nothing does
abbrev pub slot_role : Slot → Option Role
slot_role slot.Free = None
slot_role slot.Today = Some Source
slot_role slot.Watcher = Some Watcher
slot_role (slot.Live terms) = Some (node_role (role_of (Some terms)))

-- the objects that an object with these terms observes, in order; one may be named twice
abbrev pub watched : Terms → List ℕ
watched terms = if observes_today terms then 0 ∷ named (inputs_of terms) else named (inputs_of terms)

-- the evaluation date, where a curve's start moves with it
abbrev pub moved_by : CurveStart → List ℕ
moved_by (Moving settlement) = 0 ∷ []
moved_by (Fixed day) = []

-- the target of a handle, if it has one
abbrev pub linked : Option ℕ → List ℕ
linked None = []
linked (Some target) = target ∷ []

-- a holder that holds nothing: an empty handle, or an instrument without an engine
abbrev pub vacancy_of : Terms → ℕ
vacancy_of (terms.Quote value) = 0
vacancy_of (terms.Derived minus first second) = 0
vacancy_of (terms.Handle kind None) = 1
vacancy_of (terms.Handle kind (Some target)) = 0
vacancy_of (terms.Curve curve) = 0
vacancy_of (terms.Implied curve reference) = 0
vacancy_of (terms.Index index fixings) = 0
vacancy_of (terms.Engine curve) = 0
vacancy_of (terms.Stock quote) = 0
vacancy_of (terms.Composite parts) = 0
vacancy_of (terms.Flows flows None) = 1
vacancy_of (terms.Flows flows (Some engine)) = 0

abbrev pub vacancy : Slot → ℕ
vacancy slot.Free = 0
vacancy slot.Today = 0
vacancy slot.Watcher = 0
vacancy (slot.Live terms) = vacancy_of terms

-- how many holders hold nothing
unfoldable pub vacancies : List Slot → ℕ
vacancies slots = sum_by vacancy slots

-- THE GRAPH OF A MARKET: each object has its role, and an object that is no watcher observes its edges. What a watcher
-- observes are its registrations. There is room for what each holder that holds nothing may come to hold.
pub record IsJoined (market : Market) (shape : Shape) : Type 0 where
  pub long : length shape.roles ≡ length market.objects
  pub roles : (o : ℕ) → role_at shape o ≡ slot_role (slot_at market o)
  pub pairs : (o x : ℕ) → is_watcher (slot_at market o) ≡ false → Among x (observed_by shape o) ↔ Among x (edges market o)
  pub room : vacancies market.objects ≤ shape.spare

-- the pairs of a watcher with these, each put at its place
abbrev pub with_pairs : ℕ → List ℕ → List (ℕ × ℕ) → List (ℕ × ℕ)
with_pairs w [] pairs = pairs
with_pairs w (x ∷ xs) pairs = with_pair w x (with_pairs w xs pairs)

abbrev pub with_watcher : Role → ℕ → List ℕ → List (ℕ × ℕ) → List (ℕ × ℕ)
with_watcher Source w xs pairs = pairs
with_watcher Forwarder w xs pairs = pairs
with_watcher Lazy w xs pairs = pairs
with_watcher Watcher w xs pairs = with_pairs w xs pairs

abbrev pub with_any : Option Role → ℕ → List ℕ → List (ℕ × ℕ) → List (ℕ × ℕ)
with_any None w xs pairs = pairs
with_any (Some role) w xs pairs = with_watcher role w xs pairs

abbrev pub registrations_from : ℕ → List (Option Role) → List (List ℕ) → List (ℕ × ℕ)
registrations_from w [] subjects = []
registrations_from w (role ∷ roles) subjects = with_any role w (list_at subjects w) (registrations_from (w + 1) roles subjects)

-- THE REGISTRATIONS that a graph has: the pairs of its watchers, in order
unfoldable pub registrations_of : Shape → List (ℕ × ℕ)
registrations_of shape = registrations_from 0 shape.roles shape.subjects

-- what is stored of an object: its flags and its mark are those of its node
abbrev pub kept_as : Option Node → Bool → Option Value → Kept
kept_as node source last = record {
  current = (flags_of node).current;
  last = last;
  frozen = (flags_of node).frozen;
  forward = (flags_of node).forward;
  source = source;
}

abbrev pub kept_from : GraphView → ℕ → List (Option Value) → List Kept
kept_from graph o [] = []
kept_from graph o (last ∷ lasts) = kept_as (node_at graph o) (is_source graph o) last ∷ kept_from graph (o + 1) lasts

-- WHAT IS STORED: the flags stand in the graph alone, the last values beside it
abbrev pub kept_of : GraphView → List (Option Value) → List Kept
kept_of graph lasts = kept_from graph 0 lasts

abbrev pub shape_of : GraphView → Shape
shape_of graph = record { roles = map role_in graph.nodes; subjects = graph.subjects; spare = graph.spare }
