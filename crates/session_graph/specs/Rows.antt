-- A session drawn by hand: the stocks `s` and `t` on the quote `q`, and the watcher `w` of `s`.
use Rattle.std.specs.Prelude.{◌≡◌, ℕ, ℤ, Bool, true, false, List, [], ◌∷◌, ◌++◌, pos, codes, None, Some}
use Rattle.desk_terms.specs.declared.terms.Terms.TheVariants.{Quote, Stock}
use Rattle.desk_terms.specs.declared.kind.Kind.{Kind}
use Rattle.desk_terms.specs.declared.kind.Kind.TheVariants as kind
use Rattle.desk_terms.specs.declared.value.Value.TheVariants as value
use Rattle.desk_terms.specs.declared.asked.Mark.TheVariants.{Fresh, Frozen, Late}
use Rattle.desk_model.specs.State.{State}
use Rattle.desk_model.specs.Effect.{watching, registered_with, with_kept, frozen_set, deferred, quote_set}
use Rattle.session_model.specs.Standing.{Standing, start_with}
use Rattle.flow_terms.specs.declared.flows.FlowTerm.{FlowTerm}
use Rattle.flow_terms.specs.declared.flows.FlowTerm.TheVariants.{Known, Float, Forward}
use Rattle.graph_dot.specs.declared.node.FlowKind.TheVariants.{Bond, Swap, Agreement}
use Rattle.graph_dot.specs.declared.node.Finding.{Finding}
use Rattle.graph_dot.specs.declared.node.Finding.TheVariants.{Unasked, NotCurrent, Kept, Missing}
use Rattle.graph_dot.specs.declared.node.Shown.{Shown}
use Rattle.graph_dot.specs.declared.node.Shown.TheVariants as shown
use Rattle.graph_dot.specs.declared.node.GraphNode.{GraphNode}
use Rattle.session_graph.specs.Node.{flow_kind}
use Rattle.session_graph.specs.Edges.{edge}
use Rattle.session_graph.specs.Graph.{nodes_in, edges_in}

abbrev pub two_stocks : Standing
two_stocks = start_with (pos 0)
    (codes "today" ∷ codes "q" ∷ codes "s" ∷ codes "t" ∷ codes "w" ∷ [])
    ((1, Quote (Some (pos 1_000_000_000))) ∷ (2, Stock 1) ∷ (3, Stock 1) ∷ []) []

-- with a watcher, and what else was done to the objects
abbrev pub watched_after : (State → State) → Standing
watched_after change = record two_stocks {
  state = change (registered_with 4 2 (watching two_stocks.state));
  of_object = two_stocks.of_object ++ 4 ∷ [];
}

-- `s` has a current value
abbrev pub with_value : State → State
with_value state =
    with_kept 2 (record { current = true; last = Some (value.Money (pos 1_500_000)); frozen = false; forward = false; source = false })
    state

-- `s` is frozen, and `q` is moved while notices are held back
abbrev pub held_back : State → State
held_back state = quote_set 1 (Some (pos 2_000_000_000)) (deferred (frozen_set 2 (with_value state)))

abbrev pub node : ℕ → Kind → Shown → Finding → Bool → GraphNode
node object kind shown finding is_deferred =
    record { object = object; kind = kind; flows = None; shown = shown; finding = finding; is_deferred = is_deferred }

-- flows as a market makes them: a coupon of 3 and a redemption of 100; a fixed coupon that is paid against one on an index;
-- a settlement
abbrev pub bond_flows : List FlowTerm
bond_flows = Known (pos 10) (pos 3_000_000) (Some (pos 0, pos 10)) ∷ Known (pos 10) (pos 100_000_000) None ∷ []

abbrev pub swap_flows : ℤ → List FlowTerm
swap_flows parts = Known (pos 10) (pos 3_000_000) (Some (pos 0, pos 10)) ∷ Float (pos 10) (pos 100_000_000) (pos 0) parts (pos 0) ∷ []

abbrev pub agreed_flows : List FlowTerm
agreed_flows = Forward (pos 10) (pos 100_000_000) (pos 30_000_000) (pos 8) ∷ []

pub record IsDrawn : Type 0 where
  pub bond : flow_kind bond_flows ≡ Bond
  pub swap : (parts : ℤ) → flow_kind (swap_flows parts) ≡ Swap
  pub agreement : flow_kind agreed_flows ≡ Agreement
  pub settled : nodes_in (watched_after with_value) ≡
      node 0 kind.Today (shown.Date (pos 0)) Unasked false
      ∷ node 1 kind.Quote (shown.Rate (pos 1_000_000_000)) Unasked false
      ∷ node 2 kind.Stock (shown.Money (pos 1_500_000)) (Kept Fresh) false
      ∷ node 3 kind.Stock shown.Nothing NotCurrent false
      ∷ node 4 kind.Watcher shown.Nothing Unasked false ∷ []
  pub held : nodes_in (watched_after held_back) ≡
      node 0 kind.Today (shown.Date (pos 0)) Unasked false
      ∷ node 1 kind.Quote (shown.Rate (pos 2_000_000_000)) Unasked true
      ∷ node 2 kind.Stock (shown.Money (pos 1_500_000)) (Kept Frozen) false
      ∷ node 3 kind.Stock shown.Nothing (Missing Late) false
      ∷ node 4 kind.Watcher shown.Nothing Unasked false ∷ []
  pub edges : edges_in (watched_after held_back) ≡ edge false 2 1 ∷ edge false 3 1 ∷ edge true 4 2 ∷ []
