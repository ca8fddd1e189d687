use Rattle.std.proofs.Common.{◌∙◌, ap, List, Option, length, refl, sym, subst, arith}
use Rattle.std.specs.Prelude.{vec_len}
use Rattle.edge_lists.specs.EdgesView.{subject_lists}
use Rattle.observer_graph.specs.declared.node.Node.{Node}
use Rattle.observer_graph.specs.Notice.{Settles}
use Rattle.observer_graph.specs.Walks.{graph_of}
use Rattle.observer_graph.proofs.Frozen.{count_told}
use Rattle.observer_graph.proofs.Marks.{whole_back}
use Rattle.observer_graph.proofs.Numbers.{noticed_more}
use Rattle.observer_graph.proofs.Turns.{free_again}
use Rattle.observer_graph.proofs.Wholes.{stands_told}
use Rattle.observer_graph.proofs.graph.Graph.tell.Goals as goal

pub tell_all-requires-clause-nodes : goal.tell_all-requires-clause-nodes
tell_all-requires-clause-nodes c = ap length c.deref_mut.ensures.value ∙ sym c.self.invariant.0.given

pub tell_all-requires-clause-sources : goal.tell_all-requires-clause-sources
tell_all-requires-clause-sources c = c.self.invariant.0.whole.marks ∙ sym c.self.invariant.0.given

pub tell_all-requires-clause-noticed : goal.tell_all-requires-clause-noticed
tell_all-requires-clause-noticed c = rw c.deref_mut.ensures.value c.self.invariant.2

settles : (c : goal.After-clear) → Settles (graph_of c.self.inside.nodes.items (subject_lists c.self.inside.edges) c.self.inside.sources.marks)
    (graph_of c.tell_all.new.nodes (subject_lists c.self.inside.edges) c.clear.new.self.marks)
settles c = subst (λ (n : List (Option Node)). Settles (graph_of n (subject_lists c.self.inside.edges) c.self.inside.sources.marks)
    (graph_of c.tell_all.new.nodes (subject_lists c.self.inside.edges) c.clear.new.self.marks)) c.deref_mut.ensures.value (record {
      subjects = refl;
      len = c.tell_all.auto.nodes;
      node = c.tell_all.ensures.told;
      sources = c.clear.ensures.marks;
      marks = c.clear.ensures.len;
    })

pub invariant_of-self : goal.invariant_of-self
invariant_of-self c =
    rw (whole_back (vec_len c.self.inside.nodes) c.tell_all.new.nodes c.self.inside.nodes.items (c.tell_all.auto.nodes
    ∙ c.deref_mut.ensures.len)) (
      stands_told c.self.inside.nodes.items c.self.inside.edges c.self.inside.sources c.self.inside.wave c.self.invariant.0
          c.tell_all.new.nodes c.clear.new.self (settles c),
      c.self.invariant.1 ∙ sym (count_told c.self.inside.nodes.items c.tell_all.new.nodes c.self.inside.sources.marks
          c.clear.new.self.marks (subject_lists c.self.inside.edges) (settles c)),
      (let auto = c.tell_all.auto.nodes in
          noticed_more c.tell_all.new.noticed.items (length c.deref_mut.result.now) (length c.tell_all.new.nodes) (omega arith)
          c.tell_all.ensures.noticed),
      (let auto = c.tell_all.auto.nodes in let len = c.deref_mut.ensures.len in let ok = c.self.inside.nodes.ok.0 in
          let more = c.tell_all.ensures.capacity in let room = c.self.invariant.3 in omega arith),
      free_again (length c.self.inside.edges.nodes) c.self.inside.down c.tell_all.new.wave c.reset.new.self c.self.invariant.4
          c.tell_all.ensures.len c.reset.ensures.marks c.reset.ensures.len c.reset.ensures.waiting,
      c.self.invariant.5,
    )

pub returns : goal.returns
returns c =
    let s = settles c in
    rw (
      ← c.self.view_is,
      whole_back (vec_len c.self.inside.nodes)
          c.tell_all.new.nodes c.self.inside.nodes.items (c.tell_all.auto.nodes ∙ c.deref_mut.ensures.len),
    ) (record {
      settles = record { subjects = s.subjects; len = s.len; node = s.node; sources = s.sources; marks = s.marks };
      noticed = rw (← c.deref_mut.ensures.value) c.tell_all.ensures.watchers;
      rising = c.tell_all.ensures.noticed.0;
      spare = refl;
    })
