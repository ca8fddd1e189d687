use Rattle.std.proofs.Common.{◌≡◌, ◌∙◌, ℕ, Bool, [], None, ap, subst, sym, arith}
use Rattle.std.specs.Prelude.{slice_index_or, if◌then◌else◌}
use Rattle.walks.specs.Walk.{Among}
use Rattle.edge_lists.specs.EdgesView.{IsPair, subject_lists}
use Rattle.edge_lists.proofs.Linking.{live_within}
use Rattle.observer_graph.specs.GraphView.{edges_as}
use Rattle.observer_graph.specs.Lists.{list_at}
use Rattle.observer_graph.specs.Turns.{reads_in}
use Rattle.observer_graph.proofs.Filling.{puts_as, puts_none}
use Rattle.observer_graph.proofs.SubjectLists.{among_listed}
use Rattle.observer_graph.proofs.put.put_edges.Goals as goal

pub put_subjects-requires-clause-node : goal.put_subjects-requires-clause-node
put_subjects-requires-clause-node c = let n = c.requires.nodes in let w = c.requires.node in omega arith

pub put_subjects-requires-clause-within : goal.put_subjects-requires-clause-within
put_subjects-requires-clause-within c = λ x pair.
    let w = live_within c.args.edges.now.nodes x (c.requires.whole.ends x c.args.node pair).0 in
    let n = c.requires.nodes in let r = c.requires.room in omega arith

reads_of : (c : goal.After-put_subjects) → reads_in c.args.nodes.now c.args.edges.now c.args.node
    ≡ list_at (subject_lists c.args.edges.now) c.args.node
reads_of c =
    let subjects = list_at (subject_lists c.args.edges.now) c.args.node in
    ap (λ (n : ℕ). edges_as (slice_index_or c.args.nodes.now n None) subjects) (sym c.place.ensures)
    ∙ c.has_edges.ensures subjects ∙ ap (λ (b : Bool). if b then subjects else []) c.if-has_edges.true

pub returns-then-has_edges-clause-puts : goal.returns-then-has_edges-clause-puts
returns-then-has_edges-clause-puts c = puts_as c.args.wave.now c.put_subjects.new.wave (λ x. IsPair c.args.edges.now x c.args.node)
    (λ x. Among x (reads_in c.args.nodes.now c.args.edges.now c.args.node))
    (λ x pair. subst (Among x) (sym (reads_of c)) ((among_listed c.args.edges.now c.requires.whole x c.args.node).1 pair))
    c.put_subjects.ensures.puts

pub returns-then-has_edges-clause-all : goal.returns-then-has_edges-clause-all
returns-then-has_edges-clause-all c = λ x a. c.put_subjects.ensures.all x
    ((among_listed c.args.edges.now c.requires.whole x c.args.node).0 (subst (Among x) (reads_of c) a))

pub returns-else-has_edges-clause-puts : goal.returns-else-has_edges-clause-puts
returns-else-has_edges-clause-puts c = puts_none c.args.wave.now (λ x. Among x (reads_in c.args.nodes.now c.args.edges.now c.args.node))

pub returns-else-has_edges-clause-all : goal.returns-else-has_edges-clause-all
returns-else-has_edges-clause-all c = λ x a.
    let subjects = list_at (subject_lists c.args.edges.now) c.args.node in
    let is : reads_in c.args.nodes.now c.args.edges.now c.args.node ≡ [] =
    ap (λ (n : ℕ). edges_as (slice_index_or c.args.nodes.now n None) subjects) (sym c.place.ensures)
    ∙ c.has_edges.ensures subjects ∙ ap (λ (b : Bool). if b then subjects else []) c.if-has_edges.false in
    absurd (subst (Among x) is a)
