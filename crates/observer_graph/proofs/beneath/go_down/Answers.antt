use Rattle.std.proofs.Common.{◌≡◌, ◌∙◌, sym, true}
use Rattle.std.proofs.lemmas.Bool.{false≢true}
use Rattle.walks.specs.Walk.{Among}
use Rattle.observer_graph.specs.Turns.{goes_beneath, reads_in}
use Rattle.observer_graph.proofs.Filling.{puts_as, puts_none}
use Rattle.observer_graph.proofs.beneath.go_down.Goals as goal

pub returns-then-goes_beneath-clause-puts : goal.returns-then-goes_beneath-clause-puts
returns-then-goes_beneath-clause-puts c = puts_as c.args.wave.now c.put_edges.new.wave
    (λ x. Among x (reads_in c.args.nodes.now c.args.edges.now c.args.node))
    (λ x. (goes_beneath c.args.nodes.now c.args.from c.args.node ≡ true)
    × Among x (reads_in c.args.nodes.now c.args.edges.now c.args.node))
    (λ x a. (sym c.goes_beneath.ensures ∙ c.if-goes_beneath.true, a)) c.put_edges.ensures.puts

pub returns-else-goes_beneath-clause-puts : goal.returns-else-goes_beneath-clause-puts
returns-else-goes_beneath-clause-puts c = puts_none c.args.wave.now (λ x. (goes_beneath c.args.nodes.now c.args.from c.args.node ≡ true)
    × Among x (reads_in c.args.nodes.now c.args.edges.now c.args.node))

pub returns-else-goes_beneath-clause-all : goal.returns-else-goes_beneath-clause-all
returns-else-goes_beneath-clause-all c = λ yes. absurd (false≢true (sym c.if-goes_beneath.false ∙ c.goes_beneath.ensures ∙ yes))
