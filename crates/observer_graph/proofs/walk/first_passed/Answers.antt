use Rattle.std.proofs.Common.{ap, sym, ◌∙◌}
use Rattle.std.specs.Prelude.{is_some}
use Rattle.std.proofs.lemmas.Bool.{false≢true}
use Rattle.observer_graph.proofs.Spreading.{none_observes}
use Rattle.observer_graph.proofs.walk.first_passed.Goals as goal

pub returns-then-goes_on-clause-first : goal.returns-then-goes_on-clause-first
returns-then-goes_on-clause-first c = λ some. record { given = c.first_observer.ensures.given; of = c.first_observer.ensures.of }

pub returns-then-goes_on-clause-none : goal.returns-then-goes_on-clause-none
returns-then-goes_on-clause-none c = λ none goes. none_observes c.args.edges.now c.args.told c.first_observer.result
    c.first_observer.ensures.given (ap is_some none)

pub returns-else-goes_on-clause-none : goal.returns-else-goes_on-clause-none
returns-else-goes_on-clause-none c = λ none goes. absurd (false≢true (sym c.if-goes_on.false ∙ goes))
