use Rattle.std.proofs.Common.{subst, sym, ℕ, Option}
use Rattle.std.specs.Prelude.{IfSome}
use Rattle.observer_graph.specs.Telling.{IsFirstPair}
use Rattle.observer_graph.proofs.walk.aim.Goals as goal

pub returns-in-Some-clause-first : goal.returns-in-Some-clause-first
returns-in-Some-clause-first c = subst (λ (p : Option ℕ). IfSome p (λ o. IsFirstPair c.args.edges.now o c.first_observer.result)) (sym c.in-Some.is)
    (record { given = c.first_observer.ensures.given; of = c.first_observer.ensures.of })
