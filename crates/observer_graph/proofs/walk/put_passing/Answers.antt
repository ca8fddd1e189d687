use Rattle.std.proofs.Common.{inl, inr, true, ◌≡◌, ap, subst, ℕ, Option, Some}
use Rattle.std.specs.Prelude.{is_some}
use Rattle.observer_graph.specs.Puts.{carrying}
use Rattle.observer_graph.specs.Telling.{IsFirstPair}
use Rattle.observer_graph.proofs.Filling.{if_that, puts_as, puts_none}
use Rattle.observer_graph.proofs.walk.put_passing.Goals as goal

pub returns-in-Some-clause-puts : goal.returns-in-Some-clause-puts
returns-in-Some-clause-puts c = puts_as c.args.wave.now
    (carrying c.carry_or_put.result c.carry_or_put.new.wave) (λ o. o ≡ c.args.told)
    (λ o. (o ≡ c.args.told) × (c.args.goes_on ≡ true))
    (λ o is. (is, c.first_passed.ensures.some (ap is_some c.in-Some.is))) c.carry_or_put.ensures.puts

pub returns-in-Some-clause-done : goal.returns-in-Some-clause-done
returns-in-Some-clause-done c = λ goes. inl c.carry_or_put.ensures.done

pub returns-in-Some-clause-first : goal.returns-in-Some-clause-first
returns-in-Some-clause-first c = if_that c.carry_or_put.result c.args.told
    (λ o. IsFirstPair c.args.edges.now o (Some c.in-Some.edge)) c.carry_or_put.ensures.same
    (subst (λ (found : Option ℕ). IsFirstPair c.args.edges.now c.args.told found) c.in-Some.is
    (c.first_passed.ensures.first (ap is_some c.in-Some.is)))

pub returns-in-None-clause-puts : goal.returns-in-None-clause-puts
returns-in-None-clause-puts c = puts_none c.args.wave.now (λ o. (o ≡ c.args.told) × (c.args.goes_on ≡ true))

pub returns-in-None-clause-done : goal.returns-in-None-clause-done
returns-in-None-clause-done c = λ goes. inr (c.first_passed.ensures.none c.in-None.is goes)
