use Rattle.std.proofs.Common.{◌≡◌, ◌∙◌, sym, subst, ℤ, Option, Some, None, false}
use Rattle.curve_bootstrap.specs.Built.{reference_day, takes_from}
use Rattle.curve_bootstrap.proofs.BuiltLemmas.{built_by, built_nowhere, gives_same}
use Rattle.curve_bootstrap.proofs.NodesLaw.{built_is}
use Rattle.curve_bootstrap.proofs.building.build.Goals as goal
use Rattle.curve_bootstrap.proofs.building.build.Goals.{In-Some, In-None}

reached : (c : In-Some) → reference_day c.args.terms.now c.args.today ≡ Some c.in-Some.reference
reached c = sym c.reference_day.ensures ∙ c.in-Some.is

nowhere : (c : In-None) → reference_day c.args.terms.now c.args.today ≡ None
nowhere c = sym c.reference_day.ensures ∙ c.in-None.is

pub returns-in-Some-clause-curve : goal.returns-in-Some-clause-curve
returns-in-Some-clause-curve c =
    gives_same _ _ _ (sym (built_by c.args.owner c.args.terms.now c.args.today c.args.rates.now c.in-Some.reference (reached c.before.before))) c.built.ensures.given

pub returns-in-None-clause-curve : goal.returns-in-None-clause-curve
returns-in-None-clause-curve c = built_nowhere c.args.owner c.args.terms.now c.args.today c.args.rates.now (nowhere c)

pub returns-in-Some-clause-nodes : goal.returns-in-Some-clause-nodes
returns-in-Some-clause-nodes c =
    built_is c.args.owner c.args.terms.now c.args.today c.args.rates.now c.built.result c.requires.rates (returns-in-Some-clause-curve c)

pub returns-in-Some-clause-day : goal.returns-in-Some-clause-day
returns-in-Some-clause-day c = rw (reached c.before.before) c.built.ensures.day

pub returns-in-None-clause-day : goal.returns-in-None-clause-day
returns-in-None-clause-day c = rw (nowhere c) tt

pub returns-in-Some-clause-memory : goal.returns-in-Some-clause-memory
returns-in-Some-clause-memory c = λ none.
    let here = subst (λ (o : Option ℤ). takes_from c.args.terms.now c.args.rates.now o ≡ false) (reached c.before.before) none in
    c.built.ensures.memory here ∙ sym (built_by c.args.owner c.args.terms.now c.args.today c.args.rates.now c.in-Some.reference (reached c.before.before))

pub returns-in-None-clause-memory : goal.returns-in-None-clause-memory
returns-in-None-clause-memory c = λ none. sym (built_nowhere c.args.owner c.args.terms.now c.args.today c.args.rates.now (nowhere c))
