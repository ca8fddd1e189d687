use Rattle.std.proofs.Common.{◌∙◌, sym}
use Rattle.curve_bootstrap.proofs.BuiltLemmas.{built_by, built_nowhere, gives_same}
use Rattle.curve_bootstrap.proofs.NodesLaw.{built_is}
use Rattle.curve_bootstrap.proofs.building.build_by.Goals as goal

pub returns-in-Some-clause-curve : goal.returns-in-Some-clause-curve
returns-in-Some-clause-curve c =
    let reached = sym c.reference_day.ensures ∙ c.in-Some.is in
    gives_same _ _ _ (sym (built_by c.args.owner c.args.terms.now c.args.today c.args.rates.now c.in-Some.reference reached)) c.built_by.ensures

pub returns-in-None-clause-curve : goal.returns-in-None-clause-curve
returns-in-None-clause-curve c = built_nowhere c.args.owner c.args.terms.now c.args.today c.args.rates.now (sym c.reference_day.ensures ∙ c.in-None.is)

pub returns-in-Some-clause-nodes : goal.returns-in-Some-clause-nodes
returns-in-Some-clause-nodes c =
    built_is c.args.owner c.args.terms.now c.args.today c.args.rates.now c.built_by.result c.requires.rates (returns-in-Some-clause-curve c)
