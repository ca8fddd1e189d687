use Rattle.std.proofs.Common.{◌∙◌, ap}
use Rattle.desk_model.specs.Market.{terms_at}
use Rattle.curve_run.specs.Quoted.{built_in}
use Rattle.curve_run.proofs.Quoting.{built_bare}
use Rattle.curve_run.proofs.quoted.built.Goals as goal

pub returns : goal.returns
returns c = c.built_of.ensures ∙ ap built_in (rw c.deref.ensures at c.terms.ensures) ∙ built_bare (terms_at c.args.desk.now.market c.args.object)
