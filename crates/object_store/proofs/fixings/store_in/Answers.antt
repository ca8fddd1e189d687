use Rattle.std.proofs.Common.{sym, ◌∙◌, ap}
use Rattle.desk_terms.specs.declared.terms.Terms.TheVariants.{Index}
use Rattle.desk_model.specs.Market.{terms_in}
use Rattle.object_store.proofs.Indexes.{same_terms}
use Rattle.object_store.proofs.fixings.store_in.Goals as goal

pub returns-clause-exists : goal.returns-clause-exists
returns-clause-exists c terms fixings is = c.store_held.ensures.exists terms fixings (same_terms c.in-Live.terms (Index terms fixings) (sym (ap terms_in c.in-Live.is) ∙ is))
