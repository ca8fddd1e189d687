use Rattle.why_model.proofs.Listed.{whole, no_bound}
use Rattle.why_model.proofs.laws.listing_law.Goals as goal

pub returns-clause-whole : goal.returns-clause-whole
returns-clause-whole c = whole

pub returns-clause-bound : goal.returns-clause-bound
returns-clause-bound c = no_bound
