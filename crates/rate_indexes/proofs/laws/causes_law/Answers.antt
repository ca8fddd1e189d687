use Rattle.rate_indexes.proofs.FixingLemmas.{causes_are, causes_name}
use Rattle.rate_indexes.proofs.laws.causes_law.Goals as goal

pub returns-clause-kinds : goal.returns-clause-kinds
returns-clause-kinds c = causes_are

pub returns-clause-names : goal.returns-clause-names
returns-clause-names c = causes_name
