use Rattle.market_tables.proofs.FirstEntry.{tables_faulty, faulty_tables}
use Rattle.market_tables.proofs.laws.first_entry_law.Goals as goal

pub returns : goal.returns
returns g c = λ s tables n k. (tables_faulty _ s tables n k, faulty_tables _ s tables n k)
