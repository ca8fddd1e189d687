use Rattle.market_tables.proofs.FirstOfTable.{to_table, of_table}
use Rattle.market_tables.proofs.laws.first_of_table_law.Goals as goal

pub returns : goal.returns
returns g c = λ reader table k. (to_table _ _ _ _ table k, of_table _ _ _ _ table k)
