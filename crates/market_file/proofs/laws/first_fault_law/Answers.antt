use Rattle.market_file.proofs.FirstFault.{to_first_fault, of_first_fault}
use Rattle.market_file.proofs.laws.first_fault_law.Goals as goal

pub returns : goal.returns
returns c = λ text quotes fixings s n k. (to_first_fault text quotes fixings s n k, of_first_fault text quotes fixings s n k)
