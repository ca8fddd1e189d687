use Rattle.fixed_amount.proofs.Exact.{exact_law}
use Rattle.fixed_amount.proofs.print.exact_decimal_law.Goals as goal

pub returns : goal.returns
returns c = exact_law
