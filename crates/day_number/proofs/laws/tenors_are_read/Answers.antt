use Rattle.day_number.proofs.TenorLemmas.{reads_tenors}
use Rattle.day_number.proofs.laws.tenors_are_read.Goals as goal

pub returns : goal.returns
returns c = reads_tenors
