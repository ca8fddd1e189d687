use Rattle.fixed_amount.proofs.Printed.{printed_read}
use Rattle.fixed_amount.proofs.print.round_trip_law.Goals as goal

pub returns : goal.returns
returns c = printed_read
