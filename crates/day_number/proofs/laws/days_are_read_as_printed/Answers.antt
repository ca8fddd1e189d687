use Rattle.day_number.proofs.TextLemmas.{reads_what_is_printed}
use Rattle.day_number.proofs.laws.days_are_read_as_printed.Goals as goal

pub returns : goal.returns
returns c = reads_what_is_printed
