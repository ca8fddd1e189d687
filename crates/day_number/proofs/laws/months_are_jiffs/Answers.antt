use Rattle.day_number.proofs.ShiftLemmas.{are_jiffs_months}
use Rattle.day_number.proofs.laws.months_are_jiffs.Goals as goal

pub returns : goal.returns
returns c = are_jiffs_months
