use Rattle.day_counters.proofs.ThirtyLemmas.{neither_is_negative}
use Rattle.day_counters.proofs.laws.neither_count_is_negative.Goals as goal

pub returns : goal.returns
returns c = neither_is_negative
