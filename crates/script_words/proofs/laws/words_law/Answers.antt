use Rattle.script_words.proofs.Words.{name_again, decimal_again, weight_again, day_again}
use Rattle.script_words.proofs.Sorts.{field_sorted}
use Rattle.script_words.proofs.laws.words_law.Goals as goal

pub returns-clause-name : goal.returns-clause-name
returns-clause-name c = name_again

pub returns-clause-decimal : goal.returns-clause-decimal
returns-clause-decimal c = decimal_again

pub returns-clause-day : goal.returns-clause-day
returns-clause-day c = day_again

pub returns-clause-weight : goal.returns-clause-weight
returns-clause-weight c = weight_again

pub returns-clause-sorted : goal.returns-clause-sorted
returns-clause-sorted c = field_sorted
