use Rattle.session_commands.proofs.TableLaws.{word_found, parts_made}
use Rattle.session_commands.proofs.RowMakes.{row_makes}
use Rattle.session_commands.proofs.laws.table_law.Goals as goal

pub returns-clause-words : goal.returns-clause-words
returns-clause-words c = word_found

pub returns-clause-parts : goal.returns-clause-parts
returns-clause-parts c = parts_made

pub returns-clause-made : goal.returns-clause-made
returns-clause-made c = row_makes
