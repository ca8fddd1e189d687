use Rattle.session_lang.proofs.FaultScript.{first_fault_told, names_told}
use Rattle.session_lang.proofs.laws.first_fault_law.Goals as goal

pub returns-clause-told : goal.returns-clause-told
returns-clause-told c = first_fault_told

pub returns-clause-names : goal.returns-clause-names
returns-clause-names c = names_told
