use Rattle.session_lang.proofs.ReadScript.{script_read}
use Rattle.session_lang.proofs.ScriptBack.{script_back}
use Rattle.session_lang.proofs.laws.round_trip_law.Goals as goal

pub returns-clause-whole : goal.returns-clause-whole
returns-clause-whole c = script_read

pub returns-clause-back : goal.returns-clause-back
returns-clause-back c = script_back

pub returns-clause-again : goal.returns-clause-again
returns-clause-again c = λ names text s after sound read short. script_back after s (script_read names text s after sound read) short
