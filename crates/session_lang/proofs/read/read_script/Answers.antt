use Rattle.session_lang.proofs.ReadScript.{whole_answer}
use Rattle.session_lang.proofs.FaultScript.{fault_answer, names_answer}
use Rattle.session_lang.proofs.LeftNames.{kept_answer}
use Rattle.session_lang.proofs.read.read_script.Goals as goal

pub returns-clause-whole : goal.returns-clause-whole
returns-clause-whole c = λ sound. whole_answer c.args.names.now c.read_short.new.names c.args.text.now c.read_short.result sound c.read_short.ensures.gives

pub returns-clause-fault : goal.returns-clause-fault
returns-clause-fault c = λ sound. fault_answer c.args.names.now c.read_short.new.names c.args.text.now c.read_short.result sound c.read_short.ensures.gives

pub returns-clause-names : goal.returns-clause-names
returns-clause-names c = λ sound. names_answer c.args.names.now c.read_short.new.names c.args.text.now c.read_short.result sound c.read_short.ensures.gives

pub returns-clause-kept : goal.returns-clause-kept
returns-clause-kept c = λ sound. kept_answer c.args.names.now c.read_short.new.names c.args.text.now c.read_short.result sound c.read_short.ensures.left
