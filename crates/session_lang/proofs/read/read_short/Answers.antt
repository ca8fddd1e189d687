use Rattle.std.proofs.Common.{rules}
use Rattle.session_lang.proofs.Gathered.{text_given}
use Rattle.session_lang.proofs.read.read_short.Goals as goal

pub returns-clause-gives : goal.returns-clause-gives
returns-clause-gives c =
    text_given _ c.finished.result c.args.names.now _ c.args.text.now _ c.new-begun.ensures (search rules) c.in_ok-read.ensures.gives c.finished.ensures.gives
