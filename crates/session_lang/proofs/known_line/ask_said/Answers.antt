use Rattle.session_lang.proofs.KnownLines.{ask_first, joined}
use Rattle.session_lang.proofs.known_line.ask_said.Goals as goal

pub returns : goal.returns
returns c = ask_first _ c.in_ok-number_of.ensures.names _ _ c.in_ok-number_of.ensures.at _ _
    (joined _ _ _ _ c.split_at.ensures.front c.split_at.ensures.back)
