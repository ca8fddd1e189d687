use Rattle.std.proofs.Common.{rules, ◌∙◌, ap, ◌∷◌, ◌++◌}
use Rattle.session_lang.proofs.KnownLines.{set_first, joined, parted}
use Rattle.session_lang.proofs.known_line.set_said.Goals as goal

pub returns : goal.returns
returns c = set_first _ c.in_ok-number_of.ensures.names _ _ c.in_ok-number_of.ensures.at _ _ _ _ c.in_ok-number_of_word.ensures
    (parted _ _ _ _ 32 c.split_at.ensures.front c.split_at.ensures.back c.in-32.len_at_least (search rules)
    ∙ ap (λ t. c.split_at.result.0.now ++ 32 ∷ t) (joined _ _ _ _ c.split_at-2.ensures.front c.split_at-2.ensures.back))
