use Rattle.std.proofs.Common.{◌≡◌, false, sym, ◌∙◌, ap, is_some, rules}
use Rattle.std.specs.List.{list_any}
use Rattle.session_lang.specs.Reading.{action_of}
use Rattle.session_lang.proofs.Gathered.{all_linked}
use Rattle.session_lang.proofs.steps.all_linked.Goals as goal

pub returns-then-not-has_watch : goal.returns-then-not-has_watch
returns-then-not-has_watch c =
    let none : list_any (λ command. is_some (action_of command)) c.args.commands ≡ false =
    ap (list_any (λ command. is_some (action_of command))) (sym c.items.ensures) ∙ sym c.has_watch.ensures ∙ search rules in
    all_linked (record { names = c.args.names.now; begun = c.args.begun.now }) c.args.commands none
