use Rattle.std.proofs.Common.{List, map, ap, subst, ◌∙◌}
use Rattle.std.proofs.lemmas.Result.{IfErr-weaker, IfOk-weaker}
use Rattle.clap.specs.Words.{HasMatchesOf, Text, takes}
use Rattle.desk_words.proofs.RunWalk.{takes_run, finds_run}
use Rattle.desk_words.proofs.run_command.run_matches.Goals as goal

pub returns-clause-found : goal.returns-clause-found
returns-clause-found c =
    let words : List Text = map (λ word. word.now) c.args.words.now in
    let parse = c.try_get_matches_from in
    let is = c.in_ok-command.ensures in
    IfOk-weaker parse.result _ _
    (λ m h. finds_run m words c.requires (subst (λ app. HasMatchesOf app words m) is h)) parse.ensures.matches

pub returns-clause-fails : goal.returns-clause-fails
returns-clause-fails c =
    let words : List Text = map (λ word. word.now) c.args.words.now in
    let parse = c.try_get_matches_from in
    let is = c.in_ok-command.ensures in
    IfErr-weaker parse.result _ _
    (λ e h. h (ap (λ app. takes app words) is ∙ takes_run words c.requires)) parse.ensures.passes
