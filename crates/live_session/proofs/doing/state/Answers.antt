use Rattle.std.proofs.Common.{rules, ◌≡◌, sym, ap, ◌∙◌}
use Rattle.std.proofs.lemmas.Result.{on_ok_weaker}
use Rattle.session_rounds.proofs.Going.{halts_at_once}
use Rattle.live_model.specs.Live.{Live}
use Rattle.session_lang.proofs.AddedNames.{any_err}
use Rattle.live_session.proofs.Done.{ended_begun}
use Rattle.live_session.proofs.doing.state.Goals as goal

pub returns-in-Begin-clause-err : goal.returns-in-Begin-clause-err
returns-in-Begin-clause-err g c = any_err _ (halts_at_once _ _)

pub returns-in-End-clause-err : goal.returns-in-End-clause-err
returns-in-End-clause-err g c = any_err _ (halts_at_once _ _)

pub returns-in-End-clause-begun : goal.returns-in-End-clause-begun
returns-in-End-clause-begun g c =
    let same : c.args.known.now.begun ≡ c.args.blocks.now.begun = search rules in
    on_ok_weaker c.end.result (λ ends. ap (λ (x : Live g.row.P.Denot). x.begun) (ends 0) ∙ ended_begun c.args.blocks.now.block _ ∙ sym same)
    c.end.ensures.ok
