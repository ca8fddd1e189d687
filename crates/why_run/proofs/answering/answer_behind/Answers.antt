use Rattle.std.proofs.Common.{sym, subst}
use Rattle.std.proofs.lemmas.Result.{err_from_is_err_and}
use Rattle.desk_terms.specs.Reading.{Calc}
use Rattle.desk_model.specs.Sound.{IsSound}
use Rattle.tool_script.proofs.Calling.{begins_first, begins_second, makes_both}
use Rattle.why_run.proofs.Calling.{begins_front, makes_made}
use Rattle.why_run.proofs.answering.answer_behind.Goals as goal

pub why-requires : goal.why-requires
why-requires g c =
    record {
      sound = subst (λ (k : Calc). IsSound k c.play_all.new.session.standing.state) (sym c.play_all.ensures.same)
          c.play_all.ensures.sound;
    }

pub returns-in_err-play_all-clause-calls : goal.returns-in_err-play_all-clause-calls
returns-in_err-play_all-clause-calls g c =
    let from = c.from_residual in
    let p = err_from_is_err_and from.result from.ensures.1 in
    rw p.1 (begins_first _ _ _ _ _ _ c.in_err-play_all.ensures.calls)

pub returns-in_err-text-clause-calls : goal.returns-in_err-text-clause-calls
returns-in_err-text-clause-calls g c =
    let from = c.from_residual-in_err-text in
    let p = err_from_is_err_and from.result from.ensures.1 in
    let asks = rw (c.play_all.ensures.same, c.in_ok-play_all.ensures.after) at c.in_err-text.ensures.asks in
    rw p.1 (begins_second _ _ _ _ _ _ _ _ c.in_ok-play_all.ensures.calls (begins_front _ _ _ _ _ asks))

pub returns-clause-text : goal.returns-clause-text
returns-clause-text g c =
    rw (c.play_all.ensures.same, c.in_ok-play_all.ensures.after) at c.in_ok-text.ensures.text

pub returns-clause-calls : goal.returns-clause-calls
returns-clause-calls g c =
    let asks = rw (c.play_all.ensures.same, c.in_ok-play_all.ensures.after) at c.in_ok-text.ensures.asks in
    makes_both _ _ _ _ _ _ _ _ c.in_ok-play_all.ensures.calls (makes_made _ _ _ _ _ asks.1)
