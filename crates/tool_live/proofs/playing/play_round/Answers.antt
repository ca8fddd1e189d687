use Rattle.std.proofs.Common.{◌≡◌, ◌∙◌, ap, sym, subst, ℕ, List, ◌++◌}
use Rattle.session_model.specs.Course.{Meaning, round_of}
use Rattle.session_rounds.specs.Goes.{Output}
use Rattle.tool_live.specs.Answers.{PutsFront}
use Rattle.tool_live.proofs.Fronts.{put_some}
use Rattle.tool_live.proofs.Ended.{ok_of}
use Rattle.tool_live.proofs.playing.play_round.Goals as goal

pub returns-in-Err-clause-front : goal.returns-in-Err-clause-front
returns-in-Err-clause-front g c =
    let m : Meaning g.row.P.Denot = record { calc = g.B.Bench.calc c.args.bench.now; at = g.P.Picker.at; after = g.P.Picker.after } in
    let lines = (round_of m c.args.session.now c.args.command.now).lines in
    let front = c.in-Err.ensures.front in
    let old = g.K.Sink.bytes c.args.out.now in
    let new = g.K.Sink.bytes c.write_whole.new.sink in
    let does = ok_of c.step.result (sym c.is_err.ensures.value ∙ c.if-is_err.false) c.step.ensures.plays in
    let put : c.step.new.lines.items ≡ c.clear.new.self.items ++ lines = ap (λ (o : Output). o.lines) does.out in
    let is : c.deref-2.result.now ≡ lines =
    c.deref-2.ensures.value ∙ put ∙ ap (λ (l : List ℕ). l ++ lines) c.clear.ensures.items in
    subst (λ (l : List ℕ). PutsFront l old new) is (put_some front.0 c.deref-2.result.now old new front.2)
