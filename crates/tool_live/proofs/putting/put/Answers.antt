use Rattle.std.proofs.Common.{◌∙◌, ap, List, ℕ, take}
use Rattle.desk_edge.specs.Sink.{appended}
use Rattle.tool_live.proofs.Fronts.{put_some}
use Rattle.tool_live.proofs.putting.put.Goals as goal

pub returns-in-Err-clause-err : goal.returns-in-Err-clause-err
returns-in-Err-clause-err g c =
    let front = c.in-Err.ensures.front in
    put_some front.0 c.args.answers.now.items (g.K.Sink.bytes c.args.out.now) (g.K.Sink.bytes c.write_whole.new.sink)
    (front.2 ∙ ap (λ (l : List ℕ). appended (take front.0 l) (g.K.Sink.bytes c.args.out.now)) c.deref.ensures.value)
