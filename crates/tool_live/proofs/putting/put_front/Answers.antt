use Rattle.tool_live.proofs.Fronts.{put_some}
use Rattle.tool_live.proofs.putting.put_front.Goals as goal

pub returns-in-Err : goal.returns-in-Err
returns-in-Err g c =
    let front = c.in-Err.ensures.front in
    record { front = put_some front.0 c.args.answers.now (g.K.Sink.bytes c.args.out.now) (g.K.Sink.bytes c.write_whole.new.sink) front.2 }
