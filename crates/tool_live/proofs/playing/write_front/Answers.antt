use Rattle.tool_live.proofs.Fronts.{put_some}
use Rattle.tool_live.proofs.playing.write_front.Goals as goal

pub returns-in-Err : goal.returns-in-Err
returns-in-Err g c =
    let front = c.in-Err.ensures.front in
    put_some front.0 c.args.lines.now (g.K.Sink.bytes c.args.out.now) (g.K.Sink.bytes c.write_whole.new.sink) front.2
