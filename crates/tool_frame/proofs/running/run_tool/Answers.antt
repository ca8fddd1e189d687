use Rattle.std.specs.Prelude.{map}
use Rattle.std.specs.String.{string_bytes}
use Rattle.tool_frame.specs.Tool.{shelf_turn}
use Rattle.tool_frame.proofs.Runs.{run_lost, run_done, run_cut, run_halted}
use Rattle.tool_frame.proofs.running.run_tool.Goals as goal

pub returns-in-Err : goal.returns-in-Err
returns-in-Err g c =
    let t = g.T.Tool in
    let ends = g.T.Status.ToolStatus.ends in
    let h = g.H.Shelf in
    let shelf = shelf_turn h.contents h.faults h.misses h.calls c.args.shelf.now c.find.new.shelf in
    run_lost ends g.met.T.Status.ToolStatus.sound t.tool t.asked_in (map string_bytes c.args.words.now) shelf g.K.Sink.bytes g.K.Sink.faults c.args.out.now
    g.B.Bench.calc g.B.Bench.count g.B.Bench.log c.args.bench.now c.in-Err.status c.in-Err.ensures.found

pub returns-in-Ok-write_whole : goal.returns-in-Ok-write_whole
returns-in-Ok-write_whole g c =
    let t = g.T.Tool in
    let ends = g.T.Status.ToolStatus.ends in
    let h = g.H.Shelf in
    let shelf = shelf_turn h.contents h.faults h.misses h.calls c.args.shelf.now c.find.new.shelf in
    run_done ends g.met.T.Status.ToolStatus.sound t.tool t.asked_in (map string_bytes c.args.words.now) shelf g.K.Sink.bytes g.K.Sink.faults c.args.out.now
    g.B.Bench.calc g.B.Bench.count g.B.Bench.log c.args.bench.now c.in-Ok.wanted c.in-Ok.ensures.found c.text.new.bench c.done.result
    c.text.ensures.unneeded c.text.ensures.same c.write_whole.new.sink
    c.done.ensures
    (rw (c.deref.ensures.value, c.in-Ok-text.ensures.text) at c.in-Ok-write_whole.ensures.written)
    c.in-Ok-write_whole.ensures.quiet c.in-Ok-text.ensures.calls

pub returns-in-Ok-text : goal.returns-in-Ok-text
returns-in-Ok-text g c =
    let t = g.T.Tool in
    let ends = g.T.Status.ToolStatus.ends in
    let h = g.H.Shelf in
    let shelf = shelf_turn h.contents h.faults h.misses h.calls c.args.shelf.now c.find.new.shelf in
    run_cut ends g.met.T.Status.ToolStatus.sound t.tool t.asked_in (map string_bytes c.args.words.now) shelf g.K.Sink.bytes g.K.Sink.faults c.args.out.now
    g.B.Bench.calc g.B.Bench.count g.B.Bench.log c.args.bench.now c.in-Ok.wanted c.in-Ok.ensures.found c.text.new.bench c.cut.result
    c.text.ensures.unneeded c.text.ensures.same c.write_whole.new.sink
    c.cut.ensures
    (rw (c.deref.ensures.value, c.in-Ok-text.ensures.text) at c.in-Err-write_whole.ensures.front)
    c.in-Err-write_whole.ensures.failed c.in-Err-write_whole.ensures.once c.in-Ok-text.ensures.calls

pub returns : goal.returns
returns g c =
    let t = g.T.Tool in
    let ends = g.T.Status.ToolStatus.ends in
    let h = g.H.Shelf in
    let shelf = shelf_turn h.contents h.faults h.misses h.calls c.args.shelf.now c.find.new.shelf in
    run_halted ends g.met.T.Status.ToolStatus.sound t.tool t.asked_in (map string_bytes c.args.words.now) shelf g.K.Sink.bytes g.K.Sink.faults c.args.out.now
    g.B.Bench.calc g.B.Bench.count g.B.Bench.log c.args.bench.now c.in-Ok.wanted c.in-Ok.ensures.found c.text.new.bench c.halted.result
    c.text.ensures.unneeded c.text.ensures.same
    c.halted.ensures c.in-Err-text.ensures.calls
