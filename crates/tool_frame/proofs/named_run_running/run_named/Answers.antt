use Rattle.std.proofs.Common.{◌∙◌, refl, sym, ap, subst}
use Rattle.std.specs.Prelude.{map}
use Rattle.std.specs.String.{string_bytes}
use Rattle.tool_frame.specs.Tool.{shelf_turn, verdict_of}
use Rattle.tool_frame.specs.Stage.{Stage, IsOutside}
use Rattle.tool_frame.proofs.Runs.{run_lost, run_done, run_cut, run_halted}
use Rattle.tool_frame.specs.declared.named_run_status.NamedStatus.TheVariants.{Of}
use Rattle.tool_frame.specs.Named_runRun.{status_in}
use Rattle.tool_frame.proofs.Ends.{written_is_done, written_is_told, outside_is_told, unread_is_told}
use Rattle.tool_frame.proofs.named_run_running.run_named.Goals as goal

pub returns-in-Err : goal.returns-in-Err
returns-in-Err g c =
    let t = g.T.NamedTool in
    let ends = g.T.Status.ToolStatus.ends in
    let h = g.H.Shelf in
    let shelf = shelf_turn h.contents h.faults h.misses h.calls c.args.shelf.now c.find.new.shelf in
    let words = map string_bytes c.args.words.now in
    record {
      run = run_lost ends g.met.T.Status.ToolStatus.sound t.tool t.asked_in words shelf g.K.Sink.bytes g.K.Sink.faults c.args.out.now
          g.B.Bench.calc g.B.Bench.count g.B.Bench.log c.args.bench.now c.in-Err.status c.in-Err.ensures.found;
      named = unread_is_told ends.stage_of t.asked_in ends.done (t.refuses (g.B.Bench.calc c.args.bench.now)) shelf.old.files
          (λ files. verdict_of ends t.tool.asks files words) c.in-Err.status c.in-Err.ensures.found.tells;
    }

pub returns-in-Ok-write_whole : goal.returns-in-Ok-write_whole
returns-in-Ok-write_whole g c =
    let t = g.T.NamedTool in
    let ends = g.T.Status.ToolStatus.ends in
    let h = g.H.Shelf in
    let shelf = shelf_turn h.contents h.faults h.misses h.calls c.args.shelf.now c.find.new.shelf in
    let words = map string_bytes c.args.words.now in
    let refuses = t.refuses (g.B.Bench.calc c.args.bench.now) in
    record {
      run = run_done ends g.met.T.Status.ToolStatus.sound t.tool t.asked_in words shelf g.K.Sink.bytes g.K.Sink.faults c.args.out.now
          g.B.Bench.calc g.B.Bench.count g.B.Bench.log c.args.bench.now c.in-Ok.wanted c.in-Ok.ensures.found c.text.new.bench (status_in ends.done c.named_end.result)
          c.text.ensures.unneeded c.text.ensures.same c.write_whole.new.sink
          (written_is_done ends.stage_of t.asked_in ends.done refuses c.named_end.result c.in-Ok-text.text.refuses c.named_end.ensures)
          (rw (c.deref.ensures.value, c.in-Ok-text.ensures.text) at c.in-Ok-write_whole.ensures.written)
          c.in-Ok-write_whole.ensures.quiet c.in-Ok-text.ensures.calls;
      named = written_is_told ends.stage_of t.asked_in ends.done refuses shelf.old.files
          (λ files. verdict_of ends t.tool.asks files words) c.in-Ok.wanted c.named_end.result c.in-Ok-text.text.refuses c.named_end.ensures
          c.in-Ok-text.ensures.refuses c.in-Ok.ensures.found.tells;
    }

pub returns-in-Ok-text : goal.returns-in-Ok-text
returns-in-Ok-text g c =
    let t = g.T.NamedTool in
    let ends = g.T.Status.ToolStatus.ends in
    let h = g.H.Shelf in
    let shelf = shelf_turn h.contents h.faults h.misses h.calls c.args.shelf.now c.find.new.shelf in
    let words = map string_bytes c.args.words.now in
    record {
      run = run_cut ends g.met.T.Status.ToolStatus.sound t.tool t.asked_in words shelf g.K.Sink.bytes g.K.Sink.faults c.args.out.now
          g.B.Bench.calc g.B.Bench.count g.B.Bench.log c.args.bench.now c.in-Ok.wanted c.in-Ok.ensures.found c.text.new.bench c.cut.result
          c.text.ensures.unneeded c.text.ensures.same c.write_whole.new.sink
          c.cut.ensures
          (rw (c.deref.ensures.value, c.in-Ok-text.ensures.text) at c.in-Err-write_whole.ensures.front)
          c.in-Err-write_whole.ensures.failed c.in-Err-write_whole.ensures.once c.in-Ok-text.ensures.calls;
      named = outside_is_told ends.stage_of t.asked_in ends.done (t.refuses (g.B.Bench.calc c.args.bench.now)) shelf.old.files
          (λ files. verdict_of ends t.tool.asks files words) (Of c.cut.result)
          (subst (λ (n : Stage). IsOutside n) (sym (ap ends.stage_of c.cut.ensures ∙ g.met.T.Status.ToolStatus.sound.cut)) tt);
    }

pub returns : goal.returns
returns g c =
    let t = g.T.NamedTool in
    let ends = g.T.Status.ToolStatus.ends in
    let h = g.H.Shelf in
    let shelf = shelf_turn h.contents h.faults h.misses h.calls c.args.shelf.now c.find.new.shelf in
    let words = map string_bytes c.args.words.now in
    record {
      run = run_halted ends g.met.T.Status.ToolStatus.sound t.tool t.asked_in words shelf g.K.Sink.bytes g.K.Sink.faults c.args.out.now
          g.B.Bench.calc g.B.Bench.count g.B.Bench.log c.args.bench.now c.in-Ok.wanted c.in-Ok.ensures.found c.text.new.bench c.halted.result
          c.text.ensures.unneeded c.text.ensures.same
          c.halted.ensures c.in-Err-text.ensures.calls;
      named = outside_is_told ends.stage_of t.asked_in ends.done (t.refuses (g.B.Bench.calc c.args.bench.now)) shelf.old.files
          (λ files. verdict_of ends t.tool.asks files words) (Of c.halted.result)
          (subst (λ (n : Stage). IsOutside n) (sym (ap ends.stage_of c.halted.ensures ∙ g.met.T.Status.ToolStatus.sound.halted)) tt);
    }
