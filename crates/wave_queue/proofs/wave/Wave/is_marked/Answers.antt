use Rattle.std.proofs.Common.{◌<◌, arith, length, subst, sym}
use Rattle.wave_queue.specs.Thread.{WaveView, marks_by}
use Rattle.wave_queue.proofs.Threads.{marked_is, marks_long}
use Rattle.wave_queue.proofs.wave.Wave.is_marked.Goals as goal

pub index-requires : goal.index-requires
index-requires c =
    let low : c.args.node < length (marks_by c.self.inside.stamp c.self.inside.stamps.items) =
    subst (λ (v : WaveView). c.args.node < length v.marks) (sym c.self.view_is) c.requires in
    let long = marks_long c.self.inside.stamp c.self.inside.stamps.items in
    let p = c.place.ensures in let v = c.self.inside.stamps.ok.0 in omega arith

pub returns : goal.returns
returns c =
    let low : c.args.node < length (marks_by c.self.inside.stamp c.self.inside.stamps.items) =
    subst (λ (v : WaveView). c.args.node < length v.marks) (sym c.self.view_is) c.requires in
    rw (← c.self.view_is) (sym (marked_is c.self.inside.stamp c.self.inside.stamps.items c.place.result c.args.node
    c.index.result.now c.place.ensures c.index.ensures low))
