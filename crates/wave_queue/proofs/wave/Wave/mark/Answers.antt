use Rattle.std.proofs.Common.{◌<◌, ◌∙◌, ap, sym, arith, subst, Bool, false, length}
use Rattle.std.specs.Prelude.{not, slice_set}
use Rattle.std.proofs.lemmas.List.{set-get_or}
use Rattle.wave_queue.specs.Thread.{WaveView, marks_by}
use Rattle.wave_queue.proofs.Threads.{marks_long, marks_set, off_read, on_read, stands_marked}
use Rattle.wave_queue.proofs.wave.Wave.mark.Goals as goal

pub index-requires : goal.index-requires
index-requires c =
    let low : c.args.node < length (marks_by c.self.inside.stamp c.self.inside.stamps.items) =
    subst (λ (v : WaveView). c.args.node < length v.marks) (sym c.self.view_is) c.requires in
    let long = marks_long c.self.inside.stamp c.self.inside.stamps.items in
    let p = c.place.ensures in let v = c.self.inside.stamps.ok.0 in omega arith

pub returns-then-index-self-clause-was : goal.returns-then-index-self-clause-was
returns-then-index-self-clause-was c =
    let low : c.args.node < length (marks_by c.self.inside.stamp c.self.inside.stamps.items) =
    subst (λ (v : WaveView). c.args.node < length v.marks) (sym c.self.view_is) c.requires in
    let on = on_read c.self.inside.stamp c.self.inside.stamps.items c.place.result c.args.node
    c.index.result.now c.place.ensures c.index.ensures low c.if-index-self.true in
    rw (← c.self.view_is) (sym (ap (λ (b : Bool). not b) on))

pub returns-then-index-self-clause-marks : goal.returns-then-index-self-clause-marks
returns-then-index-self-clause-marks c =
    let low : c.args.node < length (marks_by c.self.inside.stamp c.self.inside.stamps.items) =
    subst (λ (v : WaveView). c.args.node < length v.marks) (sym c.self.view_is) c.requires in
    let on = on_read c.self.inside.stamp c.self.inside.stamps.items c.place.result c.args.node
    c.index.result.now c.place.ensures c.index.ensures low c.if-index-self.true in
    rw (← c.self.view_is)
    (sym (ap (λ (b : Bool). slice_set (marks_by c.self.inside.stamp c.self.inside.stamps.items) c.args.node b) (sym on)
    ∙ set-get_or (marks_by c.self.inside.stamp c.self.inside.stamps.items) c.args.node false))

pub index_mut-requires : goal.index_mut-requires
index_mut-requires c =
    let low : c.args.node < length (marks_by c.self.inside.stamp c.self.inside.stamps.items) =
    subst (λ (v : WaveView). c.args.node < length v.marks) (sym c.self.view_is) c.requires in
    let long = marks_long c.self.inside.stamp c.self.inside.stamps.items in
    let p = c.place-2.ensures in let v = c.self.inside.stamps.ok.0 in omega arith

pub invariant_of-self : goal.invariant_of-self
invariant_of-self c =
    let low : c.args.node < length (marks_by c.self.inside.stamp c.self.inside.stamps.items) =
    subst (λ (v : WaveView). c.args.node < length v.marks) (sym c.self.view_is) c.requires in
    rw c.place-2.ensures
    (stands_marked c.self.inside.stamp c.self.inside.stamps.items c.self.inside.nexts.items c.self.inside.done
    c.self.inside.last c.self.invariant c.args.node low)

pub returns-clause-was : goal.returns-clause-was
returns-clause-was c =
    let low : c.args.node < length (marks_by c.self.inside.stamp c.self.inside.stamps.items) =
    subst (λ (v : WaveView). c.args.node < length v.marks) (sym c.self.view_is) c.requires in
    let off = off_read c.self.inside.stamp c.self.inside.stamps.items c.place.result c.args.node
    c.index.result.now c.place.ensures c.index.ensures low c.if-index-self.false in
    rw (← c.self.view_is) (sym (ap (λ (b : Bool). not b) off))

pub returns-clause-marks : goal.returns-clause-marks
returns-clause-marks c = rw (← c.self.view_is, c.place-2.ensures)
    (marks_set c.self.inside.stamp c.self.inside.stamps.items c.args.node)
