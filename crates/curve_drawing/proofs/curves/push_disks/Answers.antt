use Rattle.std.proofs.Common.{refl}
use Rattle.curve_drawing.specs.Svg.{disk_text, disks_text}
use Rattle.curve_drawing.proofs.Appending.{parts_more, parts_end}
use Rattle.curve_drawing.proofs.curves.push_disks.Goals as goal

pub loop-point-preserved : goal.loop-point-preserved
unfolding disks_text
loop-point-preserved c =
    parts_more (disk_text c.args.scale.now) (disks_text c.args.scale.now) (λ x xs. refl) c.args.points.now c.loop-point.point-index c.point-item.result _ _ _
    c.loop-point-test.true c.point-item.is c.in_ok-push_disk.ensures c.loop-point.invariant

pub returns : goal.returns
unfolding disks_text
returns c =
    parts_end (disks_text c.args.scale.now) refl c.args.points.now c.loop-point.point-index _ _ c.loop-point-test.false c.loop-point.invariant
