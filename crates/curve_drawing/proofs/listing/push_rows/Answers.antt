use Rattle.std.proofs.Common.{refl}
use Rattle.curve_drawing.specs.Table.{row_text, rows_text}
use Rattle.curve_drawing.proofs.Appending.{parts_more, parts_end}
use Rattle.curve_drawing.proofs.listing.push_rows.Goals as goal

pub loop-point-preserved : goal.loop-point-preserved
unfolding rows_text
loop-point-preserved c =
    parts_more (row_text c.args.plot c.args.name.now) (rows_text c.args.plot c.args.name.now) (λ x xs. refl) c.args.points.now c.loop-point.point-index c.point-item.result _ _ _
    c.loop-point-test.true c.point-item.is c.in_ok-push_row.ensures c.loop-point.invariant

pub returns : goal.returns
unfolding rows_text
returns c =
    parts_end (rows_text c.args.plot c.args.name.now) refl c.args.points.now c.loop-point.point-index _ _ c.loop-point-test.false c.loop-point.invariant
