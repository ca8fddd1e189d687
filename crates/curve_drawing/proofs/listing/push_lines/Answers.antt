use Rattle.std.proofs.Common.{refl}
use Rattle.curve_drawing.specs.Table.{line_rows, lines_rows}
use Rattle.curve_drawing.proofs.Appending.{parts_more, parts_end}
use Rattle.curve_drawing.proofs.listing.push_lines.Goals as goal

pub loop-line-preserved : goal.loop-line-preserved
unfolding lines_rows
loop-line-preserved c =
    parts_more (line_rows c.args.namer.now.names.now c.args.namer.now.of_object.now c.args.plot) (lines_rows c.args.namer.now.names.now c.args.namer.now.of_object.now c.args.plot) (λ x xs. refl) c.args.lines.now c.loop-line.line-index c.line-item.result _ _ _
    c.loop-line-test.true c.line-item.is c.in_ok-push_line.ensures c.loop-line.invariant

pub returns : goal.returns
unfolding lines_rows
returns c =
    parts_end (lines_rows c.args.namer.now.names.now c.args.namer.now.of_object.now c.args.plot) refl c.args.lines.now c.loop-line.line-index _ _ c.loop-line-test.false c.loop-line.invariant
