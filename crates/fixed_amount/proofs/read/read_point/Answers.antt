use Rattle.std.proofs.Common.{[], refl, append-nil}
use Rattle.fixed_amount.proofs.Parts.{point_none}
use Rattle.fixed_amount.proofs.read.read_point.Goals as goal

pub returns-in-empty : goal.returns-in-empty
returns-in-empty c = λ digits whole. point_none c.args.at c.args.negative digits c.args.text.now c.args.places c.units.result c.in-empty.len_below (c.units.ensures digits [] (rw (append-nil digits) whole) refl)
