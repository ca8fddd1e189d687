use Rattle.std.proofs.Common.{arith, sym, ◌∙◌, ◌<◌, length}
use Rattle.curve_points.proofs.PointLemmas.{before_up_to}
use Rattle.curve_points.proofs.points.place_near.Goals as goal

pub place_behind-requires-clause-before : goal.place_behind-requires-clause-before
place_behind-requires-clause-before c = λ k d low high.
    let within : c.args.guess < length c.args.nodes.now = omega (arith, c.if-guess-nodes.false) in
    before_up_to c.args.reference c.args.nodes.now c.args.day c.args.guess k c.index-nodes-guess.result d c.requires within (sym c.is_before.ensures ∙ c.if-is_before.true) (omega (arith, high))
