use Rattle.session_why.proofs.Naming.{are_named}
use Rattle.session_why.proofs.curves.curves_of.Goals as goal

pub given-requires : goal.given-requires
given-requires c =
    let n = are_named c.args.desk.now c.args.object c.naming_of-naming.result c.shape.ensures.whole c.shape.ensures.kinds
    c.shape.ensures.ranged c.requires.kind c.requires.can c.naming_of-naming.ensures in
    record { within = n.engine c.in-Some.engine c.in-Some.is }

pub given-requires-2 : goal.given-requires-2
given-requires-2 c =
    let n = are_named c.args.desk.now c.args.object c.naming_of-naming.result c.shape.ensures.whole c.shape.ensures.kinds
    c.shape.ensures.ranged c.requires.kind c.requires.can c.naming_of-naming.ensures in
    record { within = rw c.given.ensures.same (n.index c.in-Some-index.index c.in-Some-index.is) }
