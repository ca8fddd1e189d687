use Rattle.graph_vectors.proofs.Movable.{movable_moved, none_else}
use Rattle.graph_vectors.proofs.moves.move_agrees.Goals as goal

pub relink-changed-requires-clause-new : goal.relink-changed-requires-clause-new
relink-changed-requires-clause-new c =
    none_else c.args.links.now c.args.graph.now c.args.holder c.in_ok-wanted.wanted.target c.requires

pub returns-then-changed-wanted : goal.returns-then-changed-wanted
returns-then-changed-wanted c =
    let now = c.relink-changed in
    let moved = movable_moved c.args.links.now now.new.self c.args.graph.now now.new.graph c.args.holder
    c.in_ok-wanted.wanted.target c.requires now.ensures.ok now.ensures.pairs now.ensures.fit in
    rw c.reaches_source-2.ensures (rw c.reaches_source.ensures moved)

pub returns-else-changed-wanted : goal.returns-else-changed-wanted
returns-else-changed-wanted c =
    let now = c.relink-changed in
    let moved = movable_moved c.args.links.now now.new.self c.args.graph.now now.new.graph c.args.holder
    c.in_ok-wanted.wanted.target c.requires now.ensures.ok now.ensures.pairs now.ensures.fit in
    rw c.reaches_source-2.ensures (rw c.reaches_source.ensures moved)
