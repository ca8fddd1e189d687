use Rattle.std.proofs.Common.{◌∙◌, ap, max}
use Rattle.observer_graph.specs.GraphView.{GraphView}
use Rattle.link_table.specs.Links.{free_count}
use Rattle.graph_vectors.proofs.Movable.{movable_first, none_fits}
use Rattle.graph_vectors.proofs.moves.start.Goals as goal

pub add-requires-4-clause-fit : goal.add-requires-4-clause-fit
add-requires-4-clause-fit c = none_fits c.args.links.now c.add-3.new.self c.requires.links

pub returns : goal.returns
returns c = movable_first c.args.graph.now c.add.new.self c.add-2.new.self c.add-3.new.self c.add-4.new.graph
    (max c.add-3.new.self.spare (free_count c.add-4.new.self)) c.args.links.now
    c.add-4.new.self c.in_ok-holder.holder c.requires.graph
    c.in_ok-add.ensures.ok c.in_ok-add-2.ensures.ok c.in_ok-holder.ensures.ok c.in_ok-add-3.ensures.graph
    c.in_ok-holder.ensures.number c.in_ok-add-3.ensures.ok c.add-4.ensures.fit
