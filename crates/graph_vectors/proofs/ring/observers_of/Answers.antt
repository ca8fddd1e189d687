use Rattle.edge_lists.proofs.Linking.{live_within}
use Rattle.graph_vectors.proofs.ring.observers_of.Goals as goal

pub first_observer-at-requires : goal.first_observer-at-requires
first_observer-at-requires c = live_within c.args.edges.now.nodes c.args.node c.requires
