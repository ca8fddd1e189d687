use Rattle.edge_lists.proofs.Standing.{edge_is, edge_of}
use Rattle.edge_lists.proofs.pairing.take_pair.Goals as goal

pub returns-in-Some-clause-pairs : goal.returns-in-Some-clause-pairs
returns-in-Some-clause-pairs c = λ x o. (
  λ p. let was = (c.take_out.ensures.pairs x o).0 p in (
    was.0,
    λ same. was.1
        (edge_of c.args.slots.now.slots c.in-Some.edge c.args.subject c.args.observer x o c.in-Some.ensures same),
  ),
  λ p. (c.take_out.ensures.pairs x o).1 (
    p.0,
    λ e. p.1
        (edge_is c.args.slots.now.slots c.in-Some.edge c.args.subject c.args.observer x o c.in-Some.ensures e),
  ),
)
