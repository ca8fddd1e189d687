use Rattle.std.proofs.lemmas.Map.Views.{All-values-insert_entry}
use Rattle.std.specs.Ordering.{int_cmp}
use Rattle.flow_terms.specs.Fixings.{IsRate}
use Rattle.flow_terms.proofs.fixings.Fixings.add.Goals as goal

-- the kept rates and the new one are within their limit
pub invariant_of-self-2 : goal.invariant_of-self-2
invariant_of-self-2 c =
    rw c.in_ok-insert.ensures.entries (All-values-insert_entry int_cmp c.args.day c.args.rate IsRate c.self.inside.rates.entries c.self.invariant c.requires)
