use Rattle.desk_bench.specs.Pricing.{desk_calc}
use Rattle.tool_bond.proofs.spreads.push_over.Goals as goal

pub curve_given-requires-clause-sound : goal.curve_given-requires-clause-sound
curve_given-requires-clause-sound c = c.in_ok-named.ensures.sound desk_calc
