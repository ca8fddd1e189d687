use Rattle.std.proofs.Common.{refl}
use Rattle.instrument_terms.specs.Parts.{first_fault}
use Rattle.instrument_terms.proofs.laws.limits_are_worked_through.Goals as goal

pub returns : goal.returns
unfolding first_fault
returns c = record {
  weight_of_0 = refl;
  weight_beyond = refl;
  twice = refl;
  weight_first = refl;
  first_part = refl;
  within = refl;
  no_part = refl;
  no_flow = refl;
}
