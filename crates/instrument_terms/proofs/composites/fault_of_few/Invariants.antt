use Rattle.std.proofs.Common.{◌≡◌, [], take, drop}
use Rattle.instrument_terms.specs.Parts.{first_fault}
use Rattle.instrument_terms.proofs.composites.fault_of_few.Given as goal

abbrev pub invariant-loop-at : goal.invariant-loop-at
invariant-loop-at l = first_fault [] l.parts ≡ first_fault (take l.at l.parts) (drop l.at l.parts)
