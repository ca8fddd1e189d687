use Rattle.fixed_amount.proofs.Steps.{closest_rises, closest_by_one, closest_from, closest_to}
use Rattle.fixed_amount.proofs.units.closest_steps_law.Goals as goal

pub returns : goal.returns
returns c = record { rises = closest_rises; by_one = closest_by_one; from = closest_from; to = closest_to }
