use Rattle.desk_model.proofs.FixedCurves.{fixed_curves_stay, flows_are_told}
use Rattle.desk_model.proofs.laws.fixed_curves_take_no_notice_of_the_day.Goals as goal

pub returns-clause-curves : goal.returns-clause-curves
returns-clause-curves c = fixed_curves_stay

pub returns-clause-flows : goal.returns-clause-flows
returns-clause-flows c = flows_are_told
