use Rattle.desk_model.proofs.Unheld.{others_hold_nothing, unheld_afresh}
use Rattle.desk_model.proofs.laws.what_is_not_held_is_fresh.Goals as goal

pub returns-clause-fresh : goal.returns-clause-fresh
returns-clause-fresh c = λ calc s none o. unheld_afresh s none calc o

pub returns-clause-others : goal.returns-clause-others
returns-clause-others c = others_hold_nothing
