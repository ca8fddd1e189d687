use Rattle.live_model.proofs.Lines.{commands_are_rounds, faults_change_nothing, long_lines}
use Rattle.live_model.proofs.laws.a_line_is_a_round_or_a_fault.Goals as goal

pub returns-clause-round : goal.returns-clause-round
returns-clause-round g c = commands_are_rounds

pub returns-clause-fault : goal.returns-clause-fault
returns-clause-fault g c = faults_change_nothing

pub returns-clause-long : goal.returns-clause-long
returns-clause-long g c = long_lines
