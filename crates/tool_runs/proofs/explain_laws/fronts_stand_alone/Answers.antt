use Rattle.tool_runs.proofs.Fronts.{stand_alone}
use Rattle.tool_runs.proofs.Renumbered.{leave_numbers}
use Rattle.tool_runs.proofs.explain_laws.fronts_stand_alone.Goals as goal

pub returns-clause-alone : goal.returns-clause-alone
returns-clause-alone c = stand_alone

pub returns-clause-numbers : goal.returns-clause-numbers
returns-clause-numbers c = leave_numbers
