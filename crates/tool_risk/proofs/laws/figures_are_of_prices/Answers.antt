use Rattle.tool_risk.proofs.Prices.{rung_delta, rung_gamma}
use Rattle.tool_risk.proofs.FigureSumming.{rungs_sum}
use Rattle.tool_risk.proofs.laws.figures_are_of_prices.Goals as goal

pub returns-clause-delta : goal.returns-clause-delta
returns-clause-delta c = rung_delta

pub returns-clause-gamma : goal.returns-clause-gamma
returns-clause-gamma c = rung_gamma

pub returns-clause-sum : goal.returns-clause-sum
returns-clause-sum c = rungs_sum
