use Rattle.std.proofs.Common.{◌≡◌, ◌≤◌, ◌*◌, ◌^◌, drop, length}
use Rattle.std.specs.Prelude.{map, unsigned_abs}
use Rattle.tool_risk.specs.declared.figures.Figure.TheVariants.{Is}
use Rattle.tool_risk.specs.FigureSums.{and_figure, sum_figures, delta_at}
use Rattle.tool_risk.proofs.figure_sums.sum_at.Given as goal

-- the deltas of the quotes before the one at hand are added
abbrev pub invariant-loop-quote : goal.invariant-loop-quote
invariant-loop-quote l = record {
  sum : and_figure (Is l.units) (sum_figures (map (delta_at l.rungs) (drop l.quote-index l.quotes)))
      ≡ sum_figures (map (delta_at l.rungs) l.quotes);
  small : unsigned_abs l.units ≤ l.quote-index * (2 * 10 ^ 26);
  within : l.quote-index ≤ length l.quotes;
}
