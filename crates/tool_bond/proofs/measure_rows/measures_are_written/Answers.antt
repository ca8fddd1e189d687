use Rattle.std.proofs.Common.{refl}
use Rattle.std.specs.Fmt.{digits}
use Rattle.fixed_amount.specs.Decimal.{decimal_text}
use Rattle.bond_yield.specs.Price.{factor_after, factors_from, worth}
use Rattle.tool_bond.specs.MeasureLines.{measures_text}
use Rattle.tool_bond.proofs.measure_rows.measures_are_written.Goals as goal

pub returns : goal.returns
unfolding digits decimal_text factor_after factors_from worth measures_text
returns c = record {
  one = refl;
  two = refl;
  low = refl;
  high = refl;
  worthless = refl;
}
