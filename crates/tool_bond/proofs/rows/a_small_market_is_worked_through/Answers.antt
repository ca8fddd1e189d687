use Rattle.std.proofs.Common.{refl}
use Rattle.std.specs.Fmt.{digits}
use Rattle.desk_names.specs.Names.{has_text, place_of}
use Rattle.fixed_amount.specs.Decimal.{decimal_text}
use Rattle.bond_yield.specs.Fixed.{rise_from}
use Rattle.bond_yield.specs.Accrued.{accrued}
use Rattle.bond_yield.specs.Price.{factor_after, factors_from, worth}
use Rattle.tool_bond.specs.Lines.{market_text}
use Rattle.tool_bond.proofs.rows.a_small_market_is_worked_through.Goals as goal

pub returns : goal.returns
unfolding digits has_text place_of decimal_text rise_from accrued factor_after factors_from worth market_text
returns c = record {
  above = refl;
  below = refl;
  interest = refl;
  not_fixed = refl;
  no_flow = refl;
  quote = refl;
  today = refl;
  unknown = refl;
}
