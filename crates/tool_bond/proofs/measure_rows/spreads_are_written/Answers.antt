use Rattle.std.proofs.Common.{refl}
use Rattle.std.specs.Fmt.{digits}
use Rattle.day_number.specs.Day.{date_in_year, date_after, date_of}
use Rattle.fixed_amount.specs.Decimal.{decimal_text}
use Rattle.walks.specs.Walk.{below_by}
use Rattle.desk_model.specs.Uses.{input_by, input_at}
use Rattle.desk_model.specs.Fresh.{answer_by, fresh}
use Rattle.desk_model.specs.State.{is_frozen, is_source, is_late, held_outcome, seen_outcome, now}
use Rattle.desk_model.specs.Effect.{made}
use Rattle.market_desk.specs.Making.{with_made}
use Rattle.curve_points.specs.Point.{beyond, discount_at}
use Rattle.bond_yield.specs.Price.{factor_after, factors_from, worth}
use Rattle.bond_spread.specs.Spread.{discounted}
use Rattle.tool_bond.proofs.measure_rows.spreads_are_written.Goals as goal

pub returns : goal.returns
unfolding digits date_in_year date_after date_of decimal_text below_by input_by input_at answer_by fresh is_frozen is_source is_late held_outcome seen_outcome now made with_made beyond discount_at factor_after factors_from worth discounted
returns c = record {
  above = refl;
  below = refl;
  before = refl;
  past = refl;
  valueless = refl;
  no_engine = refl;
}
