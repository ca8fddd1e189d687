-- Spreads that were worked out apart: of 100 that is repaid on 2024-04-11 and of 4 % for two years on 1,000,000, over curves from 2024-01-02.
use Rattle.std.specs.Prelude.{◌≡◌, ◌*◌, ◌^◌, ℤ, pos, List, [], ◌∷◌, None, Result, Ok, Err}
use Rattle.curve_points.specs.Curve.{Curve}
use Rattle.curve_points.specs.Point.{discount_at}
use Rattle.flow_terms.specs.declared.flows.FlowTerm.{FlowTerm}
use Rattle.flow_terms.specs.declared.flows.FlowTerm.TheVariants.{Known}
use Rattle.bond_yield.specs.Price.{full_price}
use Rattle.bond_yield.specs.Rows.{hundred, two_years, coupon}
use Rattle.bond_spread.specs.declared.spreads.SpreadFault.{SpreadFault}
use Rattle.bond_spread.specs.declared.spreads.SpreadFault.TheVariants.{Before, Past, TooLarge, Above, Below}
use Rattle.bond_spread.specs.Spread.{discounted_from, spread_of}

-- 0.990099009901 on 2024-04-11; 0.96 on 2025-01-05 and 0.9245 on 2026-01-05; 0.1 on 2024-02-21 and 0.2 on 2024-04-11
abbrev pub short : Curve
short = record { owner = 7; reference = pos 19_724; nodes = record { day = pos 19_824; factor = pos 990_099_009_901 } ∷ [] }

abbrev pub long : Curve
long = record {
  owner = 7;
  reference = pos 19_724;
  nodes = record { day = pos 20_093; factor = pos 960_000_000_000 } ∷ record { day = pos 20_458; factor = pos 924_500_000_000 } ∷ [];
}

abbrev pub rising : Curve
rising = record {
  owner = 7;
  reference = pos 19_724;
  nodes = record { day = pos 19_774; factor = pos 100_000_000_000 } ∷ record { day = pos 19_824; factor = pos 200_000_000_000 } ∷ [];
}

abbrev pub by : Curve → List FlowTerm → ℤ → Result (List FlowTerm) SpreadFault
by curve flows settle = discounted_from curve settle (discount_at curve settle) flows

abbrev pub one : ℤ → List FlowTerm
one amount = Known (pos 19_824) amount None ∷ []

abbrev pub two_by : List FlowTerm
two_by = Known (pos 20_094) (pos 38_617_793_730) None ∷ Known (pos 20_458) (pos 36_885_274_585) None ∷ Known (pos 20_458) (pos 924_700_477_068) None ∷ []

-- on the day of the first coupon
abbrev pub second_by : List FlowTerm
second_by = coupon 19_726 20_094 40_222_222_222 ∷ Known (pos 20_458) (pos 38_417_723_225) None ∷ Known (pos 20_458) (pos 963_118_409_542) None ∷ []

-- the days are 2024-01-01 (19,723), 2024-01-02 (19,724), 2024-01-04 (19,726), 2024-02-21 (19,774), 2024-04-11 (19,824), 2025-01-06 (20,094) and
-- 2026-01-05 (20,458); a spread above 0 is found by halving, and not by the definition, which would try each number
pub record AreWorked : Type 0 where
  pub hundred_by : by short hundred (pos 19_724) ≡ Ok (one (pos 99_009_901))
  pub met : full_price (one (pos 99_009_901)) (pos 19_724) 37_613_641 ≡ pos 98_000_000
  pub unit_less : full_price (one (pos 99_009_901)) (pos 19_724) 37_613_640 ≡ pos 98_000_001
  pub later_by : by short hundred (pos 19_774) ≡ Ok (one (pos 99_502_488))
  pub later_met : full_price (one (pos 99_502_488)) (pos 19_774) 37_052_109 ≡ pos 99_000_000
  pub later_less : full_price (one (pos 99_502_488)) (pos 19_774) 37_052_108 ≡ pos 99_000_001
  pub coupons_by : by long two_years (pos 19_726) ≡ Ok two_by
  pub coupons_met : full_price two_by (pos 19_726) 26_534_105 ≡ pos 949_999_998_745
  pub coupons_less : full_price two_by (pos 19_726) 26_534_104 ≡ pos 950_000_000_566
  pub settled_by : by long two_years (pos 20_094) ≡ Ok second_by
  pub settled_met : full_price second_by (pos 20_094) 54_397_596 ≡ pos 949_999_999_384
  pub settled_less : full_price second_by (pos 20_094) 54_397_595 ≡ pos 950_000_000_283
  pub at_the_curve : full_price (one (pos 99_009_901)) (pos 19_724) 0 ≡ pos 99_009_901
  pub above : spread_of short hundred (pos 19_724) (pos 99_009_902) ≡ Err (Above (pos 99_009_901))
  pub below : spread_of short hundred (pos 19_724) (pos 1_000_000) ≡ Err (Below (pos 26_475_175))
  pub before_the_curve : spread_of short hundred (pos 19_723) (pos 1) ≡ Err (Before (pos 19_723))
  pub past_the_curve : spread_of short two_years (pos 19_825) (pos 1) ≡ Err (Past (pos 19_825))
  pub paid_past : spread_of short two_years (pos 19_726) (pos 1) ≡ Err (Past (pos 20_094))
  pub too_large : spread_of rising (one (pos (10 ^ 22))) (pos 19_774) (pos 1) ≡ Err TooLarge
  pub large : by rising (one (pos (5 * 10 ^ 21))) (pos 19_774) ≡ Ok (one (pos (10 ^ 22)))
