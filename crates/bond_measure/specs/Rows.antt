-- Measures that were worked out apart: of 100 that is repaid on 2024-04-11, and of 4 % for two years on 1,000,000.
use Rattle.std.specs.Prelude.{◌≡◌, pos, neg_ℤ, Ok, Err}
use Rattle.bond_yield.specs.Rows.{hundred, two_years}
use Rattle.bond_measure.specs.declared.measures.MeasureFault.TheVariants.{Low, High, Worthless}
use Rattle.bond_measure.specs.Measures.{bpv, duration, convexity}

pub record AreWorked : Type 0 where
  pub gain : bpv hundred (pos 19_724) 36_499_982 ≡ Ok (neg_ℤ (pos 2_685))
  pub years : duration hundred (pos 19_724) 36_499_982 ≡ Ok (pos 271_235_500)
  pub bend : convexity hundred (pos 19_724) 36_499_982 ≡ Ok (pos 1)
  pub gain_of_two : bpv two_years (pos 19_726) 40_000_000 ≡ Ok (neg_ℤ (pos 189_059_050))
  pub years_of_two : duration two_years (pos 19_726) 40_000_000 ≡ Ok (pos 1_891_058_493)
  pub bend_of_two : convexity two_years (pos 19_726) 40_000_000 ≡ Ok (pos 5)
  pub greatest : bpv hundred (pos 19_724) 9_999_900_001 ≡ Err High
  pub below : duration hundred (pos 19_724) 99_999 ≡ Err Low
  pub beyond : convexity hundred (pos 19_724) 9_999_900_001 ≡ Err High
  pub nothing : duration hundred (pos 19_824) 36_499_982 ≡ Err Worthless
