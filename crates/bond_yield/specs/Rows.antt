-- Prices and yields that were worked out apart: of 100 that is repaid on 2024-04-11, and of 4 % for two years on
-- 1,000,000, with the periods 2024-01-04 to 2025-01-06 and from there to 2026-01-05.
use Rattle.std.specs.Prelude.{◌≡◌, ◌+◌, ◌^◌, ℕ, true, false, List, [], ◌∷◌, Some, None, pos, neg_ℤ}
use Rattle.flow_terms.specs.declared.flows.FlowTerm.{FlowTerm}
use Rattle.flow_terms.specs.declared.flows.FlowTerm.TheVariants.{Known, Float}
use Rattle.bond_yield.specs.declared.bonds.YieldFault.TheVariants.{NotFixed, NoFlow, Above, Below}
use Rattle.bond_yield.specs.Fixed.{is_fixed}
use Rattle.bond_yield.specs.Accrued.{accrued}
use Rattle.bond_yield.specs.Price.{full_price}
use Rattle.bond_yield.specs.Yield.{fault_of}

-- 100 on 2024-04-11
abbrev pub hundred : List FlowTerm
hundred = Known (pos 19_824) (pos 100_000_000) None ∷ []

-- a coupon paid on the last day of its period
abbrev pub coupon : ℕ → ℕ → ℕ → FlowTerm
coupon start end amount = Known (pos end) (pos amount) (Some (pos start, pos end))

-- two years of 4 % on 1,000,000, and the redemption
abbrev pub two_years : List FlowTerm
two_years = coupon 19_726 20_094 40_222_222_222 ∷ coupon 20_094 20_458 39_888_888_889 ∷ Known (pos 20_458) (pos (10 ^ 12)) None ∷ []

-- a flow on an index, one that is paid before the one in front of it, one that is received, and one beyond the limit
abbrev pub floating : List FlowTerm
floating = Float (pos 19_824) (pos (10 ^ 12)) (pos 0) (pos 1_558_550) (pos 19_774) ∷ []

abbrev pub turned : List FlowTerm
turned = Known (pos 19_825) (pos 1) None ∷ Known (pos 19_824) (pos 1) None ∷ []

abbrev pub owed : List FlowTerm
owed = Known (pos 19_824) (neg_ℤ (pos 1)) None ∷ []

abbrev pub beyond : List FlowTerm
beyond = Known (pos 19_824) (pos (10 ^ 22 + 1)) None ∷ []

-- the days are 2024-01-02 (19,724), 2024-01-03 (19,725), 2024-01-05 (19,727), 2024-04-11 (19,824), 2024-07-04 (19,908),
-- 2025-01-05 (20,093), 2025-01-06 (20,094), 2026-01-04 (20,457) and 2026-01-05 (20,458)
pub record AreWorked : Type 0 where
  pub whole : full_price hundred (pos 19_724) 0 ≡ pos 100_000_000
  pub met : full_price hundred (pos 19_724) 36_499_982 ≡ pos 99_009_901
  pub unit_less : full_price hundred (pos 19_724) 36_499_981 ≡ pos 99_009_902
  pub greatest : full_price hundred (pos 19_724) 10_000_000_000 ≡ pos 26_739_927
  pub coupons : full_price two_years (pos 19_726) 40_000_000 ≡ pos 999_896_178_411
  pub compounded : full_price two_years (pos 19_726) 10_000_000_000 ≡ pos 12_181_130_028
  pub second_met : full_price two_years (pos 20_094) 39_998_474 ≡ pos 999_999_999_759
  pub second_less : full_price two_years (pos 20_094) 39_998_473 ≡ pos 1_000_000_000_718
  pub day_before : full_price two_years (pos 20_093) 0 ≡ pos 1_080_111_111_111
  pub settled_on : full_price two_years (pos 20_094) 0 ≡ pos 1_039_888_888_889
  pub not_begun : accrued two_years (pos 19_725) ≡ pos 0
  pub first_day : accrued two_years (pos 19_726) ≡ pos 0
  pub next_day : accrued two_years (pos 19_727) ≡ pos 109_299_517
  pub middle : accrued two_years (pos 19_908) ≡ pos 19_892_512_077
  pub last_day : accrued two_years (pos 20_093) ≡ pos 40_112_922_705
  pub next_coupon : accrued two_years (pos 20_094) ≡ pos 0
  pub ended : accrued two_years (pos 20_458) ≡ pos 0
  pub kept_period : accrued (Known (pos 20_097) (pos 368) (Some (pos 19_726, pos 20_094)) ∷ []) (pos 20_095) ≡ pos 0
  pub fixed : is_fixed two_years ≡ true
  pub none_is_fixed : is_fixed [] ≡ true
  pub on_an_index : is_fixed floating ≡ false
  pub out_of_order : is_fixed turned ≡ false
  pub below_zero : is_fixed owed ≡ false
  pub too_large : is_fixed beyond ≡ false
  pub not_fixed : fault_of floating (pos 19_724) (pos 1) ≡ Some NotFixed
  pub no_flow : fault_of hundred (pos 19_824) (pos 99_000_000) ≡ Some NoFlow
  pub has_yield : fault_of hundred (pos 19_724) (pos 99_009_901) ≡ None
  pub at_zero : fault_of hundred (pos 19_724) (pos 100_000_000) ≡ None
  pub above : fault_of hundred (pos 19_724) (pos 101_000_000) ≡ Some (Above (pos 100_000_000))
  pub at_ten : fault_of hundred (pos 19_724) (pos 26_739_927) ≡ None
  pub below : fault_of hundred (pos 19_724) (pos 26_739_926) ≡ Some (Below (pos 26_739_927))
  pub with_interest : fault_of two_years (pos 19_908) (pos 2_000_000_000_000) ≡ Some (Above (pos 1_080_111_111_111))
