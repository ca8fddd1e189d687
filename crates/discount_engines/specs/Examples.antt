-- Prices worked through by hand: stocks and composites; a bond, a forward rate agreement and a swap on an index of 50 days
-- without holidays, over a curve from 2024-01-02 with the one node 0.990099009901 on 2024-04-11; a bond on TARGET.
use Rattle.std.specs.Prelude.{◌≡◌, ◌*◌, ◌^◌, ℕ, ℤ, List, [], ◌∷◌, ◌++◌, replicate, pos, neg_ℤ, Option, Some, None, Ok, Err}
use Rattle.curve_points.specs.Curve.{Curve as CurveView}
use Rattle.desk_terms.specs.declared.terms.Part.{Part}
use Rattle.desk_terms.specs.declared.terms.Terms.{Terms}
use Rattle.desk_terms.specs.declared.terms.Terms.TheVariants.{Stock, Composite, Flows}
use Rattle.desk_terms.specs.declared.value.Value.TheVariants.{Money}
use Rattle.desk_terms.specs.declared.value.Input as input
use Rattle.desk_terms.specs.declared.cause.Cause.TheVariants.{NoFixing, Past, TooLarge}
use Rattle.desk_terms.specs.Reading.{IndexReading, Outcome}
use Rattle.flow_terms.specs.declared.flows.FlowTerm.{FlowTerm}
use Rattle.flow_terms.specs.declared.flows.FlowTerm.TheVariants.{Known, Float, Forward}
use Rattle.flow_terms.specs.Fixings.{Stored}
use Rattle.rate_indexes.specs.Examples.{fifty_days, one_node}
use Rattle.cash_flow_legs.specs.Examples.{million, accruing, swap_flows}
use Rattle.discount_engines.specs.Price.{instrument_price}

-- the price of the object 7 of these terms and inputs
abbrev pub price_at : Terms → Option ℤ → Option IndexReading → List input.Input → Outcome
price_at terms today index inputs =
    instrument_price (record { object = 7; terms = terms; inputs = inputs; today = today; index = index })

abbrev pub stock_at : ℤ → Outcome
stock_at rate = price_at (Stock 1) None None (input.TheVariants.Rate rate ∷ [])

abbrev pub part_of : ℤ → ℕ → Part
part_of weight member = record { weight = weight; member = member }

-- twice one member less another
abbrev pub spread_at : ℤ → ℤ → Outcome
spread_at long short =
    price_at (Composite (part_of (pos 2) 3 ∷ part_of (neg_ℤ (pos 1)) 4 ∷ [])) None None
    (input.TheVariants.Money long ∷ input.TheVariants.Money short ∷ [])

-- flows on no index
abbrev pub known_at : List FlowTerm → ℤ → List input.Input → Outcome
known_at flows today inputs = price_at (Flows (record { flows = flows; index = None }) (Some 3)) (Some today) None inputs

-- flows on the index of 50 days, with these rates stored
abbrev pub indexed_at : List FlowTerm → ℤ → Stored → List input.Input → Outcome
indexed_at flows today fixings inputs =
    price_at (Flows (record { flows = flows; index = Some 2 }) (Some 3)) (Some today)
    (Some (record { object = 2; terms = fifty_days; fixings = fixings })) inputs

abbrev pub over : CurveView → List input.Input
over curve = input.TheVariants.Curve curve ∷ []

-- discounted by a curve and forecast from it
abbrev pub over_both : CurveView → List input.Input
over_both curve = input.TheVariants.Curve curve ∷ input.TheVariants.Curve curve ∷ []

-- a curve of the object 1 with one node
abbrev pub one_node_at : ℤ → ℤ → ℤ → CurveView
one_node_at reference day factor =
    record { owner = 1; reference = reference; nodes = record { day = day; factor = factor } ∷ [] }

-- the bond's notional of 100 is paid on 2024-04-11
abbrev pub hundred : List FlowTerm
hundred = Known (pos 19_824) (pos 100_000_000) None ∷ []

abbrev pub agreement : List FlowTerm
agreement = Forward (pos 19_774) million (pos 30_000_000) (pos 19_774) ∷ []

-- two years of 4 % on 1,000,000, and the redemption
abbrev pub par_bond : List FlowTerm
par_bond =
    Known (pos 20_094) (pos 40_222_222_222) (accruing 19_726 20_094)
    ∷ Known (pos 20_458) (pos 39_888_888_889) (accruing 20_094 20_458) ∷ Known (pos 20_458) million None ∷ []

-- the curve at which that bond is worth its notional
abbrev pub par_curve : CurveView
par_curve = record {
  owner = 1;
  reference = pos 19_726;
  nodes = record { day = pos 19_908; factor = pos 980_178_610_325 } ∷ record { day = pos 20_094; factor = pos 960_404_650_493 }
      ∷ record { day = pos 20_458; factor = pos 924_493_377_126 } ∷ [];
}

-- one unit on 2024-04-11
abbrev pub unit : FlowTerm
unit = Known (pos 19_824) (pos 1) None

-- the greatest amount, on 2024-04-11
abbrev pub greatest : FlowTerm
greatest = Known (pos 19_824) (pos (10 ^ 22)) None

-- one unit on the day after 2024-04-11, and interest at a rate of 2024-01-01
abbrev pub late : FlowTerm
late = Known (pos 19_825) (pos 1) None

abbrev pub unfixed : ℤ → FlowTerm
unfixed paid = Float paid million (pos 0) (pos 1_558_550) (pos 19_723)

-- interest at the index's rate of 2024-02-21 and a spread
abbrev pub spread_flow : ℤ → List FlowTerm
spread_flow spread = Float (pos 19_824) million spread (pos 1_558_550) (pos 19_774) ∷ []

-- a bond of 4 % to 2024-04-30 whose first period ends on a Sunday, 2024-03-31, behind which Easter Monday follows
abbrev pub month_end_bond : List FlowTerm
month_end_bond =
    Known (pos 19_815) (pos 3_444_444_444) (accruing 19_782 19_813)
    ∷ Known (pos 19_843) (pos 3_333_333_333) (accruing 19_813 19_843) ∷ Known (pos 19_843) million None ∷ []

-- the days are 2024-01-02 (19,724), 2024-02-21 (19,774), 2024-02-29 (19,782), 2024-03-01 (19,783), 2024-04-02 (19,815),
-- 2024-04-11 (19,824), 2024-04-30 (19,843), 2024-06-09 (19,883) and 2024-06-26 (19,900)
pub record AreWorked : Type 0 where
  pub whole : stock_at (pos 1500000000) ≡ Ok (Money (pos 1500000))
  pub half_away_from_zero : stock_at (neg_ℤ (pos 500)) ≡ Ok (Money (neg_ℤ (pos 1)))
  pub less_than_half : stock_at (pos 499) ≡ Ok (Money (pos 0))
  pub spread : spread_at (pos 1500000) (pos 500000) ≡ Ok (Money (pos 2500000))
  pub greatest_spread : spread_at (pos (5 * 10 ^ 23)) (pos 0) ≡ Ok (Money (pos (10 ^ 24)))
  pub spread_beyond : spread_at (pos (5 * 10 ^ 23)) (neg_ℤ (pos 1)) ≡ Err (TooLarge 7)
  pub empty : price_at (Composite []) None None [] ≡ Ok (Money (pos 0))
  pub bond : known_at hundred (pos 19_724) (over one_node) ≡ Ok (Money (pos 99_009_901))
  pub bond_at_a_higher_rate : known_at hundred (pos 19_724) (over (one_node_at (pos 19_724) (pos 19_824) (pos 980_392_156_863))) ≡ Ok (Money (pos 98_039_216))
  pub expired : known_at hundred (pos 19_824) [] ≡ Ok (Money (pos 0))
  pub par : known_at par_bond (pos 19_724) (over par_curve) ≡ Ok (Money million)
  pub agreed : indexed_at agreement (pos 19_724) [] (over_both one_node) ≡ Ok (Money (pos 825_082_508))
  pub swap : indexed_at swap_flows (pos 19_724) [] (over_both one_node) ≡ Ok (Money (pos 825_082_508))
  pub swap_unfixed : indexed_at swap_flows (pos 19_783) [] (over (one_node_at (pos 19_783) (pos 19_883) (pos 990_099_009_901))) ≡ Err (NoFixing 2 (pos 19_774))
  pub swap_fixed : indexed_at swap_flows (pos 19_783) ((pos 19_774, pos 50_000_000) ∷ []) (over (one_node_at (pos 19_783) (pos 19_883) (pos 990_099_009_901))) ≡ Ok (Money (pos 2_766_501_649))
  pub one_rounding : known_at (unit ∷ unit ∷ []) (pos 19_724) (over (one_node_at (pos 19_724) (pos 19_824) (pos 500_000_000_000))) ≡ Ok (Money (pos 1))
  pub paid_today : known_at (unit ∷ late ∷ []) (pos 19_824) (over (one_node_at (pos 19_724) (pos 19_825) (pos (10 ^ 12)))) ≡ Ok (Money (pos 1))
  pub paid_at_the_reference_day : known_at (unit ∷ late ∷ []) (pos 19_724) (over (one_node_at (pos 19_824) (pos 19_825) (pos (10 ^ 12)))) ≡ Ok (Money (pos 1))
  pub amount_first : indexed_at (unfixed (pos 19_825) ∷ []) (pos 19_724) [] (over one_node) ≡ Err (NoFixing 2 (pos 19_723))
  pub first_flow_first : indexed_at (late ∷ unfixed (pos 19_824) ∷ []) (pos 19_724) [] (over one_node) ≡ Err (Past 1 (pos 19_825))
  pub greatest_value : known_at (replicate 25 greatest) (pos 19_724) (over (one_node_at (pos 19_724) (pos 19_824) (pos (4 * 10 ^ 12)))) ≡ Ok (Money (pos (10 ^ 24)))
  pub value_beyond : known_at (replicate 25 greatest ++ unit ∷ []) (pos 19_724) (over (one_node_at (pos 19_724) (pos 19_824) (pos (4 * 10 ^ 12)))) ≡ Err (TooLarge 7)
  pub spread_added : indexed_at (spread_flow (pos 10_000_000)) (pos 19_724) [] (over_both one_node) ≡ Ok (Money (pos 6_325_632_563))
  pub spread_taken : indexed_at (spread_flow (neg_ℤ (pos 10_000_000))) (pos 19_724) [] (over_both one_node) ≡ Ok (Money (pos 3_575_357_536))
  pub spread_over_a_stored_rate : indexed_at (spread_flow (pos 10_000_000)) (pos 19_783) ((pos 19_774, pos 50_000_000) ∷ []) (over (one_node_at (pos 19_783) (pos 19_883) (pos 990_099_009_901))) ≡ Ok (Money (pos 8_299_504_950))
  pub paid_after_a_holiday : known_at (Known (pos 19_815) (pos 3_444_444_444) (accruing 19_782 19_813) ∷ []) (pos 19_782) (over (one_node_at (pos 19_782) (pos 19_900) (pos 980_000_000_000))) ≡ Ok (Money (pos 3_425_178_907))
  pub month_ends : known_at month_end_bond (pos 19_782) (over (one_node_at (pos 19_782) (pos 19_900) (pos 980_000_000_000))) ≡ Ok (Money (pos 996_385_065_912))
  pub repaid_before_the_curve : known_at hundred (pos 19_823) (over (one_node_at (pos 19_825) (pos 19_925) (pos 990_099_009_901))) ≡ Ok (Money (pos 0))
