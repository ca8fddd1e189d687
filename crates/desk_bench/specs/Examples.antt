-- Prices worked through by hand.
use Rattle.std.specs.Prelude.{◌≡◌, ℕ, ℤ, List, [], ◌∷◌, pos, Option, Some, None, Ok, Err}
use Rattle.desk_terms.specs.declared.terms.Terms.{Terms}
use Rattle.desk_terms.specs.declared.terms.Terms.TheVariants.{Implied, Stock, Composite, Flows}
use Rattle.curve_points.specs.Curve.{Curve as CurveView}
use Rattle.desk_terms.specs.declared.value.Value.TheVariants.{Money, Curve}
use Rattle.desk_terms.specs.declared.value.Input as input
use Rattle.desk_terms.specs.declared.cause.Cause.TheVariants.{Before, Past, Discount}
use Rattle.desk_terms.specs.Reading.{Outcome}
use Rattle.flow_terms.specs.declared.flows.FlowTerm.TheVariants.{Known}
use Rattle.desk_bench.specs.Pricing.{desk_calc}

-- the price of an object by its terms, the evaluation date and its inputs, where no index is named
abbrev pub price_at : ℕ → Terms → Option ℤ → List input.Input → Outcome
price_at o terms today inputs =
    desk_calc (record { object = o; terms = terms; inputs = inputs; today = today; index = None })

abbrev pub stock_at : ℤ → Outcome
stock_at rate = price_at 2 (Stock 1) None (input.TheVariants.Rate rate ∷ [])

-- object 9: 100 on 2024-04-11
abbrev pub hundred : Terms
hundred =
    Flows (record { flows = Known (pos 19824) (pos 100000000) None ∷ []; index = None }) (Some 3)

-- the curve of object 7 from 2024-01-02, with the one node 0.990099009901 on 2024-04-11; and object 8, which sees it from
-- a day
abbrev pub one_node : CurveView
one_node = record { owner = 7; reference = pos 19724; nodes = record { day = pos 19824; factor = pos 990099009901 } ∷ [] }

abbrev pub seen_from : ℤ → Outcome
seen_from day = price_at 8 (Implied 6 day) None (input.TheVariants.Curve one_node ∷ [])

-- a curve of 2, 8 and 9 units: over 2 the third is beyond 4
abbrev pub steep : CurveView
steep = record {
  owner = 7;
  reference = pos 0;
  nodes = record { day = pos 10; factor = pos 2 } ∷ record { day = pos 20; factor = pos 8 } ∷ record { day = pos 30; factor = pos 9 } ∷ [];
}

pub record AreWorked : Type 0 where
  pub stock : stock_at (pos 1500000000) ≡ Ok (Money (pos 1500000))
  pub composite : price_at 5 (Composite (record { weight = pos 2; member = 3 } ∷ [])) None (input.TheVariants.Money (pos 1500000) ∷ [])
      ≡ Ok (Money (pos 3000000))
  pub bond : price_at 9 hundred (Some (pos 19724)) (input.TheVariants.Curve one_node ∷ []) ≡ Ok (Money (pos 99009901))
  pub expired : price_at 9 hundred (Some (pos 19824)) [] ≡ Ok (Money (pos 0))
  pub implied : seen_from (pos 19774)
      ≡ Ok (Curve (record { owner = 8; reference = pos 19774; nodes = record { day = pos 19824; factor = pos 995024875621 } ∷ [] }))
  pub implied_at_the_end : seen_from (pos 19824) ≡ Ok (Curve (record { owner = 8; reference = pos 19824; nodes = [] }))
  pub before_the_base : seen_from (pos 19723) ≡ Err (Before 7 (pos 19723))
  pub past_the_base : seen_from (pos 19825) ≡ Err (Past 7 (pos 19825))
  pub node_out_of_range : price_at 8 (Implied 7 (pos 10)) None (input.TheVariants.Curve steep ∷ []) ≡ Err (Discount 8 2)
