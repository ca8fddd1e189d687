-- Lines that are worked through by hand, of the bonds of bond_yield's rows.
use Rattle.std.specs.Prelude.{◌≡◌, ℕ, ℤ, List, [], ◌∷◌, codes, pos, Option, None, Some, Ok, Err}
use Rattle.bond_yield.specs.Rows.{hundred, two_years}
use Rattle.desk_terms.specs.declared.cause.Cause.TheVariants.{TooLarge}
use Rattle.desk_terms.specs.declared.terms.Terms.{Terms}
use Rattle.desk_terms.specs.declared.terms.Terms.TheVariants.{Quote, Derived, Handle, Curve, Implied, Index, Engine, Stock, Composite, Flows}
use Rattle.desk_terms.specs.declared.value.Value.TheVariants as value
use Rattle.desk_terms.specs.Reading.{Outcome, Calc}
use Rattle.desk_model.specs.Examples.{curve_of}
use Rattle.flow_terms.specs.declared.flows.FlowTerm.{FlowTerm}
use Rattle.market_file.specs.Market.{Market}
use Rattle.tool_bond.specs.MeasureLines.{measures_text}
use Rattle.tool_bond.specs.Spreads.{spread_text}

-- the days are 2024-01-02 (19,724), 2024-01-04 (19,726) and 2024-04-11 (19,824)
pub record AreWritten : Type 0 where
  pub one : measures_text (codes "b") hundred (pos 19_724) 36_499_982 ≡
      codes "b bpv -0.002685\nb duration 0.271235500\nb convexity 1\n"
  pub two : measures_text (codes "c") two_years (pos 19_726) 40_000_000 ≡
      codes "c bpv -189.059050\nc duration 1.891058493\nc convexity 5\n"
  pub low : measures_text (codes "b") hundred (pos 19_724) 99_999 ≡
      codes "b bpv -0.002739\nb refused duration low\nb refused convexity low\n"
  pub high : measures_text (codes "b") hundred (pos 19_724) 9_999_900_001 ≡
      codes "b refused bpv high\nb refused duration high\nb refused convexity high\n"
  pub worthless : measures_text (codes "b") hundred (pos 19_824) 99_999 ≡
      codes "b bpv 0.000000\nb refused duration worthless\nb refused convexity worthless\n"

-- the curve `c` with the engine `e`, and `m`, which is `c` seen from a later day, with the engine `f`
abbrev pub entries : List (ℕ × Terms)
entries = (1, Curve (curve_of [])) ∷ (2, Engine 1) ∷ (3, Implied 1 (pos 19_774)) ∷ (4, Engine 3) ∷ []

abbrev pub small : Market
small = record {
  today = pos 19_724;
  made = entries;
  names = codes "today" ∷ codes "c" ∷ codes "e" ∷ codes "m" ∷ codes "f" ∷ [];
}

-- a way to price: each curve from 2024-01-02 with one node, all else is refused
abbrev pub straight_price : ℕ → Terms → Outcome
straight_price o (Curve terms) =
    Ok (value.Curve (record { owner = o; reference = pos 19_724; nodes = record { day = pos 19_824; factor = pos 990_099_009_901 } ∷ [] }))
straight_price o (Quote rate) = Err (TooLarge o)
straight_price o (Derived minus first second) = Err (TooLarge o)
straight_price o (Handle kind target) = Err (TooLarge o)
straight_price o (Implied curve reference) = Err (TooLarge o)
straight_price o (Index terms fixings) = Err (TooLarge o)
straight_price o (Engine curve) = Err (TooLarge o)
straight_price o (Stock quote) = Err (TooLarge o)
straight_price o (Composite parts) = Err (TooLarge o)
straight_price o (Flows flows engine) = Err (TooLarge o)

abbrev pub straight : Calc
straight reading = straight_price reading.object reading.terms

-- the line of the spread of flows that name an engine
abbrev pub shown : Option ℕ → List FlowTerm → ℤ → ℤ → List ℕ
shown engine flows settle full =
    spread_text straight
    (record { market = small; engine = engine; name = codes "b"; flows = flows; settle = settle; full = full; yield = 0 })

-- a spread is found by halving and not by these definitions, which would try each number
pub record AreSpread : Type 0 where
  pub above : shown (Some 2) hundred (pos 19_724) (pos 99_009_902) ≡ codes "b refused spread above 99.009901\n"
  pub below : shown (Some 2) hundred (pos 19_724) (pos 26_475_174) ≡ codes "b refused spread below 26.475175\n"
  pub before : shown (Some 2) hundred (pos 19_723) (pos 1) ≡ codes "b refused spread before c 2024-01-01\n"
  pub past : shown (Some 2) two_years (pos 19_726) (pos 1) ≡ codes "b refused spread past c 2025-01-06\n"
  pub valueless : shown (Some 4) hundred (pos 19_724) (pos 1) ≡ codes "b refused spread toolarge m\n"
  pub no_engine : shown None hundred (pos 19_724) (pos 1) ≡ codes "b refused spread noengine\n"
