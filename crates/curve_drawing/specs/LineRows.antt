-- A curve and its helper worked through by hand: from 2024-01-02 with the factors 0.990099009901 on 2024-04-11 and 0.96 on 2025-01-02.
use Rattle.std.specs.Prelude.{◌≡◌, ℤ, [], ◌∷◌, pos, false, None, Ok, Err}
use Rattle.day_number.specs.declared.conventions.Convention.TheVariants.{Following}
use Rattle.day_number.specs.declared.tenors.Unit.TheVariants.{Days}
use Rattle.year_parts.specs.declared.counters.Counter.TheVariants.{Act360}
use Rattle.holiday_calendars.specs.declared.bases.Base.TheVariants.{Null}
use Rattle.holiday_calendars.specs.declared.calendars.Calendar.TheVariants.{One}
use Rattle.desk_terms.specs.declared.cause.Cause.TheVariants.{DateRange, RateRange}
use Rattle.curve_points.specs.Curve.{Curve}
use Rattle.curve_drawing.specs.declared.lines.Plot.TheVariants.{Factors, Zeros, Forwards, Pars}
use Rattle.curve_drawing.specs.declared.lines.PlotPoint.{PlotPoint}
use Rattle.curve_drawing.specs.Days.{days_of}
use Rattle.curve_drawing.specs.Lines.{plotted}
use Rattle.curve_drawing.specs.Pars.{Quotes}

abbrev pub two_nodes : Curve
two_nodes = record {
  owner = 2;
  reference = pos 19_724;
  nodes = record { day = pos 19_824; factor = pos 990_099_009_901 } ∷ record { day = pos 20_090; factor = pos 960_000_000_000 } ∷ [];
}

-- the same up to its first node
abbrev pub one_node : Curve
one_node = record {
  owner = 2;
  reference = pos 19_724;
  nodes = record { day = pos 19_824; factor = pos 990_099_009_901 } ∷ [];
}

abbrev pub bare : Curve
bare = record { owner = 2; reference = pos 19_724; nodes = [] }

-- from 2199-12-05, where a month leaves the range of days
abbrev pub last_month : Curve
last_month = record { owner = 2; reference = pos 83_979; nodes = [] }

abbrev pub point : ℤ → ℤ → ℤ → PlotPoint
point from until units = record { from = from; until = until; units = units; quoted = units }

abbrev pub par : ℤ → ℤ → ℤ → PlotPoint
par day units quoted = record { from = day; until = day; units = units; quoted = quoted }

-- a deposit of so many days over 360, with a quote
abbrev pub deposit : ℤ → ℤ → Quotes
deposit days quote = record {
  cal = One Null;
  helpers = record { quote = 1; tenor = record { count = days; unit = Days }; every = None; conv = Following; eom = false; counter = Act360 } ∷ [];
  rates = quote ∷ [];
}

-- no helpers
abbrev pub unquoted : Quotes
unquoted = record { cal = One Null; helpers = []; rates = [] }

-- the days are 2024-02-02, 2024-03-02, 2024-04-02, 2024-07-02 and 2024-10-02
pub record AreWorked : Type 0 where
  pub quarters : days_of (pos 19_724) (pos 20_090) 3 ≡ pos 19_815 ∷ pos 19_906 ∷ pos 19_998 ∷ pos 20_090 ∷ []
  pub cut : days_of (pos 19_724) (pos 19_824) 3 ≡ pos 19_815 ∷ pos 19_824 ∷ []
  pub month_end : days_of (pos 19_753) (pos 19_790) 1 ≡ pos 19_782 ∷ pos 19_790 ∷ []
  pub factors : plotted Factors unquoted one_node
      ≡ Ok (point (pos 19_724) (pos 19_724) (pos 1_000_000_000_000) ∷ point (pos 19_824) (pos 19_824) (pos 990_099_009_901) ∷ [])
  pub zeros : plotted Zeros unquoted one_node
      ≡ Ok (point (pos 19_724) (pos 19_755) (pos 36_249_876) ∷ point (pos 19_724) (pos 19_784) (pos 36_354_582)
      ∷ point (pos 19_724) (pos 19_815) (pos 36_467_180) ∷ point (pos 19_724) (pos 19_824) (pos 36_500_000) ∷ [])
  pub forwards : plotted Forwards unquoted two_nodes
      ≡ Ok (point (pos 19_724) (pos 19_815) (pos 36_467_180) ∷ point (pos 19_815) (pos 19_906) (pos 41_588_329)
      ∷ point (pos 19_906) (pos 19_998) (pos 42_560_634) ∷ point (pos 19_998) (pos 20_090) (pos 43_022_159) ∷ [])
  pub none : plotted Forwards unquoted bare ≡ Ok []
  pub pars : plotted Pars (deposit (pos 100) (pos 36_000_001)) one_node ≡ Ok (par (pos 19_824) (pos 36_000_000) (pos 36_000_001) ∷ [])
  pub within : plotted Pars (deposit (pos 50) (pos 36_000_000)) one_node ≡ Ok (par (pos 19_774) (pos 35_820_896) (pos 36_000_000) ∷ [])
  pub no_helper : plotted Pars unquoted one_node ≡ Ok []
  pub no_quote : plotted Pars (record (deposit (pos 100) (pos 0)) { rates = [] }) one_node ≡ Ok []
  pub beyond : plotted Pars (deposit (pos 100) (pos 10_000_000_001)) one_node ≡ Err (RateRange 2)
  pub unreached : plotted Pars (deposit (pos 101) (pos 36_000_000)) one_node ≡ Err (RateRange 2)
  pub out_of_range : plotted Pars (deposit (pos 30) (pos 36_000_000)) last_month ≡ Err (DateRange 2)
