-- What is proved of these definitions, for every bench and every market.
use Rattle.std.specs.Prelude.{◌≡◌, ℕ, ℤ, List, ◌++◌, map}
use Rattle.std.specs.List.{All}
use Rattle.walks.specs.Walk.{Among}
use Rattle.desk_terms.specs.Reading.{Calc}
use Rattle.desk_model.specs.Market.{Market}
use Rattle.bump_model.specs.declared.ladder.Bump.{Bump}
use Rattle.bump_model.specs.declared.ladder.Bump.TheVariants.{One}
use Rattle.bump_model.specs.Sides.{bump_rung, rungs_of}
use Rattle.tool_risk.specs.Figures.{delta_of, gamma_of, delta_in, gamma_in}
use Rattle.tool_risk.specs.FigureSums.{sum_of, sum_at}

-- a rung of a ladder has the figures of the prices
abbrev pub DeltasAreOfPrices : Type 0
DeltasAreOfPrices = (calc : Calc) (size : ℤ) (market : Market) (o : ℕ) (base : ℤ) (bump : Bump)
    → delta_in (bump_rung calc size market o base bump) ≡ delta_of calc size market o bump

-- and the rungs of quotes one by one, whatever comes behind them, have the sums of the prices
abbrev pub SumsAreOfPrices : Type 0
SumsAreOfPrices = (calc : Calc) (size : ℤ) (market : Market) (o : ℕ) (base : ℤ) (others : List Bump) (all quotes : List ℕ)
    → All (λ q. Among q all) quotes
    → sum_at (rungs_of calc size market o base (map One all ++ others)) quotes ≡ sum_of calc size market o quotes

abbrev pub GammasAreOfPrices : Type 0
GammasAreOfPrices = (calc : Calc) (size : ℤ) (market : Market) (o : ℕ) (base : ℤ) (bump : Bump)
    → gamma_in (bump_rung calc size market o base bump) ≡ gamma_of calc size market o base bump
