-- The price of a fixed bond at a yield: simple interest over Act/365 from one payment day to the next, compounded at
-- each (this project's profile; QuantLib's CashFlows::npv with Simple and Actual365Fixed, but for the rounding).
use Rattle.std.specs.Prelude.{ℕ, ◌+◌, ◌*◌, ◌/◌, ◌^◌, ℤ, pos, ◌-ℤ◌, unsigned_abs, int_lt, Bool, List, [], ◌∷◌, map}
use Rattle.std.specs.List.{filter}
use Rattle.fixed_amount.specs.Rounding.{closest}
use Rattle.year_parts.specs.declared.bases.Basis.TheVariants.{D365}
use Rattle.year_parts.specs.Basis.{parts_in_day}
use Rattle.year_parts.specs.Parts.{parts_in_year}
use Rattle.flow_terms.specs.declared.flows.FlowTerm.{FlowTerm}
use Rattle.flow_terms.specs.declared.flows.FlowTerm.TheVariants.{Known, Float, Forward}
use Rattle.flow_terms.specs.Flows.{paid_on}

-- a factor of 1, in units of 10^-12
abbrev pub one : ℕ
one = 10 ^ 12

-- interest of 1 for a whole year, in units of a rate and parts of a year
abbrev pub whole : ℕ
whole = 10 ^ 9 * parts_in_year

-- how many days lie from a day to one that is not before it
abbrev pub days_from : ℤ → ℤ → ℕ
days_from from to = unsigned_abs (to -ℤ from)

-- the units of a known amount from 0 on
abbrev pub amount_of : FlowTerm → ℕ
amount_of (Known paid amount period) = unsigned_abs amount
amount_of (Float paid notional spread parts fixing) = 0
amount_of (Forward paid notional strike fixing) = 0

-- the factor behind so many more days at a yield, in units of 10^-9: divided by what 1 grows to over them, rounded down
unfoldable pub factor_after : ℕ → ℕ → ℕ → ℕ
factor_after yield factor days = factor * whole / (whole + yield * (days * parts_in_day D365))

-- the factor of each payment day, by that of the day before it
unfoldable pub factors_from : ℕ → ℤ → ℕ → List ℤ → List ℕ
factors_from yield day factor [] = []
factors_from yield day factor (paid ∷ days) =
    factor_after yield factor (days_from day paid) ∷ factors_from yield paid (factor_after yield factor (days_from day paid)) days

-- the factors of payment days from a settlement day on, where it is 1
abbrev pub factors : ℕ → ℤ → List ℤ → List ℕ
factors yield settle days = factors_from yield settle one days

-- the sum of amounts times their factors
unfoldable pub worth : List ℕ → List ℕ → ℕ
worth [] factors = 0
worth (amount ∷ amounts) [] = 0
worth (amount ∷ amounts) (factor ∷ factors) = amount * factor + worth amounts factors

-- a flow that is paid after the settlement day (QuantLib's CashFlow::hasOccurred)
abbrev pub is_after : ℤ → FlowTerm → Bool
is_after settle flow = int_lt settle (paid_on flow)

-- the flows that are paid after the settlement day, in their order
abbrev pub paid_after : ℤ → List FlowTerm → List FlowTerm
paid_after settle flows = filter (is_after settle) flows

-- what flows are worth at a yield behind a day with its factor
abbrev pub worth_from : ℕ → ℤ → ℕ → List FlowTerm → ℕ
worth_from yield day factor flows = worth (map amount_of flows) (factors_from yield day factor (map paid_on flows))

-- the full price on a settlement day at a yield in units of 10^-9: what is paid after it, each amount times its
-- factor, rounded once
abbrev pub full_price : List FlowTerm → ℤ → ℕ → ℤ
full_price flows settle yield = closest (pos (worth_from yield settle one (paid_after settle flows))) one
