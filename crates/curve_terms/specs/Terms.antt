-- The limits of a curve's terms.
use Rattle.std.specs.Prelude.{◌≤◌, Option, Some, None, length}
use Rattle.std.specs.Int.{IsInRange as IsWithin}
use Rattle.std.specs.List.{All}
use Rattle.day_number.specs.declared.tenors.Unit.{Unit as TimeUnit}
use Rattle.day_number.specs.declared.tenors.Unit.TheVariants.{Days, Weeks, Months, Years}
use Rattle.day_number.specs.declared.tenors.Tenor.{Tenor}
use Rattle.day_number.specs.Tenor.{IsTenor}
use Rattle.curve_terms.specs.declared.terms.Helper.{Helper}
use Rattle.curve_terms.specs.declared.terms.CurveStart.{CurveStart}
use Rattle.curve_terms.specs.declared.terms.CurveStart.TheVariants.{Moving, Fixed}
use Rattle.curve_terms.specs.declared.terms.CurveTerms.{CurveTerms}

-- a unit of months
abbrev pub CountsMonths : TimeUnit → Type 0
CountsMonths Days = ⊥
CountsMonths Weeks = ⊥
CountsMonths Months = Unit {0}
CountsMonths Years = Unit {0}

-- a tenor of months or years within its unit's limit
abbrev pub IsOfMonths : Tenor → Type 0
IsOfMonths tenor = IsTenor tenor × CountsMonths tenor.unit

-- a deposit's tenor is within its unit's limit; a swap's tenor and frequency are of months or years
abbrev pub AreTenors : Tenor → Option Tenor → Type 0
AreTenors tenor None = IsTenor tenor
AreTenors tenor (Some every) = IsOfMonths tenor × IsOfMonths every

-- a helper's tenors are within their limits
abbrev pub IsHelper : Helper → Type 0
IsHelper helper = AreTenors helper.tenor helper.every

-- at most 30 settlement days of a start that moves
abbrev pub IsStart : CurveStart → Type 0
IsStart (Moving settlement) = settlement ≤ 30
IsStart (Fixed day) = Unit {0}

-- a start within its limit, 1 to 64 helpers, and each helper within its limits (this project's limits)
pub record IsInRange (terms : CurveTerms) : Type 0 where
  pub start : IsStart terms.start
  pub count : IsWithin 1 64 (length terms.helpers)
  pub helpers : All IsHelper terms.helpers
