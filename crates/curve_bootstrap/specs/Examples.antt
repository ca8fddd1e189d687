-- Reference days, coupons of helpers and refusals that are worked out by hand, with month ends and holidays.
use Rattle.std.specs.Prelude.{◌≡◌, ℕ, Bool, true, false, List, [], ◌∷◌, Option, Some, None, Ok, Err, ℤ, pos}
use Rattle.day_number.specs.declared.conventions.Convention.{Convention}
use Rattle.day_number.specs.declared.conventions.Convention.TheVariants.{Unadjusted, Following, Preceding, ModifiedFollowing}
use Rattle.day_number.specs.declared.tenors.Unit.{Unit as TimeUnit}
use Rattle.day_number.specs.declared.tenors.Unit.TheVariants.{Days, Months, Years}
use Rattle.day_number.specs.declared.tenors.Tenor.{Tenor}
use Rattle.year_parts.specs.declared.counters.Counter.TheVariants.{Act360}
use Rattle.holiday_calendars.specs.declared.bases.Base.TheVariants.{Null, Weekends, Target}
use Rattle.holiday_calendars.specs.declared.calendars.Calendar.{Calendar}
use Rattle.holiday_calendars.specs.declared.calendars.Calendar.TheVariants.{One}
use Rattle.curve_terms.specs.declared.terms.Helper.{Helper}
use Rattle.curve_terms.specs.declared.terms.CurveStart.TheVariants.{Moving, Fixed}
use Rattle.curve_terms.specs.declared.terms.CurveTerms.{CurveTerms}
use Rattle.curve_bootstrap.specs.declared.coupons.Coupon.{Coupon}
use Rattle.curve_bootstrap.specs.declared.faults.HelperFault.TheVariants as helper
use Rattle.curve_bootstrap.specs.declared.faults.BuildFault.TheVariants as build
use Rattle.curve_points.specs.Curve.{Curve, origin}
use Rattle.curve_bootstrap.specs.Node.{node_of}
use Rattle.curve_bootstrap.specs.Built.{coupons_of, reference_day, built_curve}
use Rattle.curve_bootstrap.specs.Par.{par_rate}

abbrev pub tenor_of : ℤ → TimeUnit → Tenor
tenor_of count unit = record { count = count; unit = unit }

abbrev pub helper_of : Tenor → Option Tenor → Convention → Bool → Helper
helper_of tenor every conv eom =
    record { quote = 1; tenor = tenor; every = every; conv = conv; eom = eom; counter = Act360 }

-- a deposit of one month
abbrev pub deposit : Convention → Bool → Helper
deposit = helper_of (tenor_of (pos 1) Months) None

-- a swap of one year that pays every 6 months
abbrev pub swap : Convention → Bool → Helper
swap = helper_of (tenor_of (pos 1) Years) (Some (tenor_of (pos 6) Months))

-- a deposit of days
abbrev pub days : ℤ → Helper
days count = helper_of (tenor_of count Days) None Following false

abbrev pub terms_of : Calendar → ℕ → List Helper → CurveTerms
terms_of cal settlement helpers = record { cal = cal; start = Moving settlement; helpers = helpers }

abbrev pub fixed_terms : Calendar → ℤ → List Helper → CurveTerms
fixed_terms cal day helpers = record { cal = cal; start = Fixed day; helpers = helpers }

-- a coupon by its day and its days over 360
abbrev pub paid : ℤ → ℤ → Coupon
paid day parts = record { day = day; parts = parts }

-- a curve from 2024-03-28 to a node
abbrev pub curve_to : ℤ → ℤ → Curve
curve_to day factor = record { owner = 1; reference = pos 19_810; nodes = record { day = day; factor = factor } ∷ [] }

-- a curve from 2024-02-29 to the end of a swap of two coupons
abbrev pub leap_year : ℤ → Curve
leap_year factor = record { owner = 1; reference = pos 19_782; nodes = record { day = pos 20_147; factor = factor } ∷ [] }

-- the days are 2024-01-02 (19,724), 2024-01-04 (19,726), 2024-02-29 (19,782), 2024-03-01 (19,783), 2024-03-27 to
-- 2024-04-02 (19,809 to 19,815, with Good Friday and Easter Monday), 2024-04-29 (19,842), 2024-04-30 (19,843),
-- 2024-08-28 (19,963), 2024-08-30 to 2024-09-02 (19,965 to 19,968, with a weekend), 2025-02-28 (20,147), 2025-03-01
-- (20,148, a Saturday), 2025-03-03 (20,150), 2025-08-29 (20,329), 2025-08-31 (20,331, a Sunday), 2025-09-01 (20,332),
-- 2199-12-05 (83,979) and 2199-12-31 (84,005)
pub record AreWorked : Type 0 where
  pub settled : reference_day (terms_of (One Target) 2 []) (pos 19_724) ≡ Some (pos 19_726)
  pub settled_over_easter : reference_day (terms_of (One Target) 1 []) (pos 19_810) ≡ Some (pos 19_815)
  pub settled_from_a_weekend : reference_day (terms_of (One Weekends) 0 []) (pos 19_812) ≡ Some (pos 19_814)
  pub settled_past : reference_day (terms_of (One Null) 1 []) (pos 84_005) ≡ None
  pub fixed_on_a_holiday : reference_day (fixed_terms (One Target) (pos 19_811) []) (pos 84_005) ≡ Some (pos 19_811)
  pub deposit_to_a_month_end : coupons_of (One Null) (pos 19_782) (deposit Following true)
      ≡ Ok (paid (pos 19_813) (pos 966_301) ∷ [])
  pub deposit_by_the_day : coupons_of (One Null) (pos 19_782) (deposit Following false)
      ≡ Ok (paid (pos 19_811) (pos 903_959) ∷ [])
  pub deposit_to_a_last_business_day : coupons_of (One Target) (pos 19_782) (deposit Following true)
      ≡ Ok (paid (pos 19_810) (pos 872_788) ∷ [])
  pub deposit_over_easter : coupons_of (One Target) (pos 19_782) (deposit Following false)
      ≡ Ok (paid (pos 19_815) (pos 1_028_643) ∷ [])
  pub deposit_from_a_last_business_day : coupons_of (One Target) (pos 19_810) (deposit ModifiedFollowing true)
      ≡ Ok (paid (pos 19_843) (pos 1_028_643) ∷ [])
  pub deposit_in_its_month : coupons_of (One Target) (pos 19_810) (deposit ModifiedFollowing false)
      ≡ Ok (paid (pos 19_842) (pos 997_472) ∷ [])
  pub swap_at_month_ends : coupons_of (One Null) (pos 19_782) (swap Following true)
      ≡ Ok (paid (pos 19_966) (pos 5_735_464) ∷ paid (pos 20_147) (pos 5_641_951) ∷ [])
  pub swap_by_the_day : coupons_of (One Null) (pos 19_782) (swap Following false)
      ≡ Ok (paid (pos 19_963) (pos 5_641_951) ∷ paid (pos 20_147) (pos 5_735_464) ∷ [])
  pub swap_month_end_adjusted : coupons_of (One Target) (pos 19_782) (swap Following true)
      ≡ Ok (paid (pos 19_968) (pos 5_797_806) ∷ paid (pos 20_147) (pos 5_579_609) ∷ [])
  pub swap_end_following : coupons_of (One Weekends) (pos 19_783) (swap Following false)
      ≡ Ok (paid (pos 19_968) (pos 5_766_635) ∷ paid (pos 20_150) (pos 5_673_122) ∷ [])
  pub swap_end_preceding : coupons_of (One Weekends) (pos 19_783) (swap Preceding false)
      ≡ Ok (paid (pos 19_965) (pos 5_673_122) ∷ paid (pos 20_147) (pos 5_673_122) ∷ [])
  pub swap_end_unadjusted : coupons_of (One Weekends) (pos 19_783) (swap Unadjusted false)
      ≡ Ok (paid (pos 19_967) (pos 5_735_464) ∷ paid (pos 20_148) (pos 5_641_951) ∷ [])
  pub deposit_from_a_holiday : coupons_of (One Target) (pos 19_811) (deposit Following false)
      ≡ Ok (paid (pos 19_842) (pos 966_301) ∷ [])
  pub days_from_a_holiday : coupons_of (One Target) (pos 19_811) (days (pos 1)) ≡ Ok (paid (pos 19_815) (pos 124_684) ∷ [])
  pub swap_from_a_holiday_following : coupons_of (One Weekends) (pos 19_966) (swap Following false)
      ≡ Ok (paid (pos 20_147) (pos 5_579_609) ∷ paid (pos 20_332) (pos 5_766_635) ∷ [])
  pub swap_from_a_holiday_preceding : coupons_of (One Weekends) (pos 19_966) (swap Preceding false)
      ≡ Ok (paid (pos 20_147) (pos 5_673_122) ∷ paid (pos 20_329) (pos 5_673_122) ∷ [])
  pub swap_from_a_holiday_unadjusted : coupons_of (One Weekends) (pos 19_966) (swap Unadjusted false)
      ≡ Ok (paid (pos 20_147) (pos 5_641_951) ∷ paid (pos 20_331) (pos 5_735_464) ∷ [])
  pub deposit_par : par_rate (One Target) (curve_to (pos 19_843) (pos 996_710_854_182)) (deposit ModifiedFollowing true)
      ≡ Ok (record { end = pos 19_843; rate = pos 36_000_000 })
  pub swap_par : par_rate (One Null) (leap_year (pos 960_641_622_065)) (swap Following false) ≡ Ok (record { end = pos 20_147; rate = pos 40_000_000 })
  pub swap_below_par : par_rate (One Null) (leap_year (pos 1_000_000_000_000)) (swap Following false) ≡ Ok (record { end = pos 20_147; rate = pos 0 })
  pub short_curve : par_rate (One Null) (curve_to (pos 19_811) (pos 996_000_000_000)) (swap Following false) ≡ Err helper.Discount
  pub par_past : par_rate (One Null) (record { owner = 1; reference = pos 83_979; nodes = [] }) (deposit Following false) ≡ Err helper.DateRange
  pub deposit_past : coupons_of (One Null) (pos 83_979) (deposit Following false) ≡ Err helper.DateRange
  pub swap_past : coupons_of (One Null) (pos 83_979) (swap Following false) ≡ Err helper.DateRange
  pub built_past : built_curve 1 (terms_of (One Null) 1 (deposit Following false ∷ [])) (pos 84_005) (pos 36_000_000 ∷ [])
      ≡ Err build.DateRange
  pub month_end_not_passed : built_curve 1 (terms_of (One Null) 0 (deposit Following true ∷ days (pos 31) ∷ []))
      (pos 19_782) (pos 36_000_000 ∷ pos 36_000_000 ∷ [])
      ≡ Err (build.Pillar 2)
  pub second_rate_beyond : built_curve 1 (terms_of (One Null) 0 (deposit Following false ∷ days (pos 31) ∷ []))
      (pos 19_782) (pos 36_000_000 ∷ pos 10_000_000_001 ∷ [])
      ≡ Err build.RateRange
  pub node_at_a_month_end : node_of (origin (pos 19_810)) [] (pos 19_843) (pos 36_000_000) (paid (pos 19_843) (pos 1_028_643) ∷ [])
      ≡ Ok (pos 996_710_854_182)
  pub node_by_the_day : node_of (origin (pos 19_810)) [] (pos 19_842) (pos 36_000_000) (paid (pos 19_842) (pos 997_472) ∷ [])
      ≡ Ok (pos 996_810_207_337)
  pub built_at_a_month_end : built_curve 1 (terms_of (One Target) 1 (deposit ModifiedFollowing true ∷ [])) (pos 19_809) (pos 36_000_000 ∷ [])
      ≡ Ok (curve_to (pos 19_843) (pos 996_710_854_182))
  pub built_by_the_day : built_curve 1 (terms_of (One Target) 1 (deposit ModifiedFollowing false ∷ [])) (pos 19_809) (pos 36_000_000 ∷ [])
      ≡ Ok (curve_to (pos 19_842) (pos 996_810_207_337))
