-- The adjusted day as a value is the adjusted day over the set of business days.
use Rattle.std.proofs.Common.{◌&&◌, not, Some, sym, ap, nat_le, nat_lt, ℤ}
use Rattle.std.proofs.lemmas.Option.{same_Some}
use Rattle.std.proofs.lemmas.Bool.Decides.{Decides-and, Decides-not, Decides-ltb}
use Rattle.std.proofs.lemmas.Bool.{leb-true, le-leb}
use Rattle.std.specs.Bool.{Decides}
use Rattle.day_number.specs.declared.conventions.Convention.TheVariants.{Unadjusted, Following, Preceding, ModifiedFollowing, ModifiedPreceding, HalfMonthModifiedFollowing, Nearest}
use Rattle.day_number.specs.Day.{IsDayNumber, date_of}
use Rattle.day_shift.specs.Business.{next, previous, IsNext, IsPrevious}
use Rattle.day_shift.specs.Month.{IsInMonth, IsAcrossMiddle, is_same_month, is_across_middle}
use Rattle.day_shift.specs.Adjusted.{IsAdjusted, adjusted, AdjustedIsTheDay}
use Rattle.day_shift.proofs.FoundLemmas.{kept_or-names}
use Rattle.day_shift.proofs.InMonthLemmas.{one_month_is_year_and_month}
use Rattle.day_shift.proofs.NearestLemmas.{nearest_is_nearest}
use Rattle.day_shift.proofs.SetLemmas.{next_is_least, previous_is_greatest}

middle-decides : (day later : ℤ) → Decides (is_across_middle day later) (IsAcrossMiddle day later)
middle-decides day later =
    let one = (date_of day).day in
    let other = (date_of later).day in
    Decides-and (nat_le one 15) (nat_lt 15 other) (leb-true one 15, le-leb one 15) (Decides-ltb 15 other)

half-decides : (day later : ℤ) → IsDayNumber day → IsDayNumber later → Decides (is_same_month day later && not (is_across_middle day later)) (IsInMonth day later × ¬ (IsAcrossMiddle day later))
half-decides day later h k =
    Decides-and (is_same_month day later) (not (is_across_middle day later)) (one_month_is_year_and_month day later h k)
    (Decides-not (is_across_middle day later) (middle-decides day later))

pub adjusted_is_the_day : AdjustedIsTheDay
unfolding adjusted IsAdjusted
adjusted_is_the_day business Unadjusted day found h = (λ e. sym (same_Some day found e), λ e. ap Some (sym e))
adjusted_is_the_day business Following day found h = next_is_least business day found h
adjusted_is_the_day business Preceding day found h = previous_is_greatest business day found h
adjusted_is_the_day business ModifiedFollowing day found h =
    kept_or-names (is_same_month day) (next business day) (previous business day) (IsInMonth day) (IsNext business day) (IsPrevious business day)
    (λ x. next_is_least business day x h) (λ x. previous_is_greatest business day x h)
    (λ x is. one_month_is_year_and_month day x h is.0.0) found
adjusted_is_the_day business ModifiedPreceding day found h =
    kept_or-names (is_same_month day) (previous business day) (next business day) (IsInMonth day) (IsPrevious business day) (IsNext business day)
    (λ x. previous_is_greatest business day x h) (λ x. next_is_least business day x h)
    (λ x is. one_month_is_year_and_month day x h is.0.0) found
adjusted_is_the_day business HalfMonthModifiedFollowing day found h =
    kept_or-names (λ later. is_same_month day later && not (is_across_middle day later)) (next business day) (previous business day)
    (λ later. IsInMonth day later × ¬ (IsAcrossMiddle day later)) (IsNext business day) (IsPrevious business day)
    (λ x. next_is_least business day x h) (λ x. previous_is_greatest business day x h)
    (λ x is. half-decides day x h is.0.0) found
adjusted_is_the_day business Nearest day found h = nearest_is_nearest business day found h
