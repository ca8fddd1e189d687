-- Adjusting keeps the order of days, and from a business day no count of a unit on leads back.
use Rattle.std.proofs.Common.{◌≡◌, ◌≤◌, ◌<◌, zero, suc, ◌&&◌, nat_le, nat_lt, not, Bool, true, false, if◌then◌else◌, Option, Some, None, refl, sym, ap, ◌∙◌, arith, ℕ, ℤ, pos, negsuc, ◌+ℤ◌, ◌-ℤ◌, ◌*ℤ◌, ◌<ℤ◌, ◌≤ℤ◌}
use Rattle.std.proofs.lemmas.Int.{ints, by_lt_z}
use Rattle.std.proofs.lemmas.Option.{none-some, same_Some}
use Rattle.std.proofs.lemmas.Bool.Decides.{Decides-int_eq, not_from_Decides}
use Rattle.std.specs.Ordering.{int_eq}
use Rattle.jiff_core.proofs.SignedLemmas.{signed_arith}
use Rattle.day_number.specs.declared.conventions.Convention.{Convention}
use Rattle.day_number.specs.declared.conventions.Convention.TheVariants.{Unadjusted, Following, Preceding, ModifiedFollowing, ModifiedPreceding, HalfMonthModifiedFollowing, Nearest}
use Rattle.day_number.specs.declared.tenors.Unit.{Unit as TimeUnit}
use Rattle.day_number.specs.declared.tenors.Unit.TheVariants.{Days, Weeks, Months, Years}
use Rattle.day_number.specs.Day.{IsDayNumber, date_of}
use Rattle.day_number.specs.Shift.{last_of_month, months_later}
use Rattle.day_shift.specs.Business.{IsBusinessDay, IsNext, IsPrevious, day_at, next, previous}
use Rattle.day_shift.specs.Month.{IsInMonth, is_same_month, is_across_middle, month_at}
use Rattle.day_shift.specs.MonthEnd.{last_open, is_from}
use Rattle.day_shift.specs.Adjusted.{IsNearest, kept_or, adjusted, AdjustedKeepsOrder}
use Rattle.day_shift.specs.Advanced.{month_day, months_on, moved, advanced, AdvancedIsNotBefore}
use Rattle.day_shift.proofs.DaysLemmas.{after-open}
use Rattle.day_shift.proofs.InMonthLemmas.{last-same, last-after, same-last, month-between, one_month_is_year_and_month, place-order, month_of, month-order, months_later-in_range, months_later-month}
use Rattle.day_shift.proofs.MonthEndLemmas.{last_open_is_greatest}
use Rattle.day_shift.proofs.NearestLemmas.{nearest_is_nearest}
use Rattle.day_shift.proofs.OpenLemmas.{business_days_stay, behind, month_at-is}
use Rattle.day_shift.proofs.SearchLemmas.{day_at-found}
use Rattle.day_shift.proofs.SetLemmas.{by_test, by_option, next-is, previous-is}

-- the one kind where it is there and passes, else the other kind
kept : (passes : ℤ → Bool) (one other : Option ℤ) (found : ℤ) → kept_or passes one other ≡ Some found → {P : Type 0} → (one ≡ Some found → passes found ≡ true → P) → ((x : ℤ) → one ≡ Some x → passes x ≡ false → other ≡ Some found → P) → P
kept passes None other found e holds fails = absurd (none-some found e)
kept passes (Some x) other found e holds fails =
    by_test (passes x)
    (λ yes.
    let same = same_Some x found (sym (ap (λ b. if b then Some x else other) yes) ∙ e) in
    holds (ap Some same) (ap passes (sym same) ∙ yes))
    (λ no. fails x refl no (sym (ap (λ b. if b then Some x else other) no) ∙ e))

-- what passes for a day passes for a day between it and what was found
abbrev CarriesOn : (ℤ → Bool) → (ℤ → Bool) → ℤ → Type 0
CarriesOn passes then_passes later =
    (x : ℤ) → IsDayNumber x → later ≤ℤ x → passes x ≡ true → then_passes x ≡ true

-- the next business day where it passes, else the previous one
modified_order : (business passes then_passes : ℤ → Bool) (day later found then_found : ℤ) → IsDayNumber day → IsDayNumber later → day ≤ℤ later → CarriesOn passes then_passes later → kept_or passes (next business day) (previous business day) ≡ Some found → kept_or then_passes (next business later) (previous business later) ≡ Some then_found → found ≤ℤ then_found
modified_order business passes then_passes day later found then_found h k le carries a b =
    kept passes (next business day) (previous business day) found a
    (λ is holds.
    let first = next-is business day found h is in
    kept then_passes (next business later) (previous business later) then_found b
    (λ then_is _.
    let then_first = next-is business later then_found k then_is in
    let from = then_first.1 in
    first.2 then_found then_first.0 (omega (arith, ints)))
    (λ x x_is x_fails then_is.
    let x_first = next-is business later x k x_is in
    let last = previous-is business later then_found k then_is in
    by_lt_z later found
    (λ lt.
    let low = x_first.1 in
    let up = first.2 x x_first.0 (omega (arith, ints)) in
    let down = x_first.2 found first.0 (omega (arith, ints)) in
    let same : x ≡ found = omega (arith, ints) in
    let passed = carries found first.0.0 (omega (arith, ints)) holds in
    let failed = ap then_passes (sym same) ∙ x_fails in
    absurd (cc))
    (λ ge. last.2 found first.0 ge)))
    (λ _ _ _ is.
    let last = previous-is business day found h is in
    let to = last.1 in
    kept then_passes (next business later) (previous business later) then_found b
    (λ then_is _. let then_from = (next-is business later then_found k then_is).1 in omega (arith, ints))
    (λ _ _ _ then_is. (previous-is business later then_found k then_is).2 found last.0 (omega (arith, ints))))

abbrev CarriesBack : (ℤ → Bool) → (ℤ → Bool) → ℤ → Type 0
CarriesBack passes then_passes day =
    (x : ℤ) → IsDayNumber x → x ≤ℤ day → then_passes x ≡ true → passes x ≡ true

-- the previous business day where it passes, else the next one
preceding_order : (business passes then_passes : ℤ → Bool) (day later found then_found : ℤ) → IsDayNumber day → IsDayNumber later → day ≤ℤ later → CarriesBack passes then_passes day → kept_or passes (previous business day) (next business day) ≡ Some found → kept_or then_passes (previous business later) (next business later) ≡ Some then_found → found ≤ℤ then_found
preceding_order business passes then_passes day later found then_found h k le carries a b =
    kept then_passes (previous business later) (next business later) then_found b
    (λ then_is holds.
    let then_last = previous-is business later then_found k then_is in
    kept passes (previous business day) (next business day) found a
    (λ is _.
    let last = previous-is business day found h is in
    let to = last.1 in
    then_last.2 found last.0 (omega (arith, ints)))
    (λ x x_is x_fails is.
    let x_last = previous-is business day x h x_is in
    let first = next-is business day found h is in
    by_lt_z then_found day
    (λ lt.
    let high = x_last.1 in
    let up = then_last.2 x x_last.0 (omega (arith, ints)) in
    let down = x_last.2 then_found then_last.0 (omega (arith, ints)) in
    let same : x ≡ then_found = omega (arith, ints) in
    let passed = carries then_found then_last.0.0 (omega (arith, ints)) holds in
    let failed = ap passes (sym same) ∙ x_fails in
    absurd (cc))
    (λ ge. first.2 then_found then_last.0 ge)))
    (λ _ _ _ then_is.
    let then_first = next-is business later then_found k then_is in
    let then_from = then_first.1 in
    kept passes (previous business day) (next business day) found a
    (λ is _. let to = (previous-is business day found h is).1 in omega (arith, ints))
    (λ _ _ _ is. (next-is business day found h is).2 then_found then_first.0 (omega (arith, ints))))

-- a day between a day and one of its month is of the month
month_carries : (day later : ℤ) → IsDayNumber day → IsDayNumber later → day ≤ℤ later → CarriesOn (is_same_month day) (is_same_month later) later
month_carries day later h k le x is from e =
    let own = (one_month_is_year_and_month day x h is).0 e in
    let up = last-after x is in
    let same = last-same day x own in
    let between = month-between day later h le (omega (arith, ints)) in
    (one_month_is_year_and_month later x k is).1 (own.0 ∙ sym between.0, own.1 ∙ sym between.1)

month_carries_back : (day later : ℤ) → IsDayNumber day → IsDayNumber later → day ≤ℤ later → CarriesBack (is_same_month day) (is_same_month later) day
month_carries_back day later h k le x is to e =
    let own = (one_month_is_year_and_month later x k is).0 e in
    let up = last-after later k in
    let same = last-same later x own in
    let between = month-between x day is to (omega (arith, ints)) in
    (one_month_is_year_and_month day x h is).1 (sym between.0, sym between.1)

both_true : (a b : Bool) → (a && b) ≡ true → (a ≡ true) × (b ≡ true)
both_true true true e = (refl, refl)
both_true true false e = absurd (cc)
both_true false b e = absurd (cc)

middle_later : (one other place : ℕ) → one ≤ other → not (nat_le one 15 && nat_lt 15 place) ≡ true → not (nat_le other 15 && nat_lt 15 place) ≡ true
middle_later one other place le e = grind arith

half_carries : (day later : ℤ) → IsDayNumber day → IsDayNumber later → day ≤ℤ later → CarriesOn (λ x. is_same_month day x && not (is_across_middle day x)) (λ x. is_same_month later x && not (is_across_middle later x)) later
half_carries day later h k le x is from e =
    let both = both_true (is_same_month day x) (not (is_across_middle day x)) e in
    let own = (one_month_is_year_and_month day x h is).0 both.0 in
    let up = last-after x is in
    let same = last-same day x own in
    let between = month-between day later h le (omega (arith, ints)) in
    let places = place-order day later h k between le in
    ap (λ b. b && not (is_across_middle later x)) (month_carries day later h k le x is from both.0)
    ∙ middle_later (date_of day).day (date_of later).day (date_of x).day places both.1

nearest_order : (business : ℤ → Bool) (day later found then_found : ℤ) → day ≤ℤ later → IsNearest business day found → IsNearest business later then_found → found ≤ℤ then_found
nearest_order business day later found then_found le a b =
    by_lt_z then_found found
    (λ lt.
    let near = a.1 then_found b.0 in
    let far = b.1 found a.0 in
    b.2 found a.0 (omega (arith, ints)))
    (λ ge. ge)

pub adjusted_keeps_order : AdjustedKeepsOrder
unfolding adjusted
adjusted_keeps_order business Unadjusted day later found then_found h k le a b =
    let one = same_Some day found a in
    let other = same_Some later then_found b in
    omega (arith, ints)
adjusted_keeps_order business Following day later found then_found h k le a b =
    let then_first = next-is business later then_found k b in
    let from = then_first.1 in
    (next-is business day found h a).2 then_found then_first.0 (omega (arith, ints))
adjusted_keeps_order business Preceding day later found then_found h k le a b =
    let last = previous-is business day found h a in
    let to = last.1 in
    (previous-is business later then_found k b).2 found last.0 (omega (arith, ints))
adjusted_keeps_order business ModifiedFollowing day later found then_found h k le a b =
    modified_order business (is_same_month day) (is_same_month later) day later found then_found h k le (month_carries day later h k le) a b
adjusted_keeps_order business ModifiedPreceding day later found then_found h k le a b =
    preceding_order business (is_same_month day) (is_same_month later) day later found then_found h k le (month_carries_back day later h k le) a b
adjusted_keeps_order business HalfMonthModifiedFollowing day later found then_found h k le a b =
    modified_order business (λ x. is_same_month day x && not (is_across_middle day x)) (λ x. is_same_month later x && not (is_across_middle later x)) day later found then_found h k le (half_carries day later h k le) a b
adjusted_keeps_order business Nearest day later found then_found h k le a b =
    nearest_order business day later found then_found le ((nearest_is_nearest business day found h).0 a) ((nearest_is_nearest business later then_found k).0 b)

-- from a business day an adjusted day on or after it is on or after it
adjusted-from : (business : ℤ → Bool) (convention : Convention) (day there found : ℤ) → IsBusinessDay business day → IsDayNumber there → day ≤ℤ there → adjusted business convention there ≡ Some found → day ≤ℤ found
adjusted-from business convention day there found is k le e =
    adjusted_keeps_order business convention day there day found is.0 k le (business_days_stay business convention day is) e

month_day-from : (business : ℤ → Bool) (convention : Convention) (month_end : Bool) (day there found : ℤ) → IsBusinessDay business day → IsDayNumber there → month_of day <ℤ month_of there → month_day business convention month_end there ≡ Some found → day ≤ℤ found
month_day-from business convention true day there found is k lt e =
    let last = (last_open_is_greatest business there found k).0 e in
    let date = date_of there in
    let month : month_of found ≡ month_of there = omega (arith, signed_arith, last.1.0, last.1.1) in
    let less = month-order day found is.0 last.0.0 (omega (arith, signed_arith, month, lt)) in
    omega (arith, signed_arith, less)
month_day-from business convention false day there found is k lt e =
    let less = month-order day there is.0 k lt in
    adjusted-from business convention day there found is k (omega (arith, signed_arith, less)) e

months_on-from : (business : ℤ → Bool) (convention : Convention) (month_end : Bool) (day n found : ℤ) → IsBusinessDay business day → pos 0 <ℤ n → months_on business convention month_end day n ≡ Some found → day ≤ℤ found
months_on-from business convention month_end day n found is lt e =
    let kept_end = month_end && is_from day (last_open business day) in
    let step = behind (month_at day n) (month_day business convention kept_end) found e in
    let at = month_at-is day n step.there step.is in
    let range : IsDayNumber step.there = rw at.1 (months_later-in_range day n is.0 at.0) in
    let month = ap month_of at.1 ∙ months_later-month day n is.0 at.0 in
    month_day-from business convention kept_end day step.there found is range (omega (arith, signed_arith, month, lt)) step.then_is

moved-from : (business : ℤ → Bool) (unit : TimeUnit) (convention : Convention) (month_end : Bool) (day n found : ℤ) → IsBusinessDay business day → pos 0 <ℤ n → moved business unit convention month_end day n ≡ Some found → day ≤ℤ found
moved-from business Days convention month_end day (pos zero) found is lt e = absurd (omega (arith, ints))
moved-from business Days convention month_end day (pos (suc n)) found is lt e =
    let less = (after-open business n day found is.0 e).1 in
    omega (arith, ints)
moved-from business Days convention month_end day (negsuc n) found is lt e = absurd (omega (arith, ints))
moved-from business Weeks convention month_end day n found is lt e =
    let step = behind (day_at (day +ℤ n *ℤ pos 7)) (adjusted business convention) found e in
    let at = day_at-found (day +ℤ n *ℤ pos 7) step.there step.is in
    adjusted-from business convention day step.there found is (rw at.1 at.0) (omega (arith, signed_arith, at.1, lt)) step.then_is
moved-from business Months convention month_end day n found is lt e =
    months_on-from business convention month_end day n found is lt e
moved-from business Years convention month_end day n found is lt e =
    months_on-from business convention month_end day (n *ℤ pos 12) found is (omega (arith, signed_arith, lt)) e

pub advanced_is_not_before : AdvancedIsNotBefore
unfolding advanced
advanced_is_not_before business unit convention month_end day n found is le e =
    let decides = Decides-int_eq n (pos 0) in
    let either = λ (b : Bool). if b then adjusted business convention day else moved business unit convention month_end day n in
    by_test (int_eq n (pos 0))
    (λ holds.
    let same = same_Some day found (sym (business_days_stay business convention day is) ∙ sym (ap either holds) ∙ e) in
    omega (arith, ints))
    (λ fails. by_lt_z (pos 0) n
    (λ lt. moved-from business unit convention month_end day n found is lt (sym (ap either fails) ∙ e))
    (λ ge. absurd (not_from_Decides (int_eq n (pos 0)) decides fails (omega (arith, ints)))))
