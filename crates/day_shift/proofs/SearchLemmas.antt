-- The next and the previous business day, a day at a time.
use Rattle.std.proofs.Common.{◌≡◌, ℕ, zero, suc, Bool, true, false, Option, Some, None, refl, true≢false, sym, ap, ◌∙◌, arith, ◌<ℤ◌, ◌≤ℤ◌, ℤ, pos, neg_ℤ, ◌+ℤ◌, ◌-ℤ◌, unsigned_abs}
use Rattle.std.specs.Int.Signed.{le_z}
use Rattle.std.proofs.lemmas.Int.{ints, by_lt_z}
use Rattle.std.specs.Bool.{Decides}
use Rattle.day_number.specs.Day.{IsDayNumber}
use Rattle.holiday_calendars.specs.Stretch.{AreHolidaysAfter, AreHolidaysBefore}
use Rattle.day_shift.specs.Business.{day_at, first_from, last_to, next, previous}

-- the days left from a day on, and up to it
left_from : (day : ℤ) → IsDayNumber day → unsigned_abs (pos 84_006 -ℤ day) ≡ suc (unsigned_abs (pos 84_006 -ℤ (day +ℤ pos 1)))
left_from day h = omega (arith, ints)

left_to : (day : ℤ) → IsDayNumber day → unsigned_abs (day +ℤ pos 25_203) ≡ suc (unsigned_abs (day -ℤ pos 1 +ℤ pos 25_203))
left_to day h = omega (arith, ints)

pub first_from-here : (more : ℕ) (business : ℤ → Bool) (day : ℤ) → business day ≡ true → first_from (suc more) business day ≡ Some day
unfolding first_from
first_from-here more business day e =
    ap (λ b. elim b as (λ _. Option ℤ) [ true ↦ Some day | false ↦ first_from more business (day +ℤ pos 1) ]) e

pub first_from-later : (more : ℕ) (business : ℤ → Bool) (day : ℤ) → business day ≡ false → first_from (suc more) business day ≡ first_from more business (day +ℤ pos 1)
unfolding first_from
first_from-later more business day e =
    ap (λ b. elim b as (λ _. Option ℤ) [ true ↦ Some day | false ↦ first_from more business (day +ℤ pos 1) ]) e

pub first_from-none : (business : ℤ → Bool) (day : ℤ) → first_from 0 business day ≡ None
unfolding first_from
first_from-none business day = refl

pub last_to-none : (business : ℤ → Bool) (day : ℤ) → last_to 0 business day ≡ None
unfolding last_to
last_to-none business day = refl

pub last_to-here : (more : ℕ) (business : ℤ → Bool) (day : ℤ) → business day ≡ true → last_to (suc more) business day ≡ Some day
unfolding last_to
last_to-here more business day e =
    ap (λ b. elim b as (λ _. Option ℤ) [ true ↦ Some day | false ↦ last_to more business (day -ℤ pos 1) ]) e

pub last_to-earlier : (more : ℕ) (business : ℤ → Bool) (day : ℤ) → business day ≡ false → last_to (suc more) business day ≡ last_to more business (day -ℤ pos 1)
unfolding last_to
last_to-earlier more business day e =
    ap (λ b. elim b as (λ _. Option ℤ) [ true ↦ Some day | false ↦ last_to more business (day -ℤ pos 1) ]) e

-- a business day is the next one at or after itself
pub next-here : (business : ℤ → Bool) (day : ℤ) → IsDayNumber day → business day ≡ true → next business day ≡ Some day
unfolding next
next-here business day h e =
    ap (λ n. first_from n business day) (left_from day h) ∙ first_from-here (unsigned_abs (pos 84_006 -ℤ (day +ℤ pos 1))) business day e

-- the next one from a holiday on is that from the day after
pub next-later : (business : ℤ → Bool) (day : ℤ) → IsDayNumber day → business day ≡ false → next business day ≡ next business (day +ℤ pos 1)
unfolding next
next-later business day h e =
    ap (λ n. first_from n business day) (left_from day h) ∙ first_from-later (unsigned_abs (pos 84_006 -ℤ (day +ℤ pos 1))) business day e

-- past the range there is none
pub next-past : (business : ℤ → Bool) → next business (pos 84_006) ≡ None
unfolding next first_from
next-past business = refl

pub previous-here : (business : ℤ → Bool) (day : ℤ) → IsDayNumber day → business day ≡ true → previous business day ≡ Some day
unfolding previous
previous-here business day h e =
    ap (λ n. last_to n business day) (left_to day h) ∙ last_to-here (unsigned_abs (day -ℤ pos 1 +ℤ pos 25_203)) business day e

pub previous-earlier : (business : ℤ → Bool) (day : ℤ) → IsDayNumber day → business day ≡ false → previous business day ≡ previous business (day -ℤ pos 1)
unfolding previous
previous-earlier business day h e =
    ap (λ n. last_to n business day) (left_to day h) ∙ last_to-earlier (unsigned_abs (day -ℤ pos 1 +ℤ pos 25_203)) business day e

pub previous-past : (business : ℤ → Bool) → previous business (neg_ℤ (pos 25_203)) ≡ None
unfolding previous last_to
previous-past business = refl

-- the day of a number of the range
pub day_at-in : (number : ℤ) → IsDayNumber number → day_at number ≡ Some number
day_at-in number h = grind (arith, ints)

day_at-below : (number : ℤ) → number <ℤ neg_ℤ (pos 25_202) → day_at number ≡ None
day_at-below number h = grind (arith, ints)

day_at-above : (number : ℤ) → pos 84_005 <ℤ number → day_at number ≡ None
day_at-above number h = grind (arith, ints)

-- and what there is a day of is a number of the range
pub day_at-found : (number found : ℤ) → day_at number ≡ Some found → IsDayNumber number × (found ≡ number)
day_at-found number found e =
    by_lt_z number (neg_ℤ (pos 25_202))
    (λ lt. let none = day_at-below number lt in absurd (cc))
    (λ le. by_lt_z (pos 84_005) number
    (λ lt. let none = day_at-above number lt in absurd (cc))
    (λ high. let is = day_at-in number (le, high) in ((le, high), (cc))))

pub day_at-none : (number : ℤ) → day_at number ≡ None → IsDayNumber number → ⊥
day_at-none number e h = let is = day_at-in number h in cc

-- from the day after the last of the range on there is none
pub next-after_last : (business : ℤ → Bool) (day : ℤ) → IsDayNumber day → day_at (day +ℤ pos 1) ≡ None → next business (day +ℤ pos 1) ≡ None
next-after_last business day h none =
    let past : day +ℤ pos 1 ≡ pos 84_006 =
    by_lt_z day (pos 84_005)
    (λ lt. absurd (day_at-none (day +ℤ pos 1) none (omega (arith, ints), omega (arith, ints))))
    (λ le. omega (arith, ints)) in
    ap (next business) past ∙ next-past business

-- up to the day before the first of the range there is none
pub previous-before_first : (business : ℤ → Bool) (day : ℤ) → IsDayNumber day → day_at (day -ℤ pos 1) ≡ None → previous business (day -ℤ pos 1) ≡ None
previous-before_first business day h none =
    let past : day -ℤ pos 1 ≡ neg_ℤ (pos 25_203) =
    by_lt_z (neg_ℤ (pos 25_202)) day
    (λ lt. absurd (day_at-none (day -ℤ pos 1) none (omega (arith, ints), omega (arith, ints))))
    (λ le. omega (arith, ints)) in
    ap (previous business) past ∙ previous-past business

-- the test of `≤`
pub le_z-true : (a b : ℤ) → a ≤ℤ b → le_z a b ≡ true
le_z-true a b h = grind (arith, ints)

pub le_z-false : (a b : ℤ) → b <ℤ a → le_z a b ≡ false
le_z-false a b h = grind (arith, ints)

pub le_z-decides : (a b : ℤ) → Decides (le_z a b) (a ≤ℤ b)
le_z-decides a b = (
  λ e. by_lt_z b a (λ lt. absurd (true≢false (sym e ∙ le_z-false a b lt))) (λ le. le),
  λ le. le_z-true a b le,
)

-- where a number of days after a holiday are holidays, the next business day is that from the day behind them
next-skipped : (k : ℕ) (business : ℤ → Bool) (day : ℤ) → IsDayNumber day → IsDayNumber (day +ℤ pos k) → business day ≡ false → AreHolidaysAfter business day (day +ℤ pos k) → next business day ≡ next business (day +ℤ pos k +ℤ pos 1)
next-skipped zero business day h there e closed =
    let here : day ≡ day +ℤ pos 0 = omega (arith, ints) in
    next-later business day h e ∙ ap (λ z. next business (z +ℤ pos 1)) here
next-skipped (suc k) business day h there e closed =
    let within : IsDayNumber (day +ℤ pos k) = (omega (arith, ints), omega (arith, ints)) in
    let before = next-skipped k business day h within e (λ x low high. closed x low (omega (arith, ints))) in
    let here : day +ℤ pos k +ℤ pos 1 ≡ day +ℤ pos (suc k) = omega (arith, ints) in
    let holiday = closed (day +ℤ pos (suc k)) (omega (arith, ints)) (omega (arith, ints)) in
    before ∙ ap (next business) here ∙ next-later business (day +ℤ pos (suc k)) there holiday

pub next-behind : (business : ℤ → Bool) (day last : ℤ) → IsDayNumber day → IsDayNumber last → business day ≡ false → day ≤ℤ last → AreHolidaysAfter business day last → next business day ≡ next business (last +ℤ pos 1)
next-behind business day last h there e order closed =
    let k = unsigned_abs (last -ℤ day) in
    let is : day +ℤ pos k ≡ last = omega (arith, ints) in
    let within : IsDayNumber (day +ℤ pos k) = (omega (arith, ints), omega (arith, ints)) in
    next-skipped k business day h within e (λ x low high. closed x low (omega (arith, ints))) ∙ ap (λ z. next business (z +ℤ pos 1)) is

previous-skipped : (k : ℕ) (business : ℤ → Bool) (day : ℤ) → IsDayNumber day → IsDayNumber (day -ℤ pos k) → business day ≡ false → AreHolidaysBefore business day (day -ℤ pos k) → previous business day ≡ previous business (day -ℤ pos k -ℤ pos 1)
previous-skipped zero business day h there e closed =
    let here : day ≡ day -ℤ pos 0 = omega (arith, ints) in
    previous-earlier business day h e ∙ ap (λ z. previous business (z -ℤ pos 1)) here
previous-skipped (suc k) business day h there e closed =
    let within : IsDayNumber (day -ℤ pos k) = (omega (arith, ints), omega (arith, ints)) in
    let before = previous-skipped k business day h within e (λ x low high. closed x low (omega (arith, ints))) in
    let here : day -ℤ pos k -ℤ pos 1 ≡ day -ℤ pos (suc k) = omega (arith, ints) in
    let holiday = closed (day -ℤ pos (suc k)) (omega (arith, ints)) (omega (arith, ints)) in
    before ∙ ap (previous business) here ∙ previous-earlier business (day -ℤ pos (suc k)) there holiday

pub previous-behind : (business : ℤ → Bool) (day first : ℤ) → IsDayNumber day → IsDayNumber first → business day ≡ false → first ≤ℤ day → AreHolidaysBefore business day first → previous business day ≡ previous business (first -ℤ pos 1)
previous-behind business day first h there e order closed =
    let k = unsigned_abs (day -ℤ first) in
    let is : day -ℤ pos k ≡ first = omega (arith, ints) in
    let within : IsDayNumber (day -ℤ pos k) = (omega (arith, ints), omega (arith, ints)) in
    previous-skipped k business day h within e (λ x low high. closed x low (omega (arith, ints))) ∙ ap (λ z. previous business (z -ℤ pos 1)) is
