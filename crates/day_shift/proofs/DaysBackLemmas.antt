-- n business days before a day is the day from which on exactly n business days lie before the day.
use Rattle.std.proofs.Common.{◌≡◌, ℕ, zero, suc, ◌+◌, Bool, true, if◌then◌else◌, Some, None, refl, sym, ap, ◌∙◌, arith, ◌<ℤ◌, ◌≤ℤ◌, ℤ, pos, neg_ℤ, ◌+ℤ◌, ◌-ℤ◌, unsigned_abs}
use Rattle.std.proofs.lemmas.Int.{ints, by_lt_z}
use Rattle.day_number.specs.Day.{IsDayNumber}
use Rattle.day_shift.specs.Business.{previous, IsBusinessDay, IsPrevious}
use Rattle.holiday_calendars.specs.Counted.{business_days, business_days_from}
use Rattle.day_shift.specs.Advanced.{and_then, days_before, DaysBeforeAreCounted}
use Rattle.holiday_calendars.proofs.CountLemmas.{count-more, count-none}
use Rattle.day_shift.proofs.SearchLemmas.{previous-past}
use Rattle.day_shift.proofs.SetLemmas.{by_test, by_option, previous-is, previous_is_greatest}

-- a step in front
before-front : (business : ℤ → Bool) (day : ℤ) (n : ℕ) → days_before (suc n) business day ≡ and_then (previous business (day -ℤ pos 1)) (days_before n business)
unfolding days_before
before-front business day n = refl

before-none : (business : ℤ → Bool) (day : ℤ) → days_before 0 business day ≡ Some day
unfolding days_before
before-none business day = refl

before-first : (business : ℤ → Bool) (day first : ℤ) (n : ℕ) → previous business (day -ℤ pos 1) ≡ Some first → days_before (suc n) business day ≡ days_before n business first
before-first business day first n e =
    before-front business day n ∙ ap (λ o. and_then o (days_before n business)) e

before-stop : (business : ℤ → Bool) (day : ℤ) (n : ℕ) → previous business (day -ℤ pos 1) ≡ None → days_before (suc n) business day ≡ None
before-stop business day n e =
    before-front business day n ∙ ap (λ o. and_then o (days_before n business)) e

-- a step at the end
before-last : (business : ℤ → Bool) (n : ℕ) (day at found : ℤ) → days_before n business day ≡ Some at → previous business (at -ℤ pos 1) ≡ Some found → days_before (suc n) business day ≡ Some found
before-last business zero day at found e h =
    let own = before-none business day in
    let same : day ≡ at = cc in
    let here : previous business (day -ℤ pos 1) ≡ Some found = rw same h in
    before-first business day found 0 here ∙ before-none business found
before-last business (suc n) day at found e h =
    by_option (previous business (day -ℤ pos 1))
    (λ none. let stop = before-stop business day n none in absurd (cc))
    (λ first f.
    let rest = before-first business day first n f in
    before-first business day first (suc n) f ∙ before-last business n first at found (sym rest ∙ e) h)

-- the previous business day before a day of the range
previous_before : (business : ℤ → Bool) (day first : ℤ) → IsDayNumber day → previous business (day -ℤ pos 1) ≡ Some first → IsPrevious business (day -ℤ pos 1) first
previous_before business day first h e =
    by_lt_z (neg_ℤ (pos 25_202)) day
    (λ lt. previous-is business (day -ℤ pos 1) first (omega (arith, ints), omega (arith, ints)) e)
    (λ ge.
    let past : day -ℤ pos 1 ≡ neg_ℤ (pos 25_203) = omega (arith, ints) in
    let none = ap (previous business) past ∙ previous-past business in
    absurd (cc))

-- where some steps lead
before-on : (business : ℤ → Bool) (n : ℕ) (day found : ℤ) → IsDayNumber day → days_before n business day ≡ Some found → (found ≤ℤ day) × (IsBusinessDay business day → IsBusinessDay business found)
before-on business zero day found h e =
    let own = before-none business day in
    let same : day ≡ found = cc in
    (omega (arith, ints), λ is. rw same at is)
before-on business (suc n) day found h e =
    by_option (previous business (day -ℤ pos 1))
    (λ none. let stop = before-stop business day n none in absurd (cc))
    (λ first f.
    let is = previous_before business day first h f in
    let rest = before-on business n first found is.0.0 (sym (before-first business day first n f) ∙ e) in
    let step = is.1 in
    let on = rest.0 in
    (omega (arith, ints), λ own. rest.1 is.0))

-- is an earlier business day
pub before-open : (business : ℤ → Bool) (n : ℕ) (day found : ℤ) → IsDayNumber day → days_before (suc n) business day ≡ Some found → IsBusinessDay business found × (found <ℤ day)
before-open business n day found h e =
    by_option (previous business (day -ℤ pos 1))
    (λ none. let stop = before-stop business day n none in absurd (cc))
    (λ first f.
    let is = previous_before business day first h f in
    let rest = before-on business n first found is.0.0 (sym (before-first business day first n f) ∙ e) in
    let step = is.1 in
    let on = rest.0 in
    (rest.1 is.0, omega (arith, ints)))

-- and other numbers of steps lead elsewhere
before-same : (business : ℤ → Bool) (m n : ℕ) (day found : ℤ) → IsDayNumber day → days_before m business day ≡ Some found → days_before n business day ≡ Some found → m ≡ n
before-same business zero zero day found h d e = refl
before-same business zero (suc n) day found h d e =
    let own = before-none business day in
    let same : day ≡ found = cc in
    let earlier = (before-open business n day found h e).1 in
    absurd (omega (arith, ints))
before-same business (suc m) zero day found h d e =
    let own = before-none business day in
    let same : day ≡ found = cc in
    let earlier = (before-open business m day found h d).1 in
    absurd (omega (arith, ints))
before-same business (suc m) (suc n) day found h d e =
    by_option (previous business (day -ℤ pos 1))
    (λ none. let stop = before-stop business day n none in absurd (cc))
    (λ first f.
    let is = previous_before business day first h f in
    ap suc (before-same business m n first found is.0.0 (sym (before-first business day first m f) ∙ d) (sym (before-first business day first n f) ∙ e)))

abbrev one_if : Bool → ℕ
one_if b = if b then 1 else 0

-- the count with its first day apart
count-front : (business : ℤ → Bool) (k : ℕ) (from : ℤ) → business_days (suc k) business from ≡ (if business from then 1 else 0) + business_days k business (from +ℤ pos 1)
count-front business zero from =
    let more = count-more business 0 from in
    let own : from +ℤ pos 0 ≡ from = omega (arith, ints) in
    let same = ap (λ x. one_if (business x)) own in
    let none = count-none business from in
    let none_after = count-none business (from +ℤ pos 1) in
    omega arith
count-front business (suc k) from =
    let whole = count-more business (suc k) from in
    let rest = count-more business k (from +ℤ pos 1) in
    let front = count-front business k from in
    let own : from +ℤ pos (suc k) ≡ from +ℤ pos 1 +ℤ pos k = omega (arith, ints) in
    let same = ap (λ x. one_if (business x)) own in
    omega arith

-- as many steps as there are business days among the k days before a day lead to the first of these, or leave the day
record Walk (business : ℤ → Bool) (day : ℤ) (k : ℕ) : Type 0 where
  at : ℤ
  reached : days_before (business_days k business (day -ℤ pos k)) business day ≡ Some at
  low : (day -ℤ pos k) ≤ℤ at
  high : at ≤ℤ day
  first : (x : ℤ) → business x ≡ true → x <ℤ at → (day -ℤ pos k) ≤ℤ x → ⊥

walk : (business : ℤ → Bool) (day : ℤ) (k : ℕ) → IsDayNumber day → neg_ℤ (pos 25_202) ≤ℤ (day -ℤ pos k) → Walk business day k
walk business day zero h room = record {
  at = day;
  reached = ap (λ n. days_before n business day) (count-none business (day -ℤ pos 0)) ∙ before-none business day;
  low = omega (arith, ints);
  high = omega (arith, ints);
  first = λ x is lt le. omega (arith, ints);
}
walk business day (suc k) h room =
    let w = walk business day k h (omega (arith, ints)) in
    let here = day -ℤ pos (suc k) in
    let after : here +ℤ pos 1 ≡ day -ℤ pos k = omega (arith, ints) in
    let rest = ap (λ x. business_days k business x) after in
    let more = count-front business k here in
    let low = w.low in
    let high = w.high in
    by_test (business here)
    (λ holds.
    let count = ap (λ b. (if b then 1 else 0) + business_days k business (here +ℤ pos 1)) holds in
    let one : business_days (suc k) business here ≡ suc (business_days k business (day -ℤ pos k)) = omega arith in
    let greatest = λ (x : ℤ) (is : IsBusinessDay business x) (le : x ≤ℤ (w.at -ℤ pos 1)). by_lt_z here x (λ lt. absurd (w.first x is.1 (omega (arith, ints)) (omega (arith, ints)))) (λ ge. ge) in
    let is_previous : IsPrevious business (w.at -ℤ pos 1) here = (((omega (arith, ints), omega (arith, ints)), holds), omega (arith, ints), greatest) in
    let step = (previous_is_greatest business (w.at -ℤ pos 1) here (omega (arith, ints), omega (arith, ints))).1 is_previous in
    record {
      at = here;
      reached = ap (λ n. days_before n business day) one ∙ before-last business (business_days k business (day -ℤ pos k)) day w.at here w.reached step;
      low = omega (arith, ints);
      high = omega (arith, ints);
      first = λ x is lt le. omega (arith, ints);
    })
    (λ fails.
    let count = ap (λ b. (if b then 1 else 0) + business_days k business (here +ℤ pos 1)) fails in
    let same : business_days (suc k) business here ≡ business_days k business (day -ℤ pos k) = omega arith in
    record {
      at = w.at;
      reached = ap (λ n. days_before n business day) same ∙ w.reached;
      low = omega (arith, ints);
      high = high;
      first = λ x is lt le. by_lt_z here x (λ more_than. w.first x is lt (omega (arith, ints)))
          (λ ge. let e : x ≡ here = omega (arith, ints) in let f = ap business e in cc);
    })

-- where the business days from a business day on lead: to itself
counted-at : (business : ℤ → Bool) (day found : ℤ) → IsDayNumber day → IsBusinessDay business found → found <ℤ day → days_before (business_days_from business found day) business day ≡ Some found
counted-at business day found h is lt =
    let k = unsigned_abs (day -ℤ found) in
    let down : day -ℤ pos k ≡ found = omega (arith, ints) in
    let w = walk business day k h (omega (arith, ints)) in
    let low = w.low in
    let at : w.at ≡ found = by_lt_z found w.at (λ more_than. absurd (w.first found is.1 more_than (omega (arith, ints)))) (λ ge. omega (arith, ints)) in
    ap (λ x. days_before (business_days k business x) business day) (sym down) ∙ w.reached ∙ ap Some at

pub days_before_are_counted : DaysBeforeAreCounted
days_before_are_counted business zero day found h some = absurd (omega arith)
days_before_are_counted business (suc n) day found h some = (
  λ e.
      let is = before-open business n day found h e in
      (is.0, is.1, before-same business (business_days_from business found day) (suc n) day found h (counted-at business day found h is.0 is.1) e),
  λ is. ap (λ c. days_before c business day) (sym is.2) ∙ counted-at business day found h is.0 is.1,
)
