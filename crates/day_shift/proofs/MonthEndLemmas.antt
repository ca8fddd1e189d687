-- The last business day of a month is its greatest one.
use Rattle.std.proofs.Common.{◌≡◌, Bool, if◌then◌else◌, Option, Some, None, refl, true≢false, sym, ap, ◌∙◌, arith, ◌≤ℤ◌, ℤ}
use Rattle.std.proofs.lemmas.Int.{ints}
use Rattle.std.proofs.lemmas.Option.{none-some, same_Some}
use Rattle.std.specs.Bool.{Decides}
use Rattle.day_number.specs.Day.{IsDayNumber}
use Rattle.day_number.specs.Shift.{last_of_month}
use Rattle.day_shift.specs.Business.{previous, IsBusinessDay}
use Rattle.day_shift.specs.Month.{IsInMonth, is_same_month}
use Rattle.day_shift.specs.Adjusted.{kept_or}
use Rattle.day_shift.specs.MonthEnd.{IsLastOpen, IsAtMonthEnd, last_open, is_from, LastOpenIsGreatest, NoLastOpenIsNoBusinessDay}
use Rattle.day_shift.proofs.FoundLemmas.{Names}
use Rattle.day_shift.proofs.InMonthLemmas.{last-in_range, last-after, last-same, month-between, one_month_is_year_and_month}
use Rattle.day_shift.proofs.SearchLemmas.{le_z-decides}
use Rattle.day_shift.proofs.SetLemmas.{by_test, by_option, previous-is, previous-no}

-- a day is not after the last of the month that it is in
up_to_last : (day x : ℤ) → IsDayNumber x → IsInMonth day x → x ≤ℤ last_of_month day
up_to_last day x h is =
    let same = last-same day x is in
    let up_to = last-after x h in
    omega (arith, ints)

-- what the value is, and what it is not
record Found (business : ℤ → Bool) (day : ℤ) : Type 0 where
  is : (x : ℤ) → last_open business day ≡ Some x → IsLastOpen business day x
  is_none : last_open business day ≡ None → (x : ℤ) → IsBusinessDay business x → IsInMonth day x → ⊥

last_open-found : (business : ℤ → Bool) (day : ℤ) → IsDayNumber day → Found business day
last_open-found business day h =
    let last = last_of_month day in
    let range = last-in_range day h in
    by_option (previous business last)
    (λ no_previous.
    let value : last_open business day ≡ None = ap (λ o. kept_or (is_same_month day) o None) no_previous in
    record {
      is = λ x e. absurd (none-some x (sym value ∙ e));
      is_none = λ _ x is month. previous-no business last x range no_previous is (up_to_last day x is.0 month);
    })
    (λ one e.
    let greatest = previous-is business last one range e in
    let value = ap (λ o. kept_or (is_same_month day) o None) e in
    let same = one_month_is_year_and_month day one h greatest.0.0 in
    by_test (is_same_month day one)
    (λ holds.
    let here : last_open business day ≡ Some one = value ∙ ap (λ b. if b then Some one else None) holds in
    record {
      is = λ x f. rw (sym (same_Some one x (sym here ∙ f))) (greatest.0, same.0 holds, λ y is month. greatest.2 y is (up_to_last day y is.0 month));
      is_none = λ f. absurd (none-some one (sym f ∙ here));
    })
    (λ fails.
    let none : last_open business day ≡ None = value ∙ ap (λ b. if b then Some one else None) fails in
    record {
      is = λ x f. absurd (none-some x (sym none ∙ f));
      is_none = λ _ x is month.
          let between = month-between x one is.0 (greatest.2 x is (up_to_last day x is.0 month)) (let last_is = last-same day x month in let low = greatest.1 in omega (arith, ints)) in
          true≢false (sym (same.1 (between.0 ∙ month.0, between.1 ∙ month.1)) ∙ fails);
    }))

pub last_open_is_greatest : LastOpenIsGreatest
last_open_is_greatest business day found h =
    let value = last_open-found business day h in (
      λ e. value.is found e,
      λ is. by_option (last_open business day)
          (λ none. absurd (value.is_none none found is.0 is.1))
          (λ x e.
          let greatest = value.is x e in
          let same : x ≡ found = omega (arith, ints, greatest.2 found is.0 is.1, is.2 x greatest.0 greatest.1) in
          e ∙ ap Some same),
    )

pub no_last_open_is_no_business_day : NoLastOpenIsNoBusinessDay
no_last_open_is_no_business_day business day h =
    let value = last_open-found business day h in (
      value.is_none,
      λ no. by_option (last_open business day) (λ none. none)
          (λ x e. let is = value.is x e in absurd (no x is.0 is.1)),
    )

-- the test of a day on or after a day of a kind
is_from-decides : (day : ℤ) (value : Option ℤ) (Is : ℤ → Type 0) → Names value Is → Decides (is_from day value) ((x : ℤ) × Is x × (x ≤ℤ day))
is_from-decides day None Is n =
    (λ e. absurd (true≢false (sym e)), λ k. absurd (none-some k.0 ((n k.0).1 k.1)))
is_from-decides day (Some other) Is n =
    let le = le_z-decides other day in (
      λ e. (other, (n other).0 refl, le.0 e),
      λ k. let same = same_Some other k.0 ((n k.0).1 k.1) in let up_to = k.2 in le.1 (omega (arith, ints)),
    )

pub month_end-decides : (business : ℤ → Bool) (day : ℤ) → IsDayNumber day → Decides (is_from day (last_open business day)) (IsAtMonthEnd business day)
month_end-decides business day h =
    is_from-decides day (last_open business day) (IsLastOpen business day) (λ x. last_open_is_greatest business day x h)
