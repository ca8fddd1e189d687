-- n business days after a day is the day with exactly n business days behind it.
use Rattle.std.proofs.Common.{◌≡◌, ℕ, zero, suc, ◌+◌, Bool, true, if◌then◌else◌, Some, None, refl, sym, ap, ◌∙◌, arith, ◌<ℤ◌, ◌≤ℤ◌, ℤ, pos, ◌+ℤ◌, ◌-ℤ◌, unsigned_abs}
use Rattle.std.proofs.lemmas.Int.{ints, by_lt_z}
use Rattle.day_number.specs.Day.{IsDayNumber}
use Rattle.day_shift.specs.Business.{next, IsBusinessDay, IsNext}
use Rattle.holiday_calendars.specs.Counted.{business_days, business_days_from}
use Rattle.day_shift.specs.Advanced.{and_then, days_after, DaysAfterAreCounted}
use Rattle.holiday_calendars.proofs.CountLemmas.{count-more, count-none}
use Rattle.day_shift.proofs.SearchLemmas.{next-past}
use Rattle.day_shift.proofs.SetLemmas.{by_test, by_option, next-is, next_is_least}

-- a step in front
after-front : (business : ℤ → Bool) (day : ℤ) (n : ℕ) → days_after (suc n) business day ≡ and_then (next business (day +ℤ pos 1)) (days_after n business)
unfolding days_after
after-front business day n = refl

after-none : (business : ℤ → Bool) (day : ℤ) → days_after 0 business day ≡ Some day
unfolding days_after
after-none business day = refl

after-first : (business : ℤ → Bool) (day first : ℤ) (n : ℕ) → next business (day +ℤ pos 1) ≡ Some first → days_after (suc n) business day ≡ days_after n business first
after-first business day first n e =
    after-front business day n ∙ ap (λ o. and_then o (days_after n business)) e

after-stop : (business : ℤ → Bool) (day : ℤ) (n : ℕ) → next business (day +ℤ pos 1) ≡ None → days_after (suc n) business day ≡ None
after-stop business day n e =
    after-front business day n ∙ ap (λ o. and_then o (days_after n business)) e

-- a step at the end
after-last : (business : ℤ → Bool) (n : ℕ) (day at found : ℤ) → days_after n business day ≡ Some at → next business (at +ℤ pos 1) ≡ Some found → days_after (suc n) business day ≡ Some found
after-last business zero day at found e h =
    let own = after-none business day in
    let same : day ≡ at = cc in
    let here : next business (day +ℤ pos 1) ≡ Some found = rw same h in
    after-first business day found 0 here ∙ after-none business found
after-last business (suc n) day at found e h =
    by_option (next business (day +ℤ pos 1))
    (λ none. let stop = after-stop business day n none in absurd (cc))
    (λ first f.
    let rest = after-first business day first n f in
    after-first business day first (suc n) f ∙ after-last business n first at found (sym rest ∙ e) h)

-- the next business day after a day of the range
next_after : (business : ℤ → Bool) (day first : ℤ) → IsDayNumber day → next business (day +ℤ pos 1) ≡ Some first → IsNext business (day +ℤ pos 1) first
next_after business day first h e =
    by_lt_z day (pos 84_005)
    (λ lt. next-is business (day +ℤ pos 1) first (omega (arith, ints), omega (arith, ints)) e)
    (λ ge.
    let past : day +ℤ pos 1 ≡ pos 84_006 = omega (arith, ints) in
    let none = ap (next business) past ∙ next-past business in
    absurd (cc))

-- where some steps lead
after-on : (business : ℤ → Bool) (n : ℕ) (day found : ℤ) → IsDayNumber day → days_after n business day ≡ Some found → (day ≤ℤ found) × (IsBusinessDay business day → IsBusinessDay business found)
after-on business zero day found h e =
    let own = after-none business day in
    let same : day ≡ found = cc in
    (omega (arith, ints), λ is. rw same at is)
after-on business (suc n) day found h e =
    by_option (next business (day +ℤ pos 1))
    (λ none. let stop = after-stop business day n none in absurd (cc))
    (λ first f.
    let is = next_after business day first h f in
    let rest = after-on business n first found is.0.0 (sym (after-first business day first n f) ∙ e) in
    let step = is.1 in
    let on = rest.0 in
    (omega (arith, ints), λ own. rest.1 is.0))

-- is a later business day
pub after-open : (business : ℤ → Bool) (n : ℕ) (day found : ℤ) → IsDayNumber day → days_after (suc n) business day ≡ Some found → IsBusinessDay business found × (day <ℤ found)
after-open business n day found h e =
    by_option (next business (day +ℤ pos 1))
    (λ none. let stop = after-stop business day n none in absurd (cc))
    (λ first f.
    let is = next_after business day first h f in
    let rest = after-on business n first found is.0.0 (sym (after-first business day first n f) ∙ e) in
    let step = is.1 in
    let on = rest.0 in
    (rest.1 is.0, omega (arith, ints)))

-- and other numbers of steps lead elsewhere
after-same : (business : ℤ → Bool) (m n : ℕ) (day found : ℤ) → IsDayNumber day → days_after m business day ≡ Some found → days_after n business day ≡ Some found → m ≡ n
after-same business zero zero day found h d e = refl
after-same business zero (suc n) day found h d e =
    let own = after-none business day in
    let same : day ≡ found = cc in
    let later = (after-open business n day found h e).1 in
    absurd (omega (arith, ints))
after-same business (suc m) zero day found h d e =
    let own = after-none business day in
    let same : day ≡ found = cc in
    let later = (after-open business m day found h d).1 in
    absurd (omega (arith, ints))
after-same business (suc m) (suc n) day found h d e =
    by_option (next business (day +ℤ pos 1))
    (λ none. let stop = after-stop business day n none in absurd (cc))
    (λ first f.
    let is = next_after business day first h f in
    ap suc (after-same business m n first found is.0.0 (sym (after-first business day first m f) ∙ d) (sym (after-first business day first n f) ∙ e)))

-- as many steps as there are business days among the k days after a day lead to the last of these, or leave the day
record Walk (business : ℤ → Bool) (day : ℤ) (k : ℕ) : Type 0 where
  at : ℤ
  reached : days_after (business_days k business (day +ℤ pos 1)) business day ≡ Some at
  low : day ≤ℤ at
  high : at ≤ℤ (day +ℤ pos k)
  last : (x : ℤ) → business x ≡ true → at <ℤ x → x ≤ℤ (day +ℤ pos k) → ⊥

walk : (business : ℤ → Bool) (day : ℤ) (k : ℕ) → IsDayNumber day → (day +ℤ pos k) ≤ℤ pos 84_005 → Walk business day k
walk business day zero h room = record {
  at = day;
  reached = ap (λ n. days_after n business day) (count-none business (day +ℤ pos 1)) ∙ after-none business day;
  low = omega (arith, ints);
  high = omega (arith, ints);
  last = λ x is lt le. omega (arith, ints);
}
walk business day (suc k) h room =
    let w = walk business day k h (omega (arith, ints)) in
    let here = day +ℤ pos 1 +ℤ pos k in
    let more = count-more business k (day +ℤ pos 1) in
    let low = w.low in
    let high = w.high in
    by_test (business here)
    (λ holds.
    let count = more ∙ ap (λ b. business_days k business (day +ℤ pos 1) + (if b then 1 else 0)) holds in
    let one : business_days (suc k) business (day +ℤ pos 1) ≡ suc (business_days k business (day +ℤ pos 1)) = omega arith in
    let least = λ (x : ℤ) (is : IsBusinessDay business x) (le : (w.at +ℤ pos 1) ≤ℤ x). by_lt_z x here (λ lt. absurd (w.last x is.1 (omega (arith, ints)) (omega (arith, ints)))) (λ ge. ge) in
    let is_next : IsNext business (w.at +ℤ pos 1) here = (((omega (arith, ints), omega (arith, ints)), holds), omega (arith, ints), least) in
    let step = (next_is_least business (w.at +ℤ pos 1) here (omega (arith, ints), omega (arith, ints))).1 is_next in
    record {
      at = here;
      reached = ap (λ n. days_after n business day) one ∙ after-last business (business_days k business (day +ℤ pos 1)) day w.at here w.reached step;
      low = omega (arith, ints);
      high = omega (arith, ints);
      last = λ x is lt le. omega (arith, ints);
    })
    (λ fails.
    let count = more ∙ ap (λ b. business_days k business (day +ℤ pos 1) + (if b then 1 else 0)) fails in
    let same : business_days (suc k) business (day +ℤ pos 1) ≡ business_days k business (day +ℤ pos 1) = omega arith in
    record {
      at = w.at;
      reached = ap (λ n. days_after n business day) same ∙ w.reached;
      low = low;
      high = omega (arith, ints);
      last = λ x is lt le. by_lt_z x here (λ less. w.last x is lt (omega (arith, ints)))
          (λ ge. let e : x ≡ here = omega (arith, ints) in let f = ap business e in cc);
    })

-- where the business days up to a business day lead: to itself
counted-at : (business : ℤ → Bool) (day found : ℤ) → IsDayNumber day → IsBusinessDay business found → day <ℤ found → days_after (business_days_from business (day +ℤ pos 1) (found +ℤ pos 1)) business day ≡ Some found
counted-at business day found h is lt =
    let k = unsigned_abs (found +ℤ pos 1 -ℤ (day +ℤ pos 1)) in
    let up : day +ℤ pos k ≡ found = omega (arith, ints) in
    let w = walk business day k h (omega (arith, ints)) in
    let high = w.high in
    let at : w.at ≡ found = by_lt_z w.at found (λ less. absurd (w.last found is.1 less (omega (arith, ints)))) (λ ge. omega (arith, ints)) in
    w.reached ∙ ap Some at

pub days_after_are_counted : DaysAfterAreCounted
days_after_are_counted business zero day found h some = absurd (omega arith)
days_after_are_counted business (suc n) day found h some = (
  λ e.
      let is = after-open business n day found h e in
      (is.0, is.1, after-same business (business_days_from business (day +ℤ pos 1) (found +ℤ pos 1)) (suc n) day found h (counted-at business day found h is.0 is.1) e),
  λ is. ap (λ c. days_after c business day) (sym is.2) ∙ counted-at business day found h is.0 is.1,
)
