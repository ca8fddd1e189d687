-- Business days counted, one more at a time.
use Rattle.std.proofs.Common.{◌≡◌, ℕ, zero, suc, ◌+◌, ◌≤◌, Bool, true, false, arith, ap, ◌∙◌, refl, ℤ, pos, ◌+ℤ◌, ◌≤ℤ◌, unsigned_abs, if◌then◌else◌}
use Rattle.std.proofs.lemmas.Int.{ints}
use Rattle.holiday_calendars.specs.Counted.{business_days}

pub count-more : (business : ℤ → Bool) (k : ℕ) (from : ℤ) → business_days (suc k) business from ≡ business_days k business from + (if business (from +ℤ pos k) then 1 else 0)
unfolding business_days
count-more business k from = refl

pub count-none : (business : ℤ → Bool) (from : ℤ) → business_days 0 business from ≡ 0
unfolding business_days
count-none business from = refl

business_days-more : (business : ℤ → Bool) (from step : ℤ) → pos 0 ≤ℤ step → business_days (unsigned_abs (step +ℤ pos 1)) business from ≡ business_days (unsigned_abs step) business from + (if business (from +ℤ step) then 1 else 0)
unfolding business_days
business_days-more business from step h =
    let one : unsigned_abs (step +ℤ pos 1) ≡ suc (unsigned_abs step) = omega (arith, ints) in
    let same : pos (unsigned_abs step) ≡ step = omega (arith, ints) in
    ap (λ n. business_days n business from) one ∙ ap (λ z. business_days (unsigned_abs step) business from + (if business (from +ℤ z) then 1 else 0)) same

pub business_days-one_more : (business : ℤ → Bool) (from step : ℤ) → pos 0 ≤ℤ step → business (from +ℤ step) ≡ true → business_days (unsigned_abs (step +ℤ pos 1)) business from ≡ business_days (unsigned_abs step) business from + 1
business_days-one_more business from step h e =
    business_days-more business from step h ∙ ap (λ b. business_days (unsigned_abs step) business from + (if b then 1 else 0)) e

pub business_days-no_more : (business : ℤ → Bool) (from step : ℤ) → pos 0 ≤ℤ step → business (from +ℤ step) ≡ false → business_days (unsigned_abs (step +ℤ pos 1)) business from ≡ business_days (unsigned_abs step) business from + 0
business_days-no_more business from step h e =
    business_days-more business from step h ∙ ap (λ b. business_days (unsigned_abs step) business from + (if b then 1 else 0)) e

one_or_none : (b : Bool) → (if b then 1 else 0) ≤ 1
one_or_none true = omega arith
one_or_none false = omega arith

-- no more business days than days
pub business_days-bound : (n : ℕ) (business : ℤ → Bool) (from : ℤ) → business_days n business from ≤ n
unfolding business_days
business_days-bound zero business from = omega arith
business_days-bound (suc n) business from =
    omega (arith, business_days-bound n business from, one_or_none (business (from +ℤ pos n)))
