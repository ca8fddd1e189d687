-- Business days on, one at a time.
use Rattle.std.proofs.Common.{◌≡◌, ℕ, suc, Bool, Some, None, ap, ◌∙◌, ℤ, pos, ◌+ℤ◌, ◌-ℤ◌}
use Rattle.day_shift.specs.Business.{next, previous}
use Rattle.day_shift.specs.Advanced.{and_then, days_after, days_before}

pub days_after-none_left : (business : ℤ → Bool) (day : ℤ) (n : ℕ) → n ≡ 0 → days_after n business day ≡ Some day
unfolding days_after
days_after-none_left business day n e = ap (λ k. days_after k business day) e

pub days_after-step : (business : ℤ → Bool) (day other : ℤ) (n left : ℕ) → n ≡ suc left → next business (day +ℤ pos 1) ≡ Some other → days_after n business day ≡ days_after left business other
unfolding days_after
days_after-step business day other n left e h =
    ap (λ k. days_after k business day) e ∙ ap (λ o. and_then o (days_after left business)) h

pub days_after-stop : (business : ℤ → Bool) (day : ℤ) (n left : ℕ) → n ≡ suc left → next business (day +ℤ pos 1) ≡ None → days_after n business day ≡ None
unfolding days_after
days_after-stop business day n left e h =
    ap (λ k. days_after k business day) e ∙ ap (λ o. and_then o (days_after left business)) h

pub days_before-none_left : (business : ℤ → Bool) (day : ℤ) (n : ℕ) → n ≡ 0 → days_before n business day ≡ Some day
unfolding days_before
days_before-none_left business day n e = ap (λ k. days_before k business day) e

pub days_before-step : (business : ℤ → Bool) (day other : ℤ) (n left : ℕ) → n ≡ suc left → previous business (day -ℤ pos 1) ≡ Some other → days_before n business day ≡ days_before left business other
unfolding days_before
days_before-step business day other n left e h =
    ap (λ k. days_before k business day) e ∙ ap (λ o. and_then o (days_before left business)) h

pub days_before-stop : (business : ℤ → Bool) (day : ℤ) (n left : ℕ) → n ≡ suc left → previous business (day -ℤ pos 1) ≡ None → days_before n business day ≡ None
unfolding days_before
days_before-stop business day n left e h =
    ap (λ k. days_before k business day) e ∙ ap (λ o. and_then o (days_before left business)) h
