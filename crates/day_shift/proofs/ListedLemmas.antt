-- The business days between two days are as many as the list of them has.
use Rattle.std.proofs.Common.{◌≡◌, ◌↔◌, ℕ, zero, suc, ◌+◌, Bool, true, false, if◌then◌else◌, List, [], ◌∷◌, ◌++◌, length, Contains, AllPairs, sym, ap, ◌∙◌, arith, ⊎_elim, ◌<ℤ◌, ◌≤ℤ◌, ℤ, pos, ◌+ℤ◌, ◌-ℤ◌, unsigned_abs}
use Rattle.std.proofs.lemmas.Int.{ints, by_lt_z}
use Rattle.std.proofs.lemmas.List.{length_push}
use Rattle.std.proofs.lemmas.List.Elements.{Contains-get_or, Contains-append_left, Contains-push, Contains-push_cases}
use Rattle.std.proofs.lemmas.List.Quantifiers.{all_pairs_push}
use Rattle.holiday_calendars.specs.Counted.{business_days, CountIsOfTheDays}
use Rattle.holiday_calendars.proofs.CountLemmas.{count-more, count-none}
use Rattle.day_shift.proofs.SetLemmas.{by_test}

-- the list of the business days among k days from a day on
record Listed (business : ℤ → Bool) (from : ℤ) (k : ℕ) : Type 0 where
  days : List ℤ
  rising : AllPairs (λ x y. x <ℤ y) days
  each : (x : ℤ) → Contains days x ↔ ((business x ≡ true) × (from ≤ℤ x) × (x <ℤ (from +ℤ pos k)))
  counted : business_days k business from ≡ length days

one_more : (business : ℤ → Bool) (from : ℤ) (k : ℕ) → Listed business from k → business (from +ℤ pos k) ≡ true → Listed business from (suc k)
one_more business from k l holds =
    let here = from +ℤ pos k in
    let more = count-more business k from in
    let one = ap (λ b. business_days k business from + (if b then 1 else 0)) holds in
    let counted = l.counted in
    let long = length_push l.days here in
    record {
      days = l.days ++ here ∷ [];
      rising = all_pairs_push (λ x y. x <ℤ y) l.days here l.rising (λ i d lt. ((l.each _).0 (Contains-get_or l.days i d lt)).2);
      each = λ x. (
        λ is. ⊎_elim
            (λ old. let in_old = (l.each x).0 old in let low = in_old.1 in let high = in_old.2 in (in_old.0, low, omega (arith, ints)))
            (λ e. (ap business (sym e) ∙ holds, omega (arith, ints), omega (arith, ints)))
            (Contains-push_cases l.days here x is),
        λ is. let low = is.1 in let high = is.2 in by_lt_z x here
            (λ lt. Contains-append_left l.days (here ∷ []) x ((l.each x).1 (is.0, low, lt)))
            (λ ge. let e : x ≡ here = omega (arith, ints) in rw e (Contains-push l.days here)),
      );
      counted = omega arith;
    }

no_more : (business : ℤ → Bool) (from : ℤ) (k : ℕ) → Listed business from k → business (from +ℤ pos k) ≡ false → Listed business from (suc k)
no_more business from k l fails =
    let here = from +ℤ pos k in
    let more = count-more business k from in
    let none = ap (λ b. business_days k business from + (if b then 1 else 0)) fails in
    let counted = l.counted in
    record {
      days = l.days;
      rising = l.rising;
      each = λ x. (
        λ is. let old = (l.each x).0 is in let high = old.2 in (old.0, old.1, omega (arith, ints)),
        λ is. let low = is.1 in let high = is.2 in by_lt_z x here
            (λ lt. (l.each x).1 (is.0, low, lt))
            (λ ge. let e : x ≡ here = omega (arith, ints) in let f = ap business e in let own = is.0 in absurd (cc)),
      );
      counted = omega arith;
    }

listed : (business : ℤ → Bool) (from : ℤ) (k : ℕ) → Listed business from k
listed business from zero = record {
  days = [];
  rising = λ i j d lt within. absurd (omega arith);
  each = λ x. (λ is. let lt = is.1 in absurd (omega arith), λ is. let low = is.1 in let high = is.2 in absurd (omega (arith, ints)));
  counted = count-none business from;
}
listed business from (suc k) =
    let l = listed business from k in
    by_test (business (from +ℤ pos k)) (one_more business from k l) (no_more business from k l)

pub count_is_of_the_days : CountIsOfTheDays
count_is_of_the_days business from to h =
    let l = listed business from (unsigned_abs (to -ℤ from)) in
    let end : from +ℤ pos (unsigned_abs (to -ℤ from)) ≡ to = omega (arith, ints) in
    (l.days, (l.rising, rw end at l.each), l.counted)
