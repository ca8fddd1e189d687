-- Nearest finds the business day at the least distance, the later of two.
use Rattle.std.proofs.Common.{◌≡◌, ◌↔◌, ◌≤◌, Bool, if◌then◌else◌, Option, Some, None, sym, ap, ◌∙◌, arith, ◌<ℤ◌, ◌≤ℤ◌, ℤ, ◌-ℤ◌, unsigned_abs}
use Rattle.std.proofs.lemmas.Int.{ints, by_lt_z}
use Rattle.day_number.specs.declared.conventions.Convention.TheVariants.{Nearest}
use Rattle.day_number.specs.Day.{IsDayNumber}
use Rattle.day_shift.specs.Business.{next, previous, IsBusinessDay, IsNext, IsPrevious}
use Rattle.day_shift.specs.Adjusted.{nearer, adjusted, IsNearest}
use Rattle.day_shift.proofs.SearchLemmas.{le_z-true, le_z-false}
use Rattle.day_shift.proofs.SetLemmas.{by_option, next-is, next-no, previous-is, previous-no}

nearest-of_two : (business : ℤ → Bool) (day later earlier : ℤ) → IsNext business day later → IsPrevious business day earlier → (later -ℤ day) ≤ℤ (day -ℤ earlier) → IsNearest business day later
nearest-of_two business day later earlier next previous le = (
  next.0,
  λ x is. by_lt_z x day
      (λ lt. let most = previous.2 x is (omega (arith, ints)) in let to = previous.1 in let from = next.1 in omega (arith, ints))
      (λ ge. let least = next.2 x is ge in let from = next.1 in omega (arith, ints)),
  λ x is e. by_lt_z x day
      (λ lt. let from = next.1 in omega (arith, ints))
      (λ ge. let least = next.2 x is ge in let from = next.1 in omega (arith, ints)),
)

nearest-earlier : (business : ℤ → Bool) (day later earlier : ℤ) → IsNext business day later → IsPrevious business day earlier → (day -ℤ earlier) <ℤ (later -ℤ day) → IsNearest business day earlier
nearest-earlier business day later earlier next previous lt = (
  previous.0,
  λ x is. by_lt_z day x
      (λ gt. let least = next.2 x is (omega (arith, ints)) in let to = previous.1 in let from = next.1 in omega (arith, ints))
      (λ le. let most = previous.2 x is le in let to = previous.1 in omega (arith, ints)),
  λ x is e. by_lt_z day x
      (λ gt. let least = next.2 x is (omega (arith, ints)) in let to = previous.1 in let from = next.1 in omega (arith, ints))
      (λ le. let most = previous.2 x is le in let to = previous.1 in omega (arith, ints)),
)

nearest-only_later : (business : ℤ → Bool) (day later : ℤ) → IsNext business day later → ((x : ℤ) → IsBusinessDay business x → x ≤ℤ day → ⊥) → IsNearest business day later
nearest-only_later business day later next none = (
  next.0,
  λ x is. by_lt_z x day (λ lt. absurd (none x is (omega (arith, ints))))
      (λ ge. let least = next.2 x is ge in let from = next.1 in omega (arith, ints)),
  λ x is e. by_lt_z x day (λ lt. absurd (none x is (omega (arith, ints))))
      (λ ge. let least = next.2 x is ge in let from = next.1 in omega (arith, ints)),
)

nearest-only_earlier : (business : ℤ → Bool) (day earlier : ℤ) → IsPrevious business day earlier → ((x : ℤ) → IsBusinessDay business x → day ≤ℤ x → ⊥) → IsNearest business day earlier
nearest-only_earlier business day earlier previous none = (
  previous.0,
  λ x is. by_lt_z day x (λ gt. absurd (none x is (omega (arith, ints))))
      (λ le. let most = previous.2 x is le in let to = previous.1 in omega (arith, ints)),
  λ x is e. by_lt_z day x (λ gt. absurd (none x is (omega (arith, ints))))
      (λ le. let most = previous.2 x is le in let to = previous.1 in omega (arith, ints)),
)

-- the nearest is unique
one_nearest : (business : ℤ → Bool) (day one other : ℤ) → IsNearest business day one → IsNearest business day other → one ≡ other
one_nearest business day one other a b =
    let near = a.1 other b.0 in
    let far = b.1 one a.0 in
    let same : unsigned_abs (other -ℤ day) ≡ unsigned_abs (one -ℤ day) = omega arith in
    let le = a.2 other b.0 same in
    let ge = b.2 one a.0 (sym same) in
    omega (arith, ints)

-- the day that Nearest finds is the nearest, and where it finds none there is none
record Found (business : ℤ → Bool) (day : ℤ) (found : Option ℤ) : Type 0 where
  is : (x : ℤ) → found ≡ Some x → IsNearest business day x
  is_none : found ≡ None → (x : ℤ) → IsBusinessDay business x → ⊥

found_at : (business : ℤ → Bool) (day near : ℤ) (found : Option ℤ) → found ≡ Some near → IsNearest business day near → Found business day found
found_at business day near found e is = record {
  is = λ x h. let same : x ≡ near = cc in rw same is;
  is_none = λ h. absurd (cc);
}

nearest-found : (business : ℤ → Bool) (day : ℤ) → IsDayNumber day → Found business day (nearer day (next business day) (previous business day))
nearest-found business day h =
    let found = nearer day (next business day) (previous business day) in
    by_option (next business day)
    (λ no_next.
    let after = ap (λ o. nearer day o (previous business day)) no_next in
    by_option (previous business day)
    (λ no_previous.
    let none : found ≡ None = after ∙ no_previous in
    record {
      is = λ x e. absurd (cc);
      is_none = λ e x is. by_lt_z x day
          (λ lt. previous-no business day x h no_previous is (omega (arith, ints)))
          (λ ge. next-no business day x h no_next is ge);
    })
    (λ earlier e. found_at business day earlier found (after ∙ e) (nearest-only_earlier business day earlier (previous-is business day earlier h e) (λ x is ge. next-no business day x h no_next is ge))))
    (λ later f.
    let after = ap (λ o. nearer day o (previous business day)) f in
    let next_is = next-is business day later h f in
    by_option (previous business day)
    (λ no_previous. found_at business day later found (after ∙ ap (λ o. nearer day (Some later) o) no_previous) (nearest-only_later business day later next_is (λ x is le. previous-no business day x h no_previous is le)))
    (λ earlier e.
    let both = after ∙ ap (λ o. nearer day (Some later) o) e in
    let previous_is = previous-is business day earlier h e in
    by_lt_z (day -ℤ earlier) (later -ℤ day)
    (λ lt. found_at business day earlier found (both ∙ ap (λ v. if v then Some later else Some earlier) (le_z-false _ _ lt)) (nearest-earlier business day later earlier next_is previous_is lt))
    (λ le. found_at business day later found (both ∙ ap (λ v. if v then Some later else Some earlier) (le_z-true _ _ le)) (nearest-of_two business day later earlier next_is previous_is le))))

pub nearest_is_nearest : (business : ℤ → Bool) (day found : ℤ) → IsDayNumber day → (adjusted business Nearest day ≡ Some found) ↔ IsNearest business day found
unfolding adjusted
nearest_is_nearest business day found h =
    let near = nearest-found business day h in (
      λ e. near.is found e,
      λ is. by_option (nearer day (next business day) (previous business day))
          (λ none. absurd (near.is_none none found is.0))
          (λ x e. e ∙ ap Some (one_nearest business day x found (near.is x e) is)),
    )
