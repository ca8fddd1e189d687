-- The next business day is the least at or after a day, the previous one the greatest at or before it.
use Rattle.std.proofs.Common.{◌≡◌, ℕ, zero, suc, Bool, true, false, Option, Some, None, refl, sym, ap, ◌∙◌, arith, ◌<ℤ◌, ◌≤ℤ◌, ℤ, pos, ◌+ℤ◌, ◌-ℤ◌, unsigned_abs}
use Rattle.std.proofs.lemmas.Int.{ints, by_lt_z}
use Rattle.day_number.specs.Day.{IsDayNumber}
use Rattle.day_shift.specs.Business.{first_from, last_to, next, previous, IsBusinessDay, IsNext, IsPrevious, NextIsLeast, PreviousIsGreatest}
use Rattle.day_shift.proofs.SearchLemmas.{first_from-here, first_from-later, first_from-none, last_to-here, last_to-earlier, last_to-none}

-- the first business day among some days
abbrev IsFirst : ℕ → (ℤ → Bool) → ℤ → ℤ → Type 0
IsFirst more business day found =
    (business found ≡ true) × (day ≤ℤ found) × (found <ℤ (day +ℤ pos more))
    × ((x : ℤ) → business x ≡ true → day ≤ℤ x → found ≤ℤ x)

pub by_test : {P : Type 0} (b : Bool) → (b ≡ true → P) → (b ≡ false → P) → P
by_test true holds fails = holds refl
by_test false holds fails = fails refl

past : (business : ℤ → Bool) (day x : ℤ) → business day ≡ false → business x ≡ true → day ≤ℤ x → (day +ℤ pos 1) ≤ℤ x
past business day x fails holds le =
    by_lt_z day x (λ lt. omega (arith, ints))
    (λ ge. let e : x ≡ day = omega (arith, ints) in let f = ap business e in absurd (cc))

pub by_option : {P : Type 0} (o : Option ℤ) → (o ≡ None → P) → ((x : ℤ) → o ≡ Some x → P) → P
by_option None none some = none refl
by_option (Some x) none some = some x refl

first_from-first : (more : ℕ) (business : ℤ → Bool) (day found : ℤ) → first_from more business day ≡ Some found → IsFirst more business day found
first_from-first zero business day found e = let none = first_from-none business day in absurd (cc)
first_from-first (suc more) business day found e =
    by_test (business day)
    (λ holds.
    let here = first_from-here more business day holds in
    let is : found ≡ day = cc in
    let own = ap business is in
    let open_day : business found ≡ true = cc in
    (open_day, omega (arith, ints), omega (arith, ints), λ x h le. omega (arith, ints)))
    (λ fails.
    let later = first_from-later more business day fails in
    let rest = first_from-first more business (day +ℤ pos 1) found (sym later ∙ e) in
    (rest.0, omega (arith, ints), omega (arith, ints), λ x h le. rest.3 x h (past business day x fails h le)))

-- where there is none, no day among them is one
first_from-no : (more : ℕ) (business : ℤ → Bool) (day x : ℤ) → first_from more business day ≡ None → business x ≡ true → day ≤ℤ x → x <ℤ (day +ℤ pos more) → ⊥
first_from-no zero business day x e h le lt = omega (arith, ints)
first_from-no (suc more) business day x e h le lt =
    by_test (business day)
    (λ holds. let here = first_from-here more business day holds in cc)
    (λ fails.
    let later = first_from-later more business day fails in
    first_from-no more business (day +ℤ pos 1) x (sym later ∙ e) h (past business day x fails h le) (omega (arith, ints)))

pub next-is : (business : ℤ → Bool) (day found : ℤ) → IsDayNumber day → next business day ≡ Some found → IsNext business day found
unfolding next
next-is business day found h e =
    let first = first_from-first (unsigned_abs (pos 84_006 -ℤ day)) business day found e in
    (((omega (arith, ints), omega (arith, ints)), first.0), first.1, λ x is le. first.3 x is.1 le)

pub next-no : (business : ℤ → Bool) (day x : ℤ) → IsDayNumber day → next business day ≡ None → IsBusinessDay business x → day ≤ℤ x → ⊥
unfolding next
next-no business day x h e is le =
    first_from-no (unsigned_abs (pos 84_006 -ℤ day)) business day x e is.1 le (omega (arith, ints))

pub next_is_least : NextIsLeast
next_is_least business day found h = (next-is business day found h, λ is. is_next is)
  where
    is_next : IsNext business day found → next business day ≡ Some found
    is_next is =
        by_option (next business day) (λ none. absurd (next-no business day found h none is.0 is.1))
        (λ x e.
        let least = next-is business day x h e in
        let same : x ≡ found = omega (arith, ints, least.2 found is.0 is.1, is.2 x least.0 least.1) in
        e ∙ ap Some same)

-- the last business day among some days
abbrev IsLast : ℕ → (ℤ → Bool) → ℤ → ℤ → Type 0
IsLast more business day found =
    (business found ≡ true) × (found ≤ℤ day) × ((day -ℤ pos more) <ℤ found)
    × ((x : ℤ) → business x ≡ true → x ≤ℤ day → x ≤ℤ found)

before : (business : ℤ → Bool) (day x : ℤ) → business day ≡ false → business x ≡ true → x ≤ℤ day → x ≤ℤ (day -ℤ pos 1)
before business day x fails holds le =
    by_lt_z x day (λ lt. omega (arith, ints))
    (λ ge. let e : x ≡ day = omega (arith, ints) in let f = ap business e in absurd (cc))

last_to-last : (more : ℕ) (business : ℤ → Bool) (day found : ℤ) → last_to more business day ≡ Some found → IsLast more business day found
last_to-last zero business day found e = let none = last_to-none business day in absurd (cc)
last_to-last (suc more) business day found e =
    by_test (business day)
    (λ holds.
    let here = last_to-here more business day holds in
    let is : found ≡ day = cc in
    let own = ap business is in
    let open_day : business found ≡ true = cc in
    (open_day, omega (arith, ints), omega (arith, ints), λ x h le. omega (arith, ints)))
    (λ fails.
    let earlier = last_to-earlier more business day fails in
    let rest = last_to-last more business (day -ℤ pos 1) found (sym earlier ∙ e) in
    (rest.0, omega (arith, ints), omega (arith, ints), λ x h le. rest.3 x h (before business day x fails h le)))

-- where there is none, no day among them is one
last_to-no : (more : ℕ) (business : ℤ → Bool) (day x : ℤ) → last_to more business day ≡ None → business x ≡ true → x ≤ℤ day → (day -ℤ pos more) <ℤ x → ⊥
last_to-no zero business day x e h le lt = omega (arith, ints)
last_to-no (suc more) business day x e h le lt =
    by_test (business day)
    (λ holds. let here = last_to-here more business day holds in cc)
    (λ fails.
    let earlier = last_to-earlier more business day fails in
    last_to-no more business (day -ℤ pos 1) x (sym earlier ∙ e) h (before business day x fails h le) (omega (arith, ints)))

pub previous-is : (business : ℤ → Bool) (day found : ℤ) → IsDayNumber day → previous business day ≡ Some found → IsPrevious business day found
unfolding previous
previous-is business day found h e =
    let last = last_to-last (unsigned_abs (day +ℤ pos 25_203)) business day found e in
    (((omega (arith, ints), omega (arith, ints)), last.0), last.1, λ x is le. last.3 x is.1 le)

pub previous-no : (business : ℤ → Bool) (day x : ℤ) → IsDayNumber day → previous business day ≡ None → IsBusinessDay business x → x ≤ℤ day → ⊥
unfolding previous
previous-no business day x h e is le =
    last_to-no (unsigned_abs (day +ℤ pos 25_203)) business day x e is.1 le (omega (arith, ints))

pub previous_is_greatest : PreviousIsGreatest
previous_is_greatest business day found h = (previous-is business day found h, λ is. is_previous is)
  where
    is_previous : IsPrevious business day found → previous business day ≡ Some found
    is_previous is =
        by_option (previous business day) (λ none. absurd (previous-no business day found h none is.0 is.1))
        (λ x e.
        let greatest = previous-is business day x h e in
        let same : x ≡ found = omega (arith, ints, greatest.2 found is.0 is.1, is.2 x greatest.0 greatest.1) in
        e ∙ ap Some same)
