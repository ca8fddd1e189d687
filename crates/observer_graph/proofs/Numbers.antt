-- Rising lists of numbers, and edits of them.
use Rattle.std.proofs.Common.{◌≡◌, ◌≢◌, ◌⊎◌, inl, inr, ℕ, zero, suc, ◌+◌, ◌<◌, ◌≤◌, Bool, true, false, List, [], ◌∷◌, length, refl, sym, ◌∙◌, ap, subst, arith, get_or, nat_lt}
use Rattle.std.specs.Prelude.{◌==◌, if◌then◌else◌}
use Rattle.std.specs.List.{insert, remove}
use Rattle.std.proofs.lemmas.Bool.{cond_both, ltb-true, ltb-false, eqb-true, eqb-false, lt-ltb, le-ltb, ne_eqb}
use Rattle.observer_graph.specs.Noticed.{with_number, without, AreAll, AreInOrder, IsRising, IsPlace, AreNoticed, is_at}
use Rattle.std.specs.Prelude.{◌↔◌, slice_set}
use Rattle.std.proofs.lemmas.List.{length-set}
use Rattle.walks.specs.Walk.{Among}

pub all_map : (P Q : ℕ → Type 0) → ((one : ℕ) → P one → Q one) → (numbers : List ℕ) → AreAll P numbers
    → AreAll Q numbers
all_map P Q each [] all = tt
all_map P Q each (first ∷ rest) all = (each first all.0, all_map P Q each rest all.1)

pub all_both : (P Q R : ℕ → Type 0) → ((one : ℕ) → P one → Q one → R one) → (numbers : List ℕ)
    → AreAll P numbers → AreAll Q numbers → AreAll R numbers
all_both P Q R each [] all more = tt
all_both P Q R each (first ∷ rest) all more = (each first all.0 more.0, all_both P Q R each rest all.1 more.1)

pub all_at : (P : ℕ → Type 0) (numbers : List ℕ) (i : ℕ) (d : ℕ) → AreAll P numbers → i < length numbers
    → P (get_or numbers i d)
all_at P [] i d all low = absurd (omega arith)
all_at P (first ∷ rest) zero d all low = all.0
all_at P (first ∷ rest) (suc i) d all low = all_at P rest i d all.1 (omega arith)

pub all_with : (P : ℕ → Type 0) (entry : ℕ) (numbers : List ℕ) → AreAll P numbers → P entry
    → AreAll P (with_number entry numbers)
all_with P entry [] all one = (one, tt)
all_with P entry (first ∷ rest) all one =
    cond_both (first == entry) (first ∷ rest)
    (if nat_lt entry first then entry ∷ first ∷ rest else first ∷ with_number entry rest) (AreAll P)
    (λ e. all)
    (λ e. cond_both (nat_lt entry first) (entry ∷ first ∷ rest) (first ∷ with_number entry rest) (AreAll P)
    (λ e. (one, all)) (λ e. (all.0, all_with P entry rest all.1 one)))

pub all_without : (P : ℕ → Type 0) (number : ℕ) (numbers : List ℕ) → AreAll P numbers
    → AreAll P (without number numbers)
all_without P number [] all = tt
all_without P number (first ∷ rest) all =
    cond_both (first == number) (without number rest) (first ∷ without number rest) (AreAll P)
    (λ e. all_without P number rest all.1) (λ e. (all.0, all_without P number rest all.1))

pub order_without : (R : ℕ → ℕ → Type 0) (number : ℕ) (numbers : List ℕ) → AreInOrder R numbers
    → AreInOrder R (without number numbers)
order_without R number [] all = tt
order_without R number (first ∷ rest) all =
    cond_both (first == number) (without number rest) (first ∷ without number rest) (AreInOrder R)
    (λ e. order_without R number rest all.1)
    (λ e. (all_without (R first) number rest all.0, order_without R number rest all.1))

later_than : (a b : ℕ) → (a == b) ≡ false → nat_lt b a ≡ false → a < b
later_than a b other ge = let ne = eqb-false a b other in let le = ltb-false b a ge in omega arith

pub rising_with : (entry : ℕ) (numbers : List ℕ) → IsRising numbers → IsRising (with_number entry numbers)
rising_with entry [] rising = (tt, tt)
rising_with entry (first ∷ rest) rising =
    cond_both (first == entry) (first ∷ rest)
    (if nat_lt entry first then entry ∷ first ∷ rest else first ∷ with_number entry rest) IsRising
    (λ e. rising)
    (λ other. cond_both (nat_lt entry first) (entry ∷ first ∷ rest) (first ∷ with_number entry rest) IsRising
    (λ e. let less = ltb-true entry first e in (
      (
        less,
        all_map (λ one. first < one)
            (λ one. entry < one) (λ one more. omega arith) rest rising.0,
      ),
      rising,
    ))
    (λ e. (
      all_with (λ one. first < one) entry rest rising.0 (later_than first entry other e),
      rising_with entry rest rising.1,
    )))

pub rising_at : (numbers : List ℕ) (i j : ℕ) (d e : ℕ) → IsRising numbers → i ≤ j → j < length numbers
    → get_or numbers i d ≤ get_or numbers j e
rising_at [] i j d e rising le low = absurd (omega arith)
rising_at (first ∷ rest) zero zero d e rising le low = omega arith
rising_at (first ∷ rest) zero (suc j) d e rising le low =
    let less = all_at (λ one. first < one) rest j e rising.0 (omega arith) in omega arith
rising_at (first ∷ rest) (suc i) zero d e rising le low = absurd (omega arith)
rising_at (first ∷ rest) (suc i) (suc j) d e rising le low = rising_at rest i j d e rising.1 (omega arith) (omega arith)

-- a number that is less than the first
pub with_first : (entry : ℕ) (numbers : List ℕ) (first : ℕ) → entry < get_or numbers 0 first
    → with_number entry numbers ≡ entry ∷ numbers
with_first entry [] first less = refl
with_first entry (one ∷ rest) first less =
    rw (ne_eqb one entry (λ same. absurd (omega arith)), lt-ltb entry one less) refl

-- no more stand there than have room
rising_from : (low n : ℕ) (numbers : List ℕ) → AreAll (λ one. (low ≤ one) × (one < n)) numbers
    → IsRising numbers → low ≤ n → length numbers + low ≤ n
rising_from low n [] all rising le = omega arith
rising_from low n (first ∷ rest) all rising le =
    let more = rising_from (suc first) n rest
    (all_both (λ one. first < one) (λ one. (low ≤ one) × (one < n))
    (λ one. (suc first ≤ one) × (one < n)) (λ one later within. (omega arith, within.1)) rest
    rising.0 all.1) rising.1 (let less = all.0.1 in omega arith) in
    let least = all.0.0 in omega arith

pub rising_room : (n : ℕ) (numbers : List ℕ) → AreAll (λ one. one < n) numbers → IsRising numbers → length numbers ≤ n
rising_room n numbers all rising =
    let room = rising_from 0 n numbers (all_map (λ one. one < n) (λ one. (0 ≤ one) × (one < n))
    (λ one low. (omega arith, low)) numbers all) rising (omega arith) in omega arith

module _ (number : ℕ) where
  place_rest : (first : ℕ) (rest : List ℕ) (at : ℕ) → IsPlace (first ∷ rest) number (suc at)
      → IsPlace rest number at
  place_rest first rest at place = (
    let within = place.0 in omega arith,
    λ i d low. place.1 (suc i) d (omega arith),
    λ i d high low. place.2 (suc i) d (omega arith) (omega arith),
  )

  before : (first : ℕ) (rest : List ℕ) (at : ℕ) → IsPlace (first ∷ rest) number (suc at)
      → first < number
  before first rest at place = place.1 zero first (omega arith)

  from : (first : ℕ) (rest : List ℕ) → IsPlace (first ∷ rest) number zero → number ≤ first
  from first rest place = place.2 zero first (omega arith) (omega arith)

  none_after : (first : ℕ) (rest : List ℕ) → number ≤ first
      → AreAll (λ one. first < one) rest → AreAll (λ one. one ≢ number) rest
  none_after first rest le rising =
      all_map (λ one. first < one) (λ one. one ≢ number) (λ one less same. absurd (omega arith)) rest
      rising

  without_none : (numbers : List ℕ) → AreAll (λ one. one ≢ number) numbers → without number numbers ≡ numbers
  without_none [] all = refl
  without_none (first ∷ rest) all = rw (ne_eqb first number all.0) (ap (λ l. first ∷ l) (without_none rest all.1))

  pub taken_out : (numbers : List ℕ) (at : ℕ) → IsRising numbers → IsPlace numbers number at → is_at numbers at number ≡ true
      → remove numbers at ≡ without number numbers
  taken_out [] zero rising place there = absurd (cc)
  taken_out [] (suc at) rising place there = let within = place.0 in absurd (omega arith)
  taken_out (first ∷ rest) zero rising place there =
      rw there (sym (without_none rest (none_after first rest (from first rest place) rising.0)))
  taken_out (first ∷ rest) (suc at) rising place there =
      let less = before first rest at place in
      rw (ne_eqb first number (λ same. absurd (omega arith)))
      (ap (λ l. first ∷ l) (taken_out rest at rising.1 (place_rest first rest at place) there))

  pub not_there : (numbers : List ℕ) (at : ℕ) → IsRising numbers → IsPlace numbers number at → is_at numbers at number ≡ false
      → numbers ≡ without number numbers
  not_there [] at rising place there = refl
  not_there (first ∷ rest) zero rising place there =
      sym (without_none (first ∷ rest)
      (eqb-false first number there, none_after first rest (from first rest place) rising.0))
  not_there (first ∷ rest) (suc at) rising place there =
      let less = before first rest at place in
      rw (ne_eqb first number (λ same. absurd (omega arith)))
      (ap (λ l. first ∷ l) (not_there rest at rising.1 (place_rest first rest at place) there))

module _ (entry : ℕ) where
  pub put_there : (numbers : List ℕ) (at : ℕ) → IsPlace numbers entry at → is_at numbers at entry ≡ false
      → insert numbers at entry ≡ with_number entry numbers
  put_there [] zero place there = refl
  put_there [] (suc at) place there = let within = place.0 in absurd (omega arith)
  put_there (first ∷ rest) zero place there =
      let le = from entry first rest place in let other = eqb-false first entry there in
      rw (there, lt-ltb entry first (omega arith)) refl
  put_there (first ∷ rest) (suc at) place there =
      let less = before entry first rest at place in
      rw (ne_eqb first entry (λ same. absurd (omega arith)), le-ltb entry first (omega arith))
      (ap (λ l. first ∷ l) (put_there rest at (place_rest entry first rest at place) there))

  pub stays_there : (numbers : List ℕ) (at : ℕ) → IsPlace numbers entry at → is_at numbers at entry ≡ true
      → numbers ≡ with_number entry numbers
  stays_there [] zero place there = absurd (cc)
  stays_there [] (suc at) place there = let within = place.0 in absurd (omega arith)
  stays_there (first ∷ rest) zero place there = rw there refl
  stays_there (first ∷ rest) (suc at) place there =
      let less = before entry first rest at place in
      rw (ne_eqb first entry (λ same. absurd (omega arith)), le-ltb entry first (omega arith))
      (ap (λ l. first ∷ l) (stays_there rest at (place_rest entry first rest at place) there))

pub noticed_more : (numbers : List ℕ) (n m : ℕ) → n ≤ m → AreNoticed numbers n → AreNoticed numbers m
noticed_more numbers n m le noticed =
    (noticed.0, all_map (λ one. one < n) (λ one. one < m) (λ one low. omega arith) numbers noticed.1)

pub noticed_with : (numbers : List ℕ) (w n : ℕ) → w < n → AreNoticed numbers n → AreNoticed (with_number w numbers) n
noticed_with numbers w n low noticed =
    (rising_with w numbers noticed.0, all_with (λ one. one < n) w numbers noticed.1 low)

pub noticed_without : (numbers : List ℕ) (w n : ℕ) → AreNoticed numbers n → AreNoticed (without w numbers) n
noticed_without numbers w n noticed = (
  order_without (λ one later. one < later) w numbers noticed.0,
  all_without (λ one. one < n) w numbers noticed.1,
)

pub room_with : (numbers : List ℕ) (w n : ℕ) → w < n → AreNoticed numbers n → length (with_number w numbers) ≤ n
room_with numbers w n low noticed =
    let more = noticed_with numbers w n low noticed in rising_room n (with_number w numbers) more.1 more.0

module _ {X : Type 0} (nodes : List X) (i : ℕ) (y : X) (numbers : List ℕ) (cap : ℕ) where
  pub noticed_set : AreNoticed numbers (length nodes) → AreNoticed numbers (length (slice_set nodes i y))
  noticed_set noticed = subst (AreNoticed numbers) (sym (length-set nodes i y)) noticed

  pub room_set : length nodes ≤ cap → length (slice_set nodes i y) ≤ cap
  room_set room = let same = length-set nodes i y in omega arith

pub among_with : (v w : ℕ) (numbers : List ℕ) → Among v (with_number w numbers) ↔ (Among v numbers ⊎ (v ≡ w))
among_with v w [] = (
  λ among. elim among [ inl same ↦ inr same | inr none ↦ absurd none ],
  λ either. elim either [ inl none ↦ absurd none | inr same ↦ inl same ],
)
among_with v w (first ∷ rest) = by_place (first == w) refl (nat_lt w first) (among_with v w rest)
  where
    by_place : (b : Bool) → (first == w) ≡ b → (c : Bool) → (Among v (with_number w rest) ↔ (Among v rest ⊎ (v ≡ w)))
        → Among v (if b then first ∷ rest else if c then w ∷ first ∷ rest else first ∷ with_number w rest)
        ↔ (Among v (first ∷ rest) ⊎ (v ≡ w))
    by_place true same c more = (
      λ among. inl among,
      λ either. elim either [ inl among ↦ among | inr is ↦ inl (is ∙ sym (eqb-true first w same)) ],
    )
    by_place false other true more = (
      λ among. elim among [ inl is ↦ inr is | inr later ↦ inl later ],
      λ either. elim either [ inl among ↦ inr among | inr is ↦ inl is ],
    )
    by_place false other false more = (
      λ among. elim among [ inl is ↦ inl (inl is) | inr later ↦ elim (more.0 later) [ inl was ↦ inl (inr was) | inr is ↦ inr is ] ],
      λ either. elim either [
        | inl among ↦ elim among [ inl is ↦ inl is | inr later ↦ inr (more.1 (inl later)) ]
        | inr is ↦ inr (more.1 (inr is))
      ],
    )

pub noticed_step : (W : Type 0) (numbers numbers2 : List ℕ) (w n : ℕ) → w < n
    → (W × (numbers2 ≡ with_number w numbers)) ⊎ ((W → ⊥) × (numbers2 ≡ numbers)) → AreNoticed numbers n → AreNoticed numbers2 n
noticed_step W numbers numbers2 w n low (inl now) noticed = subst (λ (l : List ℕ). AreNoticed l n) (sym now.1)
    (noticed_with numbers w n low noticed)
noticed_step W numbers numbers2 w n low (inr never) noticed = subst (λ (l : List ℕ). AreNoticed l n) (sym never.1) noticed
