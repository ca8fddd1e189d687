-- Two rising lists of the same numbers are the same, and the watchers of a list of slots stand so.
use Rattle.std.proofs.Common.{◌≡◌, ◌⊎◌, inl, inr, ℕ, zero, suc, ◌+◌, ◌<◌, Bool, true, false, List, [], ◌∷◌, refl, sym, ◌∙◌, ap, subst, arith}
use Rattle.std.specs.Prelude.{◌↔◌, ◌==◌, ◌&&◌, slice_index_or, if◌then◌else◌}
use Rattle.std.proofs.lemmas.Bool.{eqb-true, eqb-false, eq-eqb, false≢true}
use Rattle.walks.specs.Walk.{Among}
use Rattle.desk_model.specs.declared.slot.Slot.{Slot}
use Rattle.desk_model.specs.declared.slot.Slot.TheVariants.{Free}
use Rattle.desk_model.specs.Market as market
use Rattle.desk_model.specs.Market.{is_watcher}
use Rattle.desk_model.specs.Told.{watchers_where}
use Rattle.observer_graph.specs.Noticed.{AreAll, IsRising, without}

all_among : (P : ℕ → Type 0) (xs : List ℕ) → AreAll P xs → (x : ℕ) → Among x xs → P x
all_among P [] all x among = absurd among
all_among P (y ∷ ys) all x (inl same) = subst P (sym same) all.0
all_among P (y ∷ ys) all x (inr among) = all_among P ys all.1 x among

all_of : (P : ℕ → Type 0) (xs : List ℕ) → ((x : ℕ) → Among x xs → P x) → AreAll P xs
all_of P [] each = tt
all_of P (y ∷ ys) each = (each y (inl refl), all_of P ys (λ x among. each x (inr among)))

-- the first of a rising list is less than the others
first_less : (x y : ℕ) (xs : List ℕ) → IsRising (x ∷ xs) → Among y xs → x < y
first_less x y xs rising among = all_among (λ later. x < later) xs rising.0 y among

pub same_rising : (xs ys : List ℕ) → IsRising xs → IsRising ys → ((w : ℕ) → Among w xs ↔ Among w ys) → xs ≡ ys
same_rising [] [] rising rising2 same = refl
same_rising [] (y ∷ ys) rising rising2 same = absurd ((same y).1 (inl refl))
same_rising (x ∷ xs) [] rising rising2 same = absurd ((same x).0 (inl refl))
same_rising (x ∷ xs) (y ∷ ys) rising rising2 same =
    let head = heads ((same x).0 (inl refl)) ((same y).1 (inl refl)) in
    ap (λ (z : ℕ). z ∷ xs) head ∙ ap (λ (l : List ℕ). y ∷ l) (same_rising xs ys rising.1 rising2.1 (λ w. (onward head w, backward head w)))
  where
    heads : (x ≡ y) ⊎ Among x ys → (y ≡ x) ⊎ Among y xs → x ≡ y
    heads (inl here) other = here
    heads (inr there) (inl here) = sym here
    heads (inr there) (inr again) = let a = first_less x y xs rising again in let b = first_less y x ys rising2 there in absurd (omega (arith, a, b))

    onward : x ≡ y → (w : ℕ) → Among w xs → Among w ys
    onward head w among = elim ((same w).0 (inr among)) [
      | inl here ↦ let a = first_less x w xs rising among in absurd (omega (arith, a, here, head))
      | inr there ↦ there
    ]

    backward : x ≡ y → (w : ℕ) → Among w ys → Among w xs
    backward head w among = elim ((same w).1 (inr among)) [
      | inl here ↦ let a = first_less y w ys rising2 among in absurd (omega (arith, a, here, head))
      | inr there ↦ there
    ]

-- which watchers pass
pub where_there : (passes : ℕ → Bool) (from w : ℕ) (slots : List Slot) → Among w (watchers_where passes from slots)
    → (i : ℕ) × (w ≡ from + i) × (is_watcher (slice_index_or slots i Free) ≡ true) × (passes w ≡ true)
where_there passes from w [] among = absurd among
where_there passes from w (slot ∷ slots) among = by_watcher (is_watcher slot) refl (passes from) refl among (λ more. where_there passes (from + 1) w slots more)
  where
    later : (i : ℕ) × (w ≡ from + 1 + i) × (is_watcher (slice_index_or slots i Free) ≡ true) × (passes w ≡ true)
        → (i : ℕ) × (w ≡ from + i) × (is_watcher (slice_index_or (slot ∷ slots) i Free) ≡ true) × (passes w ≡ true)
    later l = let e = l.1 in (suc l.0, omega (arith, e), l.2, l.3)

    by_watcher : (b : Bool) → is_watcher slot ≡ b → (c : Bool) → passes from ≡ c
        → Among w (if b && c then from ∷ watchers_where passes (from + 1) slots else watchers_where passes (from + 1) slots)
        → (Among w (watchers_where passes (from + 1) slots) → (i : ℕ) × (w ≡ from + 1 + i) × (is_watcher (slice_index_or slots i Free) ≡ true) × (passes w ≡ true))
        → (i : ℕ) × (w ≡ from + i) × (is_watcher (slice_index_or (slot ∷ slots) i Free) ≡ true) × (passes w ≡ true)
    by_watcher true is true pass (inl same) more = (0, omega (arith, same), is, ap passes same ∙ pass)
    by_watcher true is true pass (inr among) more = later (more among)
    by_watcher true is false pass among more = later (more among)
    by_watcher false is c pass among more = later (more among)

pub where_back : (passes : ℕ → Bool) (from i w : ℕ) (slots : List Slot) → w ≡ from + i → is_watcher (slice_index_or slots i Free) ≡ true → passes w ≡ true
    → Among w (watchers_where passes from slots)
where_back passes from zero w [] same is pass = absurd (false≢true is)
where_back passes from (suc i) w [] same is pass = absurd (false≢true is)
where_back passes from zero w (slot ∷ slots) same is pass =
    let e : w ≡ from = omega (arith, same) in
    by_both (is_watcher slot) is (passes from) (ap passes (sym e) ∙ pass) e
  where
    by_both : (b : Bool) → b ≡ true → (c : Bool) → c ≡ true → w ≡ from
        → Among w (if b && c then from ∷ watchers_where passes (from + 1) slots else watchers_where passes (from + 1) slots)
    by_both true one true two e = inl e
    by_both true one false two e = absurd (false≢true two)
    by_both false one c two e = absurd (false≢true one)
where_back passes from (suc i) w (slot ∷ slots) same is pass =
    by_both (is_watcher slot && passes from) (where_back passes (from + 1) i w slots (omega (arith, same)) is pass)
  where
    by_both : (b : Bool) → Among w (watchers_where passes (from + 1) slots)
        → Among w (if b then from ∷ watchers_where passes (from + 1) slots else watchers_where passes (from + 1) slots)
    by_both true among = inr among
    by_both false among = among

pub where_rising : (passes : ℕ → Bool) (from : ℕ) (slots : List Slot) → IsRising (watchers_where passes from slots)
where_rising passes from [] = tt
where_rising passes from (slot ∷ slots) = by_both (is_watcher slot && passes from) (where_rising passes (from + 1) slots)
  where
    by_both : (b : Bool) → IsRising (watchers_where passes (from + 1) slots)
        → IsRising (if b then from ∷ watchers_where passes (from + 1) slots else watchers_where passes (from + 1) slots)
    by_both true rising = (
      all_of (λ later. from < later) (watchers_where passes (from + 1) slots) (λ w among. let l = where_there passes (from + 1) w slots among in let e = l.1 in omega (arith, e)),
      rising,
    )
    by_both false rising = rising

-- a list without a number is the same, whichever way round numbers are compared
pub same_without : (x : ℕ) (xs : List ℕ) → without x xs ≡ market.without x xs
same_without x [] = refl
same_without x (y ∷ ys) = by_same (y == x) refl (x == y) refl (same_without x ys)
  where
    by_same : (b : Bool) → (y == x) ≡ b → (c : Bool) → (x == y) ≡ c → without x ys ≡ market.without x ys
        → (if b then without x ys else y ∷ without x ys) ≡ (if c then market.without x ys else y ∷ market.without x ys)
    by_same true one true two rest = rest
    by_same false one false two rest = ap (λ (l : List ℕ). y ∷ l) rest
    by_same true one false two rest = absurd (eqb-false x y two (sym (eqb-true y x one)))
    by_same false one true two rest = absurd (eqb-false y x one (sym (eqb-true x y two)))

-- the first of a rising list, taken out of it
pub without_first : (w : ℕ) (rest : List ℕ) → IsRising (w ∷ rest) → market.without w (w ∷ rest) ≡ rest
without_first w rest rising = ap (λ (b : Bool). if b then market.without w rest else w ∷ market.without w rest) (eq-eqb w w refl) ∙ others rest (λ y among. first_less w y rest rising among)
  where
    others : (ys : List ℕ) → ((y : ℕ) → Among y ys → w < y) → market.without w ys ≡ ys
    others [] less = refl
    others (y ∷ ys) less = by_same (w == y) refl (others ys (λ z among. less z (inr among)))
      where
        by_same : (b : Bool) → (w == y) ≡ b → market.without w ys ≡ ys → (if b then market.without w ys else y ∷ market.without w ys) ≡ y ∷ ys
        by_same true is rest = let e = eqb-true w y is in let l = less y (inl refl) in absurd (omega (arith, e, l))
        by_same false is rest = ap (λ (l : List ℕ). y ∷ l) rest
