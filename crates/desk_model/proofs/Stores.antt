-- What is stored of each object after a change of the whole list.
use Rattle.std.proofs.Common.{◌≡◌, inl, inr, ℕ, zero, suc, ◌+◌, ◌<◌, ◌≤◌, Bool, true, false, List, [], ◌∷◌, length, refl, sym, ◌∙◌, ap, subst, arith}
use Rattle.std.specs.Prelude.{slice_index_or, slice_set}
use Rattle.std.proofs.lemmas.List.{get_or-set_same, get_or-set_other, get_or_past, length-set}
use Rattle.std.proofs.lemmas.Bool.{cases_eq, cases_lt}
use Rattle.desk_model.specs.declared.kept.Kept.{Kept}
use Rattle.desk_model.specs.State.{State, kept_at, unpriced, each_kept}
use Rattle.desk_model.specs.Effect.{with_kept}
use Rattle.desk_model.specs.Told.{told, unsettled, tell}

pub each_at : (change : ℕ → Kept → Kept) (from i : ℕ) (kept : List Kept) → i < length kept
    → slice_index_or (each_kept change from kept) i unpriced ≡ change (from + i) (slice_index_or kept i unpriced)
each_at change from i [] within = absurd (omega arith)
each_at change from zero (k ∷ kept) within = let same : from ≡ from + 0 = omega arith in ap (λ (n : ℕ). change n k) same
each_at change from (suc i) (k ∷ kept) within =
    let same : from + 1 + i ≡ from + suc i = omega arith in
    each_at change (from + 1) i kept (omega arith) ∙ ap (λ (n : ℕ). change n (slice_index_or kept i unpriced)) same

pub each_past : (change : ℕ → Kept → Kept) (from i : ℕ) (kept : List Kept) → length kept ≤ i
    → slice_index_or (each_kept change from kept) i unpriced ≡ unpriced
each_past change from i [] past = refl
each_past change from zero (k ∷ kept) past = absurd (omega arith)
each_past change from (suc i) (k ∷ kept) past = each_past change (from + 1) i kept (omega arith)

pub length-each : (change : ℕ → Kept → Kept) (from : ℕ) (kept : List Kept)
    → length (each_kept change from kept) ≡ length kept
length-each change from [] = refl
length-each change from (k ∷ kept) = ap suc (length-each change (from + 1) kept)

-- where nothing changes an object of which nothing is stored, each place is changed
pub each_all : (change : ℕ → Kept → Kept) → ((o : ℕ) → change o unpriced ≡ unpriced) → (from i : ℕ) (kept : List Kept)
    → slice_index_or (each_kept change from kept) i unpriced ≡ change (from + i) (slice_index_or kept i unpriced)
each_all change stays from i [] = sym (stays (from + i))
each_all change stays from zero (k ∷ kept) = let same : from ≡ from + 0 = omega arith in ap (λ (n : ℕ). change n k) same
each_all change stays from (suc i) (k ∷ kept) =
    let same : from + 1 + i ≡ from + suc i = omega arith in
    each_all change stays (from + 1) i kept ∙ ap (λ (n : ℕ). change n (slice_index_or kept i unpriced)) same

unsettled_unpriced : (b : Bool) → unsettled b unpriced ≡ unpriced
unsettled_unpriced true = refl
unsettled_unpriced false = refl

pub told_kept : (from : ℕ → Bool) (s : State) (o : ℕ)
    → kept_at (tell from s) o ≡ unsettled (told s from o) (kept_at s o)
unfolding tell
told_kept from s o =
    each_all (λ o kept. unsettled (told s from o) kept) (λ o. unsettled_unpriced (told s from o)) 0 o s.kept
    ∙ ap (λ (n : ℕ). unsettled (told s from n) (kept_at s o)) (let e : 0 + o ≡ o = omega arith in e)

pub told_market : (from : ℕ → Bool) (s : State) → (tell from s).market ≡ s.market
unfolding tell
told_market from s = refl

pub told_length : (from : ℕ → Bool) (s : State) → length (tell from s).kept ≡ length s.kept
unfolding tell
told_length from s = length-each (λ o kept. unsettled (told s from o) kept) 0 s.kept

pub unsettled_last : (b : Bool) (k : Kept) → (unsettled b k).last ≡ k.last
unsettled_last true k = refl
unsettled_last false k = refl

-- a notice makes nothing current
pub still_current : (b : Bool) (k : Kept) → (unsettled b k).current ≡ true → (b ≡ false) × (k.current ≡ true)
still_current true k e = absurd (cc)
still_current false k e = (refl, e)

pub unsettled_stale : (b : Bool) (k : Kept) → k.current ≡ false → (unsettled b k).current ≡ false
unsettled_stale true k e = refl
unsettled_stale false k e = e

pub unsettled_current : (b : Bool) (k : Kept) → b ≡ false → k.current ≡ true → (unsettled b k).current ≡ true
unsettled_current true k e c = absurd (cc)
unsettled_current false k e c = c

-- another record at one place
pub kept_with : (s : State) (x : ℕ) (k : Kept) (P : Kept → Kept → Type 0) → ((j : Kept) → P j j) → P k (kept_at s x)
    → (o : ℕ) → P (kept_at (with_kept x k s) o) (kept_at s o)
kept_with s x k P same here o = elim (cases_eq o x) [
  | inr other ↦ subst (λ (j : Kept). P j (kept_at s o)) (sym (get_or-set_other s.kept x o k unpriced other)) (same (kept_at s o))
  | inl is ↦ elim (cases_lt x (length s.kept)) [
    | inl within ↦ subst (λ (z : ℕ). P (kept_at (with_kept x k s) z) (kept_at s z)) (sym is) (subst (λ (j : Kept). P j (kept_at s x)) (sym (get_or-set_same s.kept x k unpriced within)) here)
    | inr past ↦
        let a = get_or_past (slice_set s.kept x k) x unpriced (let e = length-set s.kept x k in omega arith) in
        let b = get_or_past s.kept x unpriced past in
        subst (λ (z : ℕ). P (kept_at (with_kept x k s) z) (kept_at s z)) (sym is) (subst (λ (j : Kept). P j (kept_at s x)) (b ∙ sym a) (same (kept_at s x)))
  ]
]
