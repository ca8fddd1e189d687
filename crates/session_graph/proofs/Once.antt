-- One object more of a list of each once.
use Rattle.std.proofs.Common.{◌≡◌, ℕ, ◌+◌, ◌<◌, Bool, true, false, List, [], ◌∷◌, ◌++◌, length, get_or, take, refl, sym, ◌∙◌, ap}
use Rattle.std.specs.Prelude.{◌==◌, ◌||◌, if◌then◌else◌}
use Rattle.std.specs.List.{list_any}
use Rattle.std.proofs.lemmas.List.{append-nil, take_more}
use Rattle.desk_model.specs.Market.{without, each_once}

-- an object, unless it is there
abbrev unless : Bool → ℕ → List ℕ
unless found y = if found then [] else y ∷ []

without_push : (x y : ℕ) (ys : List ℕ) → without x (ys ++ y ∷ []) ≡ without x ys ++ unless (x == y) y
without_push x y [] = refl
without_push x y (z ∷ zs) = by_same (x == z) (without_push x y zs)
  where
    by_same : (b : Bool) → without x (zs ++ y ∷ []) ≡ without x zs ++ unless (x == y) y
        → (if b then without x (zs ++ y ∷ []) else z ∷ without x (zs ++ y ∷ []))
        ≡ (if b then without x zs else z ∷ without x zs) ++ unless (x == y) y
    by_same true rest = rest
    by_same false rest = ap (λ (l : List ℕ). z ∷ l) rest

-- what is not put behind changes nothing
late_any : (l : List ℕ) (y : ℕ) (e : Bool) → l ≡ l ++ unless (e || true) y
late_any l y true = sym (append-nil l)
late_any l y false = sym (append-nil l)

late_none : (l : List ℕ) (y : ℕ) (e : Bool) → l ++ unless e y ≡ l ++ unless (e || false) y
late_none l y true = refl
late_none l y false = refl

once_push : (xs : List ℕ) (y : ℕ) → each_once (xs ++ y ∷ []) ≡ each_once xs ++ unless (list_any (λ other. other == y) xs) y
once_push [] y = refl
once_push (x ∷ xs) y =
    ap (λ (l : List ℕ). x ∷ l)
    (ap (without x) (once_push xs y) ∙ by_any (list_any (λ other. other == y) xs))
  where
    by_any : (a : Bool) → without x (each_once xs ++ unless a y) ≡ without x (each_once xs) ++ unless ((x == y) || a) y
    by_any true = ap (without x) (append-nil (each_once xs)) ∙ late_any (without x (each_once xs)) y (x == y)
    by_any false = without_push x y (each_once xs) ∙ late_none (without x (each_once xs)) y (x == y)

module _ (xs : List ℕ) (at : ℕ) (x : ℕ) (within : at < length xs) (is : x ≡ get_or xs at x) where
  next : take (at + 1) xs ≡ take at xs ++ x ∷ []
  next = take_more xs at x within ∙ ap (λ (y : ℕ). take at xs ++ y ∷ []) (sym is)

  -- it is put behind the others, unless it is among them
  pub once_next : (once new : List ℕ) → once ≡ each_once (take at xs)
      → new ≡ once ++ (if list_any (λ other. other == x) (take at xs) then [] else x ∷ []) → new ≡ each_once (take (at + 1) xs)
  once_next once new so_far more =
      more ∙ ap (λ (l : List ℕ). l ++ unless (list_any (λ other. other == x) (take at xs)) x) so_far
      ∙ sym (ap each_once next ∙ once_push (take at xs) x)
