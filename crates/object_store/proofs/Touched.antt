-- What was touched, and clearing it.
use Rattle.std.proofs.Common.{◌≡◌, ◌≢◌, ◌⊎◌, inl, inr, ◌<◌, ℕ, zero, suc, ◌+◌, drop, List, [], ◌∷◌, ◌++◌, length, Option, Some, None, refl, sym, ◌∙◌, ap, subst, arith}
use Rattle.std.specs.Prelude.{slice_index_or, slice_set}
use Rattle.std.proofs.lemmas.List.{get_or-set_same, get_or-set_other, length-set, length-append, drop_more}
use Rattle.std.proofs.Math.ListN.{get_or}
use Rattle.std.proofs.lemmas.Bool.{cases_eq}
use Rattle.walks.specs.Walk.{Among}
use Rattle.desk_model.specs.declared.entry.Entry.{Entry}
use Rattle.object_store.specs.Scratch.{AreTouched}

pub among_front : (x : ℕ) (xs ys : List ℕ) → Among x xs → Among x (xs ++ ys)
among_front x [] ys among = absurd among
among_front x (y ∷ xs) ys (inl same) = inl same
among_front x (y ∷ xs) ys (inr more) = inr (among_front x xs ys more)

pub among_last : (x y : ℕ) (xs : List ℕ) → x ≡ y → Among x (xs ++ y ∷ [])
among_last x y [] same = inl same
among_last x y (z ∷ xs) same = inr (among_last x y xs same)

pub among_split : (x y : ℕ) (xs : List ℕ) → Among x (xs ++ y ∷ []) → Among x xs ⊎ (x ≡ y)
among_split x y [] (inl same) = inr same
among_split x y [] (inr none) = absurd none
among_split x y (z ∷ xs) (inl same) = inl (inl same)
among_split x y (z ∷ xs) (inr more) = elim (among_split x y xs more) [ inl there ↦ inl (inr there) | inr same ↦ inr same ]

within_more : (t : List ℕ) (o n : ℕ) → ((x : ℕ) → Among x t → x < n) → o < n → (x : ℕ) → Among x (t ++ o ∷ []) → x < n
within_more t o n low here x among = elim (among_split x o t among) [ inl there ↦ low x there | inr same ↦ subst (λ (y : ℕ). y < n) (sym same) here ]

pub touched_entry : (e : List (Option Entry)) (t : List ℕ) (o : ℕ) (entry : Entry) → AreTouched e t → o < length e → AreTouched (slice_set e o (Some entry)) (t ++ o ∷ [])
touched_entry e t o entry a within = record {
  entry = λ x there. elim (cases_eq x o) [
    | inl same ↦ among_last x o t same
    | inr other ↦ among_front x t (o ∷ []) (a.entry x (λ none. there (get_or-set_other e o x (Some entry) None other ∙ none)))
  ];
  within = λ x among. subst (λ (n : ℕ). x < n) (sym (length-set e o (Some entry))) (within_more t o (length e) a.within within x among);
}

rest_of : (x o : ℕ) (rest : List ℕ) → x ≢ o → Among x (o ∷ rest) → Among x rest
rest_of x o rest other (inl same) = absurd (other same)
rest_of x o rest other (inr more) = more

-- one of them is cleared
pub cleared : (e : List (Option Entry)) (rest : List ℕ) (o : ℕ) → AreTouched e (o ∷ rest) → AreTouched (slice_set e o None) rest
cleared e rest o a = record {
  entry = λ x there. elim (cases_eq x o) [
    | inl here ↦ absurd (there (ap (λ (n : ℕ). slice_index_or (slice_set e o None) n None) here ∙ get_or-set_same e o None None (a.within o (inl refl))))
    | inr other ↦ rest_of x o rest other (a.entry x (λ none. there (get_or-set_other e o x None None other ∙ none)))
  ];
  within = λ x among. subst (λ (n : ℕ). x < n) (sym (length-set e o None)) (a.within x (inr among));
}

-- a list with the default at its end
pub pushed_default : {X : Type 0} (xs : List X) (d : X) (i : ℕ) → slice_index_or (xs ++ d ∷ []) i d ≡ slice_index_or xs i d
pushed_default [] d zero = refl
pushed_default [] d (suc i) = refl
pushed_default (x ∷ xs) d zero = refl
pushed_default (x ∷ xs) d (suc i) = pushed_default xs d i

pub touched_grown : (e : List (Option Entry)) (t : List ℕ) → AreTouched e t → AreTouched (e ++ None ∷ []) t
touched_grown e t a = record {
  entry = λ x there. a.entry x (λ none. there (pushed_default e None x ∙ none));
  within = λ x among. let w = a.within x among in let l = length-append e (None ∷ []) in omega arith;
}

pub first_left : (xs : List ℕ) (at x : ℕ) → at < length xs → x ≡ get_or xs at x → drop at xs ≡ x ∷ drop (at + 1) xs
first_left xs at x within is = drop_more xs at x within ∙ ap (λ (y : ℕ). y ∷ drop (at + 1) xs) (sym is)
