-- Who is among the nodes of a list, after edits of it.
use Rattle.std.proofs.Common.{◌≡◌, ◌⊎◌, inl, inr, ℕ, zero, suc, ◌+◌, ◌<◌, Bool, true, false, List, [], ◌∷◌, ◌++◌, length, refl, sym, ◌∙◌, subst, arith, Some, None}
use Rattle.std.specs.Prelude.{◌↔◌, ◌==◌, remove, slice_index_or, position, cond, not}
use Rattle.std.specs.List.{position_or_len}
use Rattle.std.proofs.lemmas.Bool.{eqb-true, eq-eqb, lt-ltb}
use Rattle.std.proofs.lemmas.List.Quantifiers.{position-Some}
use Rattle.walks.specs.Walk.{Among, IsOnce}

pub among_left : (o : ℕ) (xs ys : List ℕ) → Among o xs → Among o (xs ++ ys)
among_left o [] ys a = absurd a
among_left o (x ∷ xs) ys (inl same) = inl same
among_left o (x ∷ xs) ys (inr a) = inr (among_left o xs ys a)

pub among_right : (o : ℕ) (xs ys : List ℕ) → Among o ys → Among o (xs ++ ys)
among_right o [] ys a = a
among_right o (x ∷ xs) ys a = inr (among_right o xs ys a)

pub among_cases : (o : ℕ) (xs ys : List ℕ) → Among o (xs ++ ys) → Among o xs ⊎ Among o ys
among_cases o [] ys a = inr a
among_cases o (x ∷ xs) ys (inl same) = inl (inl same)
among_cases o (x ∷ xs) ys (inr a) = elim (among_cases o xs ys a) [ inl l ↦ inl (inr l) | inr r ↦ inr r ]

-- one node more at the end
pub among_last : (o : ℕ) (xs : List ℕ) (y : ℕ) → Among o (xs ++ y ∷ []) ↔ (Among o xs ⊎ (o ≡ y))
among_last o xs y = (
  λ a. elim (among_cases o xs (y ∷ []) a) [ inl l ↦ inl l | inr r ↦ inr (one r) ],
  λ a. elim a [ inl l ↦ among_left o xs (y ∷ []) l | inr same ↦ among_right o xs (y ∷ []) (inl same) ],
)
  where
    one : Among o (y ∷ []) → o ≡ y
    one (inl same) = same
    one (inr none) = absurd none

-- the node at a place is among them
pub among_at : (xs : List ℕ) (i d : ℕ) → i < length xs → Among (slice_index_or xs i d) xs
among_at [] i d low = absurd (omega arith)
among_at (x ∷ xs) zero d low = inl refl
among_at (x ∷ xs) (suc i) d low = inr (among_at xs i d (omega arith))

-- a list with one node less
pub once_last : (xs : List ℕ) (y : ℕ) → IsOnce xs → (Among y xs → ⊥) → IsOnce (xs ++ y ∷ [])
once_last [] y once apart = (λ a. a, tt)
once_last (x ∷ xs) y once apart = (
  λ a. elim (among_cases x xs (y ∷ []) a) [ inl l ↦ once.0 l | inr r ↦ apart (inl (sym (one r))) ],
  once_last xs y once.1 (λ a. apart (inr a)),
)
  where
    one : {x : ℕ} → Among x (y ∷ []) → x ≡ y
    one (inl same) = same
    one (inr none) = absurd none

pub left_among : (xs : List ℕ) (i o : ℕ) → Among o (remove xs i) → Among o xs
left_among [] zero o a = a
left_among [] (suc i) o a = a
left_among (x ∷ xs) zero o a = inr a
left_among (x ∷ xs) (suc i) o (inl same) = inl same
left_among (x ∷ xs) (suc i) o (inr a) = inr (left_among xs i o a)

pub once_left : (xs : List ℕ) (i : ℕ) → IsOnce xs → IsOnce (remove xs i)
once_left [] zero once = tt
once_left [] (suc i) once = tt
once_left (x ∷ xs) zero once = once.1
once_left (x ∷ xs) (suc i) once = (λ a. once.0 (left_among xs i x a), once_left xs i once.1)

-- the node taken out is among them no more, and every other one stays
pub taken_out : (xs : List ℕ) (i y d o : ℕ) → i < length xs → slice_index_or xs i d ≡ y → IsOnce xs
    → Among o (remove xs i) ↔ (Among o xs × (o ≡ y → ⊥))
taken_out [] i y d o low is once = absurd (omega arith)
taken_out (x ∷ xs) zero y d o low is once = (
  λ a. (inr a, λ same. once.0 (subst (λ (z : ℕ). Among z xs) (same ∙ sym is) a)),
  λ a. at_head a.0 a.1,
)
  where
    at_head : Among o (x ∷ xs) → (o ≡ y → ⊥) → Among o xs
    at_head (inl same) other = absurd (other (same ∙ is))
    at_head (inr a) other = a
taken_out (x ∷ xs) (suc i) y d o low is once = (
  λ a. further (taken_out xs i y d o (omega arith) is once.1).0 a,
  λ a. back (taken_out xs i y d o (omega arith) is once.1).1 a.0 a.1,
)
  where
    within : Among y xs
    within = subst (λ (z : ℕ). Among z xs) is (among_at xs i d (omega arith))

    further : (Among o (remove xs i) → Among o xs × (o ≡ y → ⊥)) → Among o (x ∷ remove xs i) → Among o (x ∷ xs)
        × (o ≡ y → ⊥)
    further on (inl same) = (inl same, λ e. once.0 (subst (λ (z : ℕ). Among z xs) (sym e ∙ same) within))
    further on (inr a) = let r = on a in (inr r.0, r.1)

    back : (Among o xs × (o ≡ y → ⊥) → Among o (remove xs i)) → Among o (x ∷ xs) → (o ≡ y → ⊥)
        → Among o (x ∷ remove xs i)
    back on (inl same) other = inl same
    back on (inr a) other = inr (on (a, other))

-- what a search of a list by equality finds
pub found_place : (xs : List ℕ) (y i d : ℕ) → position (λ x. x == y) xs ≡ Some i → (i < length xs)
    × (slice_index_or xs i d ≡ y)
found_place xs y i d e = let p = position-Some (λ x. x == y) xs i d e in (p.0, eqb-true _ y p.1)

-- a node that is among them is found
found_first : (xs : List ℕ) (y : ℕ) → Among y xs → position_or_len (λ x. x == y) xs < length xs
found_first [] y a = absurd a
found_first (x ∷ xs) y (inl same) = let e = eq-eqb x y (sym same) in rw e (omega arith)
found_first (x ∷ xs) y (inr a) = step (x == y) (found_first xs y a)
  where
    step : (b : Bool) → position_or_len (λ z. z == y) xs < length xs
        → cond (not b) (1 + position_or_len (λ z. z == y) xs) 0 < suc (length xs)
    step true low = omega arith
    step false low = omega arith

pub none_found : (xs : List ℕ) (y : ℕ) → position (λ x. x == y) xs ≡ None → Among y xs → ⊥
none_found xs y none a = let e = lt-ltb _ _ (found_first xs y a) in none_some (rw e at none)
  where
    none_some : Some (position_or_len (λ x. x == y) xs) ≡ None → ⊥
    none_some e = cc

-- an item that a loop over a list is at
pub among_item : (xs : List ℕ) (i y : ℕ) → i < length xs → y ≡ slice_index_or xs i y → Among y xs
among_item xs i y low is = subst (λ (z : ℕ). Among z xs) (sym is) (among_at xs i y low)
