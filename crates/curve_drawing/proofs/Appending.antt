-- A text that is appended part by part.
use Rattle.std.proofs.Common.{◌≡◌, ℕ, ◌+◌, ◌<◌, ◌≤◌, List, [], ◌∷◌, ◌++◌, length, get_or, drop, sym, ◌∙◌, ap}
use Rattle.std.proofs.lemmas.List.{append_assoc, append-nil, drop_more, drop_all}

-- a part of each item, in order: the parts of the items before a place are written, and now that of the item there
pub parts_more : {A B : Type 0} (part : A → List B) (all : List A → List B) (steps : (x : A) (xs : List A) → all (x ∷ xs) ≡ part x ++ all xs)
    (xs : List A) (at : ℕ) (x : A) (old new whole : List B) → at < length xs → x ≡ get_or xs at x → new ≡ old ++ part x
    → old ++ all (drop at xs) ≡ whole → new ++ all (drop (at + 1) xs) ≡ whole
parts_more {A} {B} part all steps xs at x old new whole within is wrote so_far =
    let rest = all (drop (at + 1) xs) in
    ap (λ (l : List B). l ++ rest) wrote
    ∙ append_assoc old (part x) rest
    ∙ ap (λ (l : List B). old ++ l) (sym (steps x (drop (at + 1) xs)))
    ∙ ap (λ (l : List A). old ++ all l) (sym (drop_more xs at x within ∙ ap (λ (y : A). y ∷ drop (at + 1) xs) (sym is)))
    ∙ so_far

-- all are written
pub parts_end : {A B : Type 0} (all : List A → List B) (none : all [] ≡ []) (xs : List A) (at : ℕ) (old whole : List B)
    → length xs ≤ at → old ++ all (drop at xs) ≡ whole → old ≡ whole
parts_end {A} {B} all none xs at old whole past so_far =
    sym (append-nil old)
    ∙ ap (λ (l : List B). old ++ l) (sym none)
    ∙ ap (λ (l : List A). old ++ all l) (sym (drop_all at xs past))
    ∙ so_far
