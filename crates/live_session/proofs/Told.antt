-- The texts of names, one by one.
use Rattle.std.proofs.Common.{◌≡◌, ℕ, ◌+◌, ◌<◌, ◌≤◌, List, [], ◌∷◌, ◌++◌, length, drop, map, get_or, sym, ap, ◌∙◌, append_assoc}
use Rattle.std.proofs.lemmas.List.{append-nil, drop_more, drop_all}
use Rattle.live_session.proofs.Learnt.{Next}

-- so many are told, and the others are left
module _ (f : ℕ → List ℕ) (numbers : List ℕ) (texts : List (List ℕ)) (k : ℕ) (left : texts ++ map f (drop k numbers) ≡ map f numbers) where
  pub told_all : length numbers ≤ k → texts ≡ map f numbers
  told_all most = sym (append-nil texts) ∙ ap (λ (l : List ℕ). texts ++ map f l) (sym (drop_all k numbers most)) ∙ left

  module _ (n : ℕ) (is : n ≡ get_or numbers k n) (within : k < length numbers) where
    pub whole : map f numbers ≡ texts ++ f n ∷ map f (drop (k + 1) numbers)
    whole = sym left ∙ ap (λ (l : List ℕ). texts ++ map f l) (drop_more numbers k n within)
        ∙ ap (λ (x : ℕ). texts ++ f x ∷ map f (drop (k + 1) numbers)) (sym is)

    abbrev pub told_next : Next texts (map f numbers)
    told_next = record { text = f n; rest = map f (drop (k + 1) numbers); whole = whole }

    pub told_more : (new : List (List ℕ)) → new ≡ texts ++ f n ∷ [] → new ++ map f (drop (k + 1) numbers) ≡ map f numbers
    told_more new grown = ap (λ (l : List (List ℕ)). l ++ map f (drop (k + 1) numbers)) grown
        ∙ append_assoc texts (f n ∷ []) (map f (drop (k + 1) numbers)) ∙ sym whole
