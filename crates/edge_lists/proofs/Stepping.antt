-- Steps from number to number that come to an end.
use Rattle.std.proofs.Common.{◌≡◌, inl, inr, ℕ, zero, suc, ◌+◌, ◌<◌, List, [], ◌∷◌, length, refl, sym, ap, ◌∙◌, subst, arith, Option, Some, None}
use Rattle.walks.specs.Walk.{Among, IsOnce}
use Rattle.edge_lists.specs.Walks.{steps_by}
use Rattle.walks.proofs.Counting.{few_below}

-- the steps end within so many
abbrev pub Ends : (ℕ → Option ℕ) → ℕ → Option ℕ → Type 0
Ends next zero found = found ≡ None
Ends next (suc n) None = Unit {0}
Ends next (suc n) (Some k) = Ends next n (next k)

pub ends_more : (next : ℕ → Option ℕ) (n : ℕ) (found : Option ℕ) → Ends next n found
    → steps_by next (suc n) found ≡ steps_by next n found
unfolding steps_by
ends_more next zero None ends = refl
ends_more next zero (Some k) ends = absurd (cc)
ends_more next (suc n) None ends = refl
ends_more next (suc n) (Some k) ends = ap (λ (xs : List ℕ). k ∷ xs) (ends_more next n (next k) ends)

-- among the steps, and the steps after it
pub steps_on : (next : ℕ → Option ℕ) (n : ℕ) (found : Option ℕ) → Ends next n found → (j k : ℕ)
    → Among j (steps_by next n found) → next j ≡ Some k → Among k (steps_by next n found)
unfolding steps_by
steps_on next zero found ends j k a leads = absurd a
steps_on next (suc n) None ends j k a leads = absurd a
steps_on next (suc n) (Some i) ends j k (inr a) leads = inr (steps_on next n (next i) ends j k a leads)
steps_on next (suc n) (Some i) ends j k (inl same) leads = inr (head n (next i) ends (ap next (sym same) ∙ leads))
  where
    head : (n : ℕ) (found : Option ℕ) → Ends next n found → found ≡ Some k → Among k (steps_by next n found)
    head zero found ends is = absurd (cc)
    head (suc n) None ends is = absurd (cc)
    head (suc n) (Some h) ends is = inl (cc)

-- what holds of the first holds of all, where each step keeps it
pub steps_keep : (next : ℕ → Option ℕ) (P : ℕ → Type 0) → ((j k : ℕ) → P j → next j ≡ Some k → P k)
    → (n : ℕ) (found : Option ℕ) → ((k : ℕ) → found ≡ Some k → P k) → (k : ℕ) → Among k (steps_by next n found) → P k
unfolding steps_by
steps_keep next P keeps zero found first k a = absurd a
steps_keep next P keeps (suc n) None first k a = absurd a
steps_keep next P keeps (suc n) (Some i) first k (inl same) = subst P (sym same) (first i refl)
steps_keep next P keeps (suc n) (Some i) first k (inr a) =
    steps_keep next P keeps n (next i) (λ j leads. keeps i j (first i refl) leads) k a

-- an order along the steps, and a bound on their numbers
module _ (next : ℕ → Option ℕ) (Before : ℕ → ℕ → Type 0)
    (apart : (k : ℕ) → Before k k → ⊥)
    (onward : (i j k : ℕ) → Before i j → Before j k → Before i k)
    (falls : (k j : ℕ) → next k ≡ Some j → Before k j) where
  pub steps_after : (n i : ℕ) (k : ℕ) → Among k (steps_by next n (next i)) → Before i k
  steps_after n i k a = steps_keep next (λ k. Before i k) (λ j k b leads. onward i j k b (falls j k leads)) n (next i)
      (λ k leads. falls i k leads) k a

  pub steps_once : (n : ℕ) (found : Option ℕ) → IsOnce (steps_by next n found)
  unfolding steps_by
  steps_once zero found = tt
  steps_once (suc n) None = tt
  steps_once (suc n) (Some k) = ((λ a. apart k (steps_after n k k a)), steps_once n (next k))

  module _ (size : ℕ) (low : (k j : ℕ) → next k ≡ Some j → j < size) where
    ends_from : (n : ℕ) (seen : List ℕ) (found : Option ℕ) → length seen + n ≡ size → IsOnce seen
        → ((x : ℕ) → Among x seen → x < size) → ((x k : ℕ) → Among x seen → found ≡ Some k → Before x k)
        → ((k : ℕ) → found ≡ Some k → k < size) → Ends next n found
    ends_from zero seen None long once below seen_before within = refl
    ends_from zero seen (Some k) long once below seen_before within =
        let few = few_below size (k ∷ seen) ((λ a. apart k (seen_before k k a refl)), once)
        (λ x a. elim a [ inl same ↦ subst (λ (z : ℕ). z < size) (sym same) (within k refl) | inr b ↦ below x b ]) in
        absurd (omega arith)
    ends_from (suc n) seen None long once below seen_before within = tt
    ends_from (suc n) seen (Some k) long once below seen_before within =
        ends_from n (k ∷ seen) (next k) (omega arith) ((λ a. apart k (seen_before k k a refl)), once)
        (λ x a. elim a [ inl same ↦ subst (λ (z : ℕ). z < size) (sym same) (within k refl) | inr b ↦ below x b ])
        (λ x j a leads. elim a [
          | inl same ↦ subst (λ (z : ℕ). Before z j) (sym same) (falls k j leads)
          | inr b ↦ onward x k j (seen_before x k b refl) (falls k j leads)
        ])
        (λ j leads. low k j leads)

    pub all_end : (found : Option ℕ) → ((k : ℕ) → found ≡ Some k → k < size) → Ends next size found
    all_end found within = ends_from size [] found (omega arith) tt (λ x a. absurd a) (λ x k a leads. absurd a) within

-- the first step, and those after it
pub steps_first : (next : ℕ → Option ℕ) (n k : ℕ) → Ends next n (Some k)
    → steps_by next n (Some k) ≡ k ∷ steps_by next n (next k)
unfolding steps_by
steps_first next zero k ends = absurd (cc)
steps_first next (suc n) k ends = ap (λ (xs : List ℕ). k ∷ xs) (sym (ends_more next n (next k) ends))

-- the first number is among the steps from it
at_first : (next : ℕ → Option ℕ) (n k : ℕ) (found : Option ℕ) → Ends next n found → found ≡ Some k
    → Among k (steps_by next n found)
unfolding steps_by
at_first next zero k found e is = absurd (cc)
at_first next (suc n) k None e is = absurd (cc)
at_first next (suc n) k (Some h) e is = inl (cc)

-- every number whose steps back end at the first one is among the steps from it
module _ (next last : ℕ → Option ℕ) (P : ℕ → Type 0) (size : ℕ) (first : Option ℕ) (ends : Ends next size first)
    (begins : (k : ℕ) → P k → last k ≡ None → first ≡ Some k)
    (back : (k j : ℕ) → P k → last k ≡ Some j → P j × (next j ≡ Some k)) where
  reached_by : (n : ℕ) (found : Option ℕ) → Ends last n found → (k : ℕ) → last k ≡ found → P k
      → Among k (steps_by next size first)
  reached_by zero None e k is here = at_first next size k first ends (begins k here is)
  reached_by (suc n) None e k is here = at_first next size k first ends (begins k here is)
  reached_by zero (Some j) e k is here = absurd (cc)
  reached_by (suc n) (Some j) e k is here =
      let was = back k j here is in
      steps_on next size first ends j k (reached_by n (last j) e j refl was.0) was.1

  pub reached : (n k : ℕ) → Ends last n (last k) → P k → Among k (steps_by next size first)
  reached n k e here = reached_by n (last k) e k refl here

-- no steps from nothing
pub none_steps : (next : ℕ → Option ℕ) (n k : ℕ) → Among k (steps_by next n None) → ⊥
unfolding steps_by
none_steps next zero k a = a
none_steps next (suc n) k a = a
