-- Linked pairs as lists of subjects.
use Rattle.std.proofs.Common.{◌≡◌, ◌⊎◌, inl, inr, ℕ, zero, suc, ◌+◌, List, [], ◌∷◌, ◌++◌, length, refl, sym, ap, ◌∙◌, subst, arith, Option, Some, None}
use Rattle.std.specs.Prelude.{◌↔◌, IsSome, slice_index_or}
use Rattle.std.specs.List.{sum_by}
use Rattle.std.proofs.lemmas.List.{length-append, get_or_past}
use Rattle.walks.specs.Walk.{Among}
use Rattle.edge_lists.specs.EdgesView.{EdgesView, IsPair, IsWhole, pair_count, subjects_of, subject_lists, with_node, no_heads, below}
use Rattle.edge_lists.proofs.Counting.{listed_count}
use Rattle.edge_lists.proofs.Listing.{among_subjects, subject_list, length_below}
use Rattle.observer_graph.specs.Lists.{list_at}

module _ {A : Type 0} where
  pub last_some : (xs : List (Option A)) (x : A) → IsSome (slice_index_or (xs ++ Some x ∷ []) (length xs) None)
  last_some [] x = refl
  last_some (y ∷ xs) x = last_some xs x

  pub front_some : (xs : List (Option A)) (y : Option A) (o : ℕ) → IsSome (slice_index_or xs o None) → IsSome (slice_index_or (xs ++ y ∷ []) o None)
  front_some [] y zero live = absurd (cc)
  front_some [] y (suc o) live = absurd (cc)
  front_some (x ∷ xs) y zero live = live
  front_some (x ∷ xs) y (suc o) live = front_some xs y o live

pub among_listed : (v : EdgesView) → IsWhole v → (x o : ℕ) → Among x (list_at (subject_lists v) o) ↔ IsPair v x o
among_listed v whole x o = (
  λ a. (among_subjects v x o).0 (subst (λ (xs : List ℕ). Among x xs) (subject_list v whole o) a),
  λ p. subst (λ (xs : List ℕ). Among x xs) (sym (subject_list v whole o)) ((among_subjects v x o).1 p),
)

-- the lists after a change have the pairs more that the slots have more, and those less that the slots have less
module _ (v w : EdgesView) (R : ℕ → ℕ → Type 0) where
  pub listed_more : IsWhole v → IsWhole w → ((x o : ℕ) → IsPair w x o ↔ (IsPair v x o ⊎ R x o))
      → (x o : ℕ) → Among x (list_at (subject_lists w) o) ↔ (Among x (list_at (subject_lists v) o) ⊎ R x o)
  listed_more whole_v whole_w pairs x o = (
    λ a. elim ((pairs x o).0 ((among_listed w whole_w x o).0 a)) [
      | inl p ↦ inl ((among_listed v whole_v x o).1 p)
      | inr r ↦ inr r
    ],
    λ q. (among_listed w whole_w x o).1 ((pairs x o).1 (elim q [
      | inl a ↦ inl ((among_listed v whole_v x o).0 a)
      | inr r ↦ inr r
    ])),
  )

  pub listed_less : IsWhole v → IsWhole w → ((x o : ℕ) → IsPair w x o ↔ (IsPair v x o × R x o))
      → (x o : ℕ) → Among x (list_at (subject_lists w) o) ↔ (Among x (list_at (subject_lists v) o) × R x o)
  listed_less whole_v whole_w pairs x o = (
    λ a. let p = (pairs x o).0 ((among_listed w whole_w x o).0 a) in ((among_listed v whole_v x o).1 p.0, p.1),
    λ q. (among_listed w whole_w x o).1 ((pairs x o).1 ((among_listed v whole_v x o).0 q.0, q.1)),
  )

-- a node more: its list is empty
pub with_node_lists : (v : EdgesView) → IsWhole v → subject_lists (with_node v) ≡ subject_lists v ++ [] ∷ []
with_node_lists v whole =
    let len = length-append v.nodes (Some no_heads ∷ []) in
    let more : length (v.nodes ++ Some no_heads ∷ []) ≡ suc (length v.nodes) = omega arith in
    ap (below (subjects_of v)) more ∙ ap (λ (xs : List ℕ). subject_lists v ++ xs ∷ []) grown
  where
    grown : subjects_of v (length v.nodes) ≡ []
    grown = sym (subject_list v whole (length v.nodes)) ∙ get_or_past (subject_lists v) (length v.nodes) []
        (let l = length_below (subjects_of v) (length v.nodes) in omega arith)

-- the lists have as many pairs as there are, so where places and pairs together are as many as before, the same holds of
-- places and lists
pub spare_listed : (v w : EdgesView) → IsWhole v → IsWhole w → w.spare + pair_count w ≡ v.spare + pair_count v
    → w.spare + sum_by length (subject_lists w) ≡ v.spare + sum_by length (subject_lists v)
spare_listed v w whole_v whole_w same =
    let a = listed_count v whole_v in let b = listed_count w whole_w in omega arith
