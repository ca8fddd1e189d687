-- How many pairs there are, by slots and by lists of subjects.
use Rattle.std.proofs.Common.{◌≡◌, inl, inr, ℕ, zero, suc, ◌+◌, Bool, true, false, List, [], ◌∷◌, length, ◌<◌, ◌≤◌, arith, refl, ap, ◌∙◌, Option, Some, None, cond, eqb}
use Rattle.std.specs.Prelude.{is_some, count_by}
use Rattle.std.specs.List.{sum_by}
use Rattle.std.proofs.lemmas.Bool.{eqb-true, eq-eqb, cases_eq}
use Rattle.std.proofs.lemmas.List.Sums.{sum_by_push, sum_by-cons}
use Rattle.edge_lists.specs.declared.edge.Edge.{Edge}
use Rattle.edge_lists.specs.declared.edge.Side.TheVariants.{Subject, Observer}
use Rattle.edge_lists.specs.Ends.{node_of, slot_at}
use Rattle.edge_lists.specs.EdgesView.{EdgesView, IsWhole, pair_count, subjects_in, subject_lists, below}
use Rattle.edge_lists.specs.Walks.{node_at}
use Rattle.edge_lists.proofs.Linking.{live_within}
use Rattle.edge_lists.proofs.Walking.{pair_of}

-- the lengths of the lists of the numbers below n, together
abbrev total : List (Option Edge) → ℕ → ℕ
total slots zero = 0
total slots (suc n) = total slots n + length (subjects_in slots n)

total_is : (slots : List (Option Edge)) (n : ℕ) → sum_by length (below (subjects_in slots) n) ≡ total slots n
total_is slots zero = refl
total_is slots (suc n) = sum_by_push length (below (subjects_in slots) n) (subjects_in slots n)
    ∙ ap (λ (k : ℕ). k + length (subjects_in slots n)) (total_is slots n)

none_total : (n : ℕ) → total [] n ≡ 0
none_total zero = refl
none_total (suc n) = let t = none_total n in omega arith

vacant_total : (slots : List (Option Edge)) (n : ℕ) → total (None ∷ slots) n ≡ total slots n
vacant_total slots zero = refl
vacant_total slots (suc n) = ap (λ (k : ℕ). k + length (subjects_in slots n)) (vacant_total slots n)

more_here : (edge : Edge) (slots : List (Option Edge)) (o : ℕ) → edge.observer.node ≡ o
    → length (subjects_in (Some edge ∷ slots) o) ≡ suc (length (subjects_in slots o))
more_here edge slots o same = ap (λ (b : Bool). length (cond b (edge.subject.node ∷ subjects_in slots o) (subjects_in slots o)))
    (eq-eqb edge.observer.node o same)

same_there : (edge : Edge) (slots : List (Option Edge)) (o : ℕ) → (edge.observer.node ≡ o → ⊥)
    → length (subjects_in (Some edge ∷ slots) o) ≡ length (subjects_in slots o)
same_there edge slots o other = by (eqb edge.observer.node o) refl
  where
    by : (b : Bool) → eqb edge.observer.node o ≡ b
        → length (cond b (edge.subject.node ∷ subjects_in slots o) (subjects_in slots o)) ≡ length (subjects_in slots o)
    by true is = absurd (other (eqb-true edge.observer.node o is))
    by false is = refl

past_total : (edge : Edge) (slots : List (Option Edge)) (n : ℕ) → n ≤ edge.observer.node
    → total (Some edge ∷ slots) n ≡ total slots n
past_total edge slots zero past = refl
past_total edge slots (suc n) past =
    let t = past_total edge slots n (omega arith) in
    let s = same_there edge slots n (λ same. absurd (omega arith)) in omega arith

held_total : (edge : Edge) (slots : List (Option Edge)) (n : ℕ) → edge.observer.node < n
    → total (Some edge ∷ slots) n ≡ suc (total slots n)
held_total edge slots zero low = absurd (omega arith)
held_total edge slots (suc n) low = elim (cases_eq edge.observer.node n) [
  | inl same ↦ let t = past_total edge slots n (omega arith) in let m = more_here edge slots n same in omega arith
  | inr other ↦ let t = held_total edge slots n (omega arith) in let m = same_there edge slots n other in omega arith
]

abbrev AreBelow : List (Option Edge) → ℕ → Type 0
AreBelow slots n = (k o : ℕ) → node_of Observer (slot_at slots k) ≡ Some o → o < n

total_count : (slots : List (Option Edge)) (n : ℕ) → AreBelow slots n → total slots n ≡ count_by is_some slots
total_count [] n low = none_total n
total_count (None ∷ slots) n low = vacant_total slots n ∙ total_count slots n (λ k o is. low (suc k) o is)
total_count (Some edge ∷ slots) n low =
    let h = held_total edge slots n (low 0 edge.observer.node refl) in
    let t = total_count slots n (λ k o is. low (suc k) o is) in
    let more : count_by is_some (Some edge ∷ slots) ≡ 1 + count_by is_some slots =
    sum_by-cons (λ slot. cond (is_some slot) 1 0) (Some edge) slots in omega arith

-- each pair stands once in the lists
pub listed_count : (v : EdgesView) → IsWhole v → sum_by length (subject_lists v) ≡ pair_count v
listed_count v whole = total_is v.slots (length v.nodes) ∙ total_count v.slots (length v.nodes)
    (λ k o is. live_within v.nodes o (whole.ends (node_at Subject v.slots k) o (pair_of Observer v.slots k o is)).1)
