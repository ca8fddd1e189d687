-- Who has an object among its edges.
use Rattle.std.proofs.Common.{◌≡◌, inl, inr, ℕ, zero, suc, ◌+◌, ◌<◌, Bool, true, false, length, Option, Some, None, refl, sym, ◌∙◌, ap, subst, arith}
use Rattle.std.specs.Prelude.{◌==◌, if◌then◌else◌}
use Rattle.std.specs.List.{list_any}
use Rattle.std.proofs.lemmas.Bool.{cases_eq, cases_lt, eq-eqb, false≢true}
use Rattle.std.proofs.lemmas.List.{get_or_past}
use Rattle.walks.specs.Walk.{Among}
use Rattle.walks.proofs.Walks.{member_any}
use Rattle.desk_model.specs.declared.slot.Slot.{Slot}
use Rattle.desk_model.specs.declared.slot.Slot.TheVariants.{Free}
use Rattle.desk_model.specs.Market.{Market, terms_in, edges_of, edges, or_number, least_where, least_user}
use Rattle.desk_model.proofs.Paths.{least_none}

-- the first that passes is the least
pub least_first : (passes : ℕ → Bool) (n x : ℕ) → least_where passes x ≡ None → passes x ≡ true → x < n → least_where passes n ≡ Some x
least_first passes zero x none here low = absurd (omega arith)
least_first passes (suc n) x none here low = elim (cases_eq x n) [
  | inl same ↦
      subst (λ (m : ℕ). or_number (least_where passes m) (if passes m then Some m else None) ≡ Some x) same
      (ap (λ (r : Option ℕ). or_number r (if passes x then Some x else None)) none ∙ ap (λ (b : Bool). if b then Some x else None) here)
  | inr other ↦ ap (λ (r : Option ℕ). or_number r (if passes n then Some n else None)) (least_first passes n x none here (omega arith))
]

-- WHERE NO OBJECT IS THE LEAST USER, no edge leads to x
pub none_uses : (m : Market) (x : ℕ) → least_user m x ≡ None → (o : ℕ) → Among x (edges m o) → ⊥
none_uses m x none o among = elim (cases_lt o (length m.objects)) [
  | inl within ↦ false≢true (sym (least_none (λ z. list_any (λ y. x == y) (edges m z)) (length m.objects) o none within) ∙ member_any (λ y. x == y) x (edges m o) among (eq-eqb x x refl))
  | inr past ↦ absurd (subst (λ (t : Slot). Among x (edges_of (terms_in t))) (get_or_past m.objects o Free past) among)
]
