-- What reweighting leaves as it is.
use Rattle.std.proofs.Common.{◌≡◌, ℕ, Bool, true, false, List, [], ◌∷◌, ◌++◌, ℤ, of_z, w64, refl, sym, ◌∙◌, ap}
use Rattle.std.specs.Prelude.{◌==◌, if◌then◌else◌, ◌||◌, pos}
use Rattle.std.specs.Ordering.{int_eq}
use Rattle.std.proofs.lemmas.Bool.Decides.{Decides-int_eq}
use Rattle.std.proofs.lemmas.Bool.{false≢true, false_from_ne_true}
use Rattle.desk_terms.specs.declared.terms.Part.{Part}
use Rattle.desk_model.specs.Changeable.{weight_of, has_member, without_member, reweighted, with_member}

-- who is no member weighs nothing
pub no_weight : (parts : List Part) (member : ℕ) → has_member parts member ≡ false → weight_of parts member ≡ pos 0
no_weight [] member none = refl
no_weight (part ∷ parts) member none = by_same (part.member == member) none (λ e. no_weight parts member e)
  where
    by_same : (b : Bool) → (b || has_member parts member) ≡ false → (has_member parts member ≡ false → weight_of parts member ≡ pos 0)
        → (if b then part.weight else weight_of parts member) ≡ pos 0
    by_same true none rest = absurd (cc)
    by_same false none rest = rest none

pub not_zero : (weight : ℤ) → (of_z w64 weight ≡ 0 → ⊥) → int_eq weight (pos 0) ≡ false
not_zero weight some = false_from_ne_true (int_eq weight (pos 0)) (λ e. some (ap (of_z w64) ((Decides-int_eq weight (pos 0)).0 e)))

-- who is no member and is given a weight is given one that is not 0
pub some_weight : (parts : List Part) (member : ℕ) (weight : ℤ) → has_member parts member ≡ false → int_eq (weight_of parts member) weight ≡ false
    → int_eq weight (pos 0) ≡ false
some_weight parts member weight none differs = false_from_ne_true (int_eq weight (pos 0)) (λ e.
    false≢true (sym differs ∙ ap (λ (w : ℤ). int_eq w weight) (no_weight parts member none)
    ∙ (Decides-int_eq (pos 0) weight).1 (sym ((Decides-int_eq weight (pos 0)).0 e))))

pub with_new : (parts : List Part) (member : ℕ) (weight : ℤ) → int_eq weight (pos 0) ≡ false → has_member parts member ≡ false
    → parts ++ record { weight = weight; member = member } ∷ [] ≡ with_member parts member weight
with_new parts member weight some none =
    sym (ap (λ (b : Bool). if b then without_member parts member else if has_member parts member then reweighted parts member weight else parts ++ record { weight = weight; member = member } ∷ []) some
    ∙ ap (λ (b : Bool). if b then reweighted parts member weight else parts ++ record { weight = weight; member = member } ∷ []) none)

pub with_other : (parts : List Part) (member : ℕ) (weight : ℤ) → int_eq weight (pos 0) ≡ false → has_member parts member ≡ true
    → reweighted parts member weight ≡ with_member parts member weight
with_other parts member weight some there =
    sym (ap (λ (b : Bool). if b then without_member parts member else if has_member parts member then reweighted parts member weight else parts ++ record { weight = weight; member = member } ∷ []) some
    ∙ ap (λ (b : Bool). if b then reweighted parts member weight else parts ++ record { weight = weight; member = member } ∷ []) there)
