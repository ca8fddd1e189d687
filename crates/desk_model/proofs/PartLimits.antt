-- The parts of a composite stay within their limits where a weight changes.
use Rattle.std.proofs.Common.{◌≡◌, inl, inr, ℕ, ◌≤◌, Bool, true, false, List, [], ◌∷◌, ◌++◌, ℤ, refl, sym, ◌∙◌, ap}
use Rattle.std.specs.Prelude.{if◌then◌else◌, ◌==◌, pos, unsigned_abs}
use Rattle.std.specs.Ordering.{int_eq}
use Rattle.std.proofs.lemmas.Bool.{false≢true, eqb-false, or_from, or_parts}
use Rattle.std.proofs.lemmas.Bool.Decides.{eqb_tells}
use Rattle.desk_terms.specs.declared.terms.Part.{Part}
use Rattle.desk_terms.specs.Parts.{IsWeight, AreEachInRange}
use Rattle.desk_model.specs.Changeable.{has_member, without_member, reweighted, with_member}

swapped : (a b : ℕ) → (a == b) ≡ false → (b == a) ≡ false
swapped a b other = elim (eqb_tells b a) [
  | inl same ↦ absurd (eqb-false a b other (sym same.1))
  | inr differs ↦ differs.0
]

-- what is no member is none of the parts that a change leaves
none_without : (parts : List Part) (member x : ℕ) → has_member parts x ≡ false → has_member (without_member parts member) x ≡ false
none_without [] member x none = refl
none_without (part ∷ parts) member x none =
    by_same (part.member == member) (none_without parts member x (or_parts _ _ none).1)
  where
    by_same : (b : Bool) → has_member (without_member parts member) x ≡ false
        → has_member (if b then without_member parts member else part ∷ without_member parts member) x ≡ false
    by_same true rest = rest
    by_same false rest = or_from _ _ (or_parts _ _ none).0 rest

none_reweighted : (parts : List Part) (member : ℕ) (weight : ℤ) (x : ℕ) → has_member parts x ≡ false
    → has_member (reweighted parts member weight) x ≡ false
none_reweighted [] member weight x none = refl
none_reweighted (part ∷ parts) member weight x none =
    by_same (part.member == member) (none_reweighted parts member weight x (or_parts _ _ none).1)
  where
    by_same : (b : Bool) → has_member (reweighted parts member weight) x ≡ false
        → has_member (if b then record part { weight = weight } ∷ reweighted parts member weight else part ∷ reweighted parts member weight) x ≡ false
    by_same true rest = or_from _ _ (or_parts _ _ none).0 rest
    by_same false rest = or_from _ _ (or_parts _ _ none).0 rest

none_appended : (parts : List Part) (part : Part) (x : ℕ) → has_member parts x ≡ false → (part.member == x) ≡ false
    → has_member (parts ++ part ∷ []) x ≡ false
none_appended [] part x none other = or_from _ _ other refl
none_appended (p ∷ parts) part x none other =
    or_from _ _ (or_parts _ _ none).0 (none_appended parts part x (or_parts _ _ none).1 other)

each_without : (parts : List Part) (member : ℕ) → AreEachInRange parts → AreEachInRange (without_member parts member)
each_without [] member each = tt
each_without (part ∷ parts) member each = by_same (part.member == member) (each_without parts member each.1.1)
  where
    by_same : (b : Bool) → AreEachInRange (without_member parts member)
        → AreEachInRange (if b then without_member parts member else part ∷ without_member parts member)
    by_same true rest = rest
    by_same false rest = (each.0, (none_without parts member part.member each.1.0, rest))

each_reweighted : (parts : List Part) (member : ℕ) (weight : ℤ) → IsWeight weight → AreEachInRange parts
    → AreEachInRange (reweighted parts member weight)
each_reweighted [] member weight is each = tt
each_reweighted (part ∷ parts) member weight is each =
    by_same (part.member == member) (each_reweighted parts member weight is each.1.1)
  where
    by_same : (b : Bool) → AreEachInRange (reweighted parts member weight)
        → AreEachInRange (if b then record part { weight = weight } ∷ reweighted parts member weight else part ∷ reweighted parts member weight)
    by_same true rest = (is, (none_reweighted parts member weight part.member each.1.0, rest))
    by_same false rest = (each.0, (none_reweighted parts member weight part.member each.1.0, rest))

each_appended : (parts : List Part) (part : Part) → IsWeight part.weight → has_member parts part.member ≡ false
    → AreEachInRange parts → AreEachInRange (parts ++ part ∷ [])
each_appended [] part is none each = (is, (refl, tt))
each_appended (p ∷ parts) part is none each = (
  each.0,
  (
    none_appended parts part p.member each.1.0 (swapped p.member part.member (or_parts _ _ none).0),
    each_appended parts part is (or_parts _ _ none).1 each.1.1,
  ),
)

-- with another weight of a member, which is 0 or within its limit
pub each_with : (parts : List Part) (member : ℕ) (weight : ℤ) → unsigned_abs weight ≤ 1_000_000 → AreEachInRange parts
    → AreEachInRange (with_member parts member weight)
each_with parts member weight limit each = by_weight (int_eq weight (pos 0)) refl
  where
    by_member : (b : Bool) → has_member parts member ≡ b → IsWeight weight
        → AreEachInRange (if b then reweighted parts member weight else parts ++ record { weight = weight; member = member } ∷ [])
    by_member true has is = each_reweighted parts member weight is each
    by_member false none is = each_appended parts (record { weight = weight; member = member }) is none each

    by_weight : (b : Bool) → int_eq weight (pos 0) ≡ b
        → AreEachInRange (if b then without_member parts member else if has_member parts member then reweighted parts member weight else parts ++ record { weight = weight; member = member } ∷ [])
    by_weight true zero_ = each_without parts member each
    by_weight false some =
        by_member (has_member parts member) refl ((λ e. false≢true (sym some ∙ ap (λ (w : ℤ). int_eq w (pos 0)) e)), limit)
