-- What lies beneath a node on paths whose inner nodes pass a test.
use Rattle.std.proofs.Common.{◌≡◌, ◌⊎◌, inl, inr, ℕ, Bool, true, false, List, refl, sym, subst}
use Rattle.std.specs.Prelude.{◌==◌, ◌||◌}
use Rattle.std.proofs.lemmas.Bool.{eqb-true, eq-eqb}
use Rattle.walks.specs.Walk.{Among, Below}
use Rattle.walks.specs.Walk.Below.{next, beyond}
use Rattle.walks.proofs.Ranks.{meets_on, meets_next}

abbrev pub Leads : (ℕ → List ℕ) → (ℕ → Bool) → ℕ → ℕ → Type 0
Leads reads through from to = (from ≡ to) ⊎ Below reads (λ y. y == to) through from

-- The walk goes on beneath this node: it begins there, or the node passes.
abbrev pub GoesOn : (ℕ → Bool) → ℕ → ℕ → Type 0
GoesOn through from y = (y ≡ from) ⊎ (through y ≡ true)

module _ (reads : ℕ → List ℕ) (through : ℕ → Bool) (from : ℕ) where
  -- one step further down
  pub leads_on : (y x : ℕ) → Among x (reads y) → GoesOn through from y → Leads reads through from y
      → Leads reads through from x
  leads_on y x a on (inl same) = inr (meets_next reads through x from
      (subst (λ (z : ℕ). Among x (reads z)) (sym same) a))
  leads_on y x a (inl same) (inr below) = inr (meets_next reads through x from
      (subst (λ (z : ℕ). Among x (reads z)) same a))
  leads_on y x a (inr passes) (inr below) = inr (meets_on reads (λ z. z == x) through y from passes
      (meets_next reads through x y a) below)

  -- a set that has the node where the walk begins, and what each of it reads beneath which the walk goes on, has all
  pub leads_all : (IsIn : ℕ → Type 0) → IsIn from
      → ((y x : ℕ) → IsIn y → GoesOn through from y → Among x (reads y) → IsIn x)
      → (to : ℕ) → Leads reads through from to → IsIn to
  leads_all IsIn first closed to (inl same) = subst IsIn same first
  leads_all IsIn first closed to (inr below) = further from first (inl refl) below
    where
      further : (o : ℕ) → IsIn o → GoesOn through from o → Below reads (λ y. y == to) through o → IsIn to
      further o here goes (next {x = x} a is) = subst IsIn (eqb-true x to is) (closed o x here goes a)
      further o here goes (beyond {x = x} a passes below) = further x (closed o x here goes a) (inr passes) below

  or_true : (a b : Bool) → (a || b) ≡ true → (a ≡ true) ⊎ (b ≡ true)
  or_true true b e = inl refl
  or_true false b e = inr e

  true_or : (a b : Bool) → (a ≡ true) ⊎ (b ≡ true) → (a || b) ≡ true
  true_or true b e = refl
  true_or false b (inl e) = absurd (cc)
  true_or false b (inr e) = e

  -- the same by a test
  pub goes_of : (y : ℕ) → ((y == from) || through y) ≡ true → GoesOn through from y
  goes_of y e = elim (or_true (y == from) (through y) e) [ inl is ↦ inl (eqb-true y from is) | inr passes ↦ inr passes ]

  pub goes_by : (y : ℕ) → GoesOn through from y → ((y == from) || through y) ≡ true
  goes_by y goes = true_or (y == from) (through y) (elim goes [ inl same ↦ inl (eq-eqb y from same) | inr passes ↦ inr passes ])
