-- The registrations of watchers as a set of pairs that stands in one order.
use Rattle.std.specs.Prelude.{◌≡◌, ◌⊎◌, ◌↔◌, ◌<◌, ℕ, List, [], ◌∷◌}
use Rattle.walks.specs.Walk.{Among}
use Rattle.desk_model.specs.Told.{registered}
use Rattle.desk_model.specs.Effect.{with_pair, without_pair, without_pairs}

-- the watcher w is registered with o
abbrev pub IsPairIn : ℕ → ℕ → List (ℕ × ℕ) → Type 0
IsPairIn w o [] = ⊥
IsPairIn w o (pair ∷ pairs) = ((w ≡ pair.0) × (o ≡ pair.1)) ⊎ IsPairIn w o pairs

-- one pair stands before another: by watcher and then by object
abbrev pub ComesBefore : ℕ × ℕ → ℕ → ℕ → Type 0
ComesBefore pair w o = (pair.0 < w) ⊎ ((pair.0 ≡ w) × (pair.1 < o))

-- each pair stands before all later ones, so each is there once
abbrev pub AreInOrder : List (ℕ × ℕ) → Type 0
AreInOrder [] = Unit {0}
AreInOrder (pair ∷ pairs) = ((w o : ℕ) → IsPairIn w o pairs → ComesBefore pair w o) × AreInOrder pairs

-- REGISTRATIONS ARE A SET: one more, one less, and none of x change who is registered with whom and nothing else; they
-- keep the order, and two in order with the same pairs are the same.
pub record AreASet (pairs : List (ℕ × ℕ)) : Type 0 where
  pub registered : (w o : ℕ) → Among o (registered pairs w) ↔ IsPairIn w o pairs
  pub more : (w o v y : ℕ) → IsPairIn v y (with_pair w o pairs) ↔ (IsPairIn v y pairs ⊎ ((v ≡ w) × (y ≡ o)))
  pub fewer : (w o v y : ℕ) → IsPairIn v y (without_pair w o pairs) ↔ (IsPairIn v y pairs × ((v ≡ w) × (y ≡ o) → ⊥))
  pub dropped : (x v y : ℕ) → IsPairIn v y (without_pairs x pairs) ↔ (IsPairIn v y pairs × ((v ≡ x) ⊎ (y ≡ x) → ⊥))
  pub more_in_order : AreInOrder pairs → (w o : ℕ) → AreInOrder (with_pair w o pairs)
  pub fewer_in_order : AreInOrder pairs → (w o : ℕ) → AreInOrder (without_pair w o pairs)
  pub dropped_in_order : AreInOrder pairs → (x : ℕ) → AreInOrder (without_pairs x pairs)
  pub same : AreInOrder pairs → (others : List (ℕ × ℕ)) → AreInOrder others
      → ((w o : ℕ) → IsPairIn w o pairs ↔ IsPairIn w o others) → pairs ≡ others

abbrev pub RegistrationsAreASet : Type 0
RegistrationsAreASet = (pairs : List (ℕ × ℕ)) → AreASet pairs
