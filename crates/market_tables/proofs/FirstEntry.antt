-- The first entry with a fault, and the entries that are taken, by what the reader gives.
use Rattle.std.proofs.Common.{◌≡◌, ◌≤◌, ◌<◌, ◌⊎◌, inl, inr, ℕ, zero, suc, ◌+◌, ◌-◌, ◌^◌, List, [], ◌∷◌, Result, Ok, Err, Some, refl, sym, ap, ◌∙◌, arith}
use Rattle.std.specs.Prelude.{min, slice_get, take}
use Rattle.std.proofs.Math.Nat.{min-le_right, min-eq_left, min-eq_right}
use Rattle.toml.specs.Data.{Data, Items, no_items, item}
use Rattle.market_tables.specs.declared.fault.MarketKind.{MarketKind}
use Rattle.market_tables.specs.Given.{◌>>=◌}
use Rattle.market_tables.specs.Entries.{at_entry, next_entry, entries_from}
use Rattle.market_tables.specs.Faulty.{listed, AreTaken, number_at, IsFirstFaulty}

-- the number of the entry at a place, where the first has this number
abbrev pub numbered : ℕ → ℕ → ℕ
numbered m zero = m
numbered m (suc at) = numbered (next_entry m) at

min_of_min : (big m at : ℕ) → m ≤ big → min (min (m + 1) big + at) big ≡ min (m + suc at) big
min_of_min big m at h = by (cases_le (m + 1) big)
  where
    cases_le : (a b : ℕ) → (a ≤ b) ⊎ (b < a)
    cases_le zero b = inl (omega arith)
    cases_le (suc a) zero = inr (omega arith)
    cases_le (suc a) (suc b) = elim (cases_le a b) [
      | inl le ↦ inl (omega (arith, le))
      | inr lt ↦ inr (omega (arith, lt))
    ]

    by : ((m + 1) ≤ big) ⊎ (big < m + 1) → min (min (m + 1) big + at) big ≡ min (m + suc at) big
    by (inl le) = ap (λ n. min (n + at) big) (min-eq_left le) ∙ ap (λ n. min n big) (omega arith)
    by (inr lt) =
        ap (λ n. min (n + at) big) (min-eq_right (omega (arith, lt)))
        ∙ min-eq_right (omega arith) ∙ sym (min-eq_right (omega (arith, lt)))

numbered_is : (m at : ℕ) → m ≤ 2 ^ 32 - 1 → numbered m at ≡ min (m + at) (2 ^ 32 - 1)
numbered_is m zero h = sym (ap (λ n. min n (2 ^ 32 - 1)) (omega arith) ∙ min-eq_left h)
numbered_is m (suc at) h = numbered_is (next_entry m) at (min-le_right (m + 1) (2 ^ 32 - 1)) ∙ min_of_min (2 ^ 32 - 1) m at h

numbered_at : (at : ℕ) → numbered 1 at ≡ number_at at
numbered_at at = numbered_is 1 at (omega arith) ∙ ap (λ n. min n (2 ^ 32 - 1)) (omega arith)

-- what stands behind entries that are numbered from n on, or the first fault with its number
abbrev pub from : {S X : Type 0} → (S → X → Result S MarketKind) → S → ℕ → List X → Result S (ℕ × MarketKind)
from behind s m [] = Ok s
from behind s m (x ∷ xs) = at_entry m (behind s x) >>= (λ t. from behind t (next_entry m) xs)

module _ {S : Type 0} (behind : S → Data → Result S MarketKind) where
  tables_are : (s : S) (m : ℕ) (ds : Items) → entries_from behind s m ds ≡ from behind s m (listed ds)
  tables_are s m no_items = refl
  tables_are s m (item d ds) = by (behind s d) (λ t. tables_are t (next_entry m) ds)
    where
      by : (r : Result S MarketKind) → ((t : S) → entries_from behind t (next_entry m) ds ≡ from behind t (next_entry m) (listed ds))
          → (at_entry m r >>= (λ t. entries_from behind t (next_entry m) ds)) ≡ (at_entry m r >>= (λ t. from behind t (next_entry m) (listed ds)))
      by (Ok t) ih = ih t
      by (Err k) ih = refl

-- the fault that is answered
abbrev pub fault_of : {Y : Type 0} → ℕ × MarketKind → Result Y (ℕ × MarketKind) → ℕ × MarketKind
fault_of e (Ok y) = e
fault_of e (Err f) = f

module _ {S X : Type 0} (behind : S → X → Result S MarketKind) where
  pub taken_of : (s : S) (m : ℕ) (xs : List X) (t : S) → from behind s m xs ≡ Ok t → AreTaken behind s xs t
  taken_of s m [] t h = cc h
  taken_of s m (x ∷ xs) t h = by (behind s x) refl h (λ u. taken_of u (next_entry m) xs t)
    where
      by : (r : Result S MarketKind) → behind s x ≡ r → (at_entry m r >>= (λ u. from behind u (next_entry m) xs)) ≡ Ok t
          → ((u : S) → from behind u (next_entry m) xs ≡ Ok t → AreTaken behind u xs t) → AreTaken behind s (x ∷ xs) t
      by (Ok u) e h ih = (u, e, ih u h)
      by (Err k) e h ih = cc h

  pub of_taken : (s : S) (m : ℕ) (xs : List X) (t : S) → AreTaken behind s xs t → from behind s m xs ≡ Ok t
  of_taken s m [] t h = ap Ok h
  of_taken s m (x ∷ xs) t (u, e, more) = rw e (of_taken u (next_entry m) xs t more)

  -- the first with a fault, where the first entry has this number
  record First (s : S) (m : ℕ) (xs : List X) (n : ℕ) (k : MarketKind) : Type 0 where
    pub at : ℕ
    pub number : n ≡ numbered m at
    pub entry : X
    pub there : slice_get xs at ≡ Some entry
    pub standing : S
    pub before : AreTaken behind s (take at xs) standing
    pub has : behind standing entry ≡ Err k

  first_of : (s : S) (m : ℕ) (xs : List X) (n : ℕ) (k : MarketKind) → from behind s m xs ≡ Err (n, k) → First s m xs n k
  first_of s m [] n k h = cc h
  first_of s m (x ∷ xs) n k h = by (behind s x) refl h (λ u. first_of u (next_entry m) xs n k)
    where
      by : (r : Result S MarketKind) → behind s x ≡ r → (at_entry m r >>= (λ u. from behind u (next_entry m) xs)) ≡ Err (n, k)
          → ((u : S) → from behind u (next_entry m) xs ≡ Err (n, k) → First u (next_entry m) xs n k) → First s m (x ∷ xs) n k
      by (Ok u) e h ih =
          let more = ih u h in
          record { at = suc more.at; number = more.number; entry = more.entry; there = more.there; standing = more.standing; before = (u, e, more.before); has = more.has }
      by (Err k2) e h ih =
          let same : (m, k2) ≡ (n, k) = ap (fault_of (m, k2)) h in
          record { at = 0; number = sym (ap (λ f. f.0) same); entry = x; there = refl; standing = s; before = refl; has = e ∙ ap Err (ap (λ f. f.1) same) }

  of_first : (s : S) (m : ℕ) (xs : List X) (n : ℕ) (k : MarketKind) → First s m xs n k → from behind s m xs ≡ Err (n, k)
  of_first s m [] n k f = absurd (none f.at f.there)
    where
      none : (at : ℕ) → slice_get [] at ≡ Some f.entry → ⊥
      none zero h = cc h
      none (suc at) h = cc h
  of_first s m (x ∷ xs) n k f = by f.at f.number f.there f.before (λ u. of_first u (next_entry m) xs n k)
    where
      by : (at : ℕ) → n ≡ numbered m at → slice_get (x ∷ xs) at ≡ Some f.entry → AreTaken behind s (take at (x ∷ xs)) f.standing
          → ((u : S) → First u (next_entry m) xs n k → from behind u (next_entry m) xs ≡ Err (n, k)) → from behind s m (x ∷ xs) ≡ Err (n, k)
      by zero number there before ih =
          let same : x ≡ f.entry = cc there in
          rw (same, before, f.has) (ap Err (ap (λ (i : ℕ). (i, k)) (sym number)))
      by (suc at) number there (u, e, before) ih =
          rw e (ih u (record { at = at; number = number; entry = f.entry; there = there; standing = f.standing; before = before; has = f.has }))

  pub to_first : (s : S) (xs : List X) (n : ℕ) (k : MarketKind) → from behind s 1 xs ≡ Err (n, k) → IsFirstFaulty behind s xs n k
  to_first s xs n k h =
      let f = first_of s 1 xs n k h in
      record { at = f.at; number = f.number ∙ numbered_at f.at; entry = f.entry; there = f.there; standing = f.standing; before = f.before; has = f.has }

  pub from_first : (s : S) (xs : List X) (n : ℕ) (k : MarketKind) → IsFirstFaulty behind s xs n k → from behind s 1 xs ≡ Err (n, k)
  from_first s xs n k f =
      of_first s 1 xs n k (record { at = f.at; number = f.number ∙ sym (numbered_at f.at); entry = f.entry; there = f.there; standing = f.standing; before = f.before; has = f.has })

-- the tables of a section
module _ {S : Type 0} (behind : S → Data → Result S MarketKind) where
  pub tables_taken : (s : S) (ds : Items) (t : S) → entries_from behind s 1 ds ≡ Ok t → AreTaken behind s (listed ds) t
  tables_taken s ds t h = taken_of behind s 1 (listed ds) t (sym (tables_are behind s 1 ds) ∙ h)

  pub taken_tables : (s : S) (ds : Items) (t : S) → AreTaken behind s (listed ds) t → entries_from behind s 1 ds ≡ Ok t
  taken_tables s ds t h = tables_are behind s 1 ds ∙ of_taken behind s 1 (listed ds) t h

  pub tables_faulty : (s : S) (ds : Items) (n : ℕ) (k : MarketKind) → entries_from behind s 1 ds ≡ Err (n, k) → IsFirstFaulty behind s (listed ds) n k
  tables_faulty s ds n k h = to_first behind s (listed ds) n k (sym (tables_are behind s 1 ds) ∙ h)

  pub faulty_tables : (s : S) (ds : Items) (n : ℕ) (k : MarketKind) → IsFirstFaulty behind s (listed ds) n k → entries_from behind s 1 ds ≡ Err (n, k)
  faulty_tables s ds n k f = tables_are behind s 1 ds ∙ from_first behind s (listed ds) n k f
