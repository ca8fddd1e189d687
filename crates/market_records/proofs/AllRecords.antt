-- The records of a text by their function, beside those that a reader reaches one by one.
use Rattle.std.proofs.Common.{◌≡◌, ◌≢◌, ◌⊎◌, inl, inr, ℕ, zero, suc, ◌+◌, ◌<◌, Bool, true, false, cond, Result, Ok, Err, List, [], ◌∷◌, length, Option, Some, None, refl, sym, ap, ◌∙◌, arith}
use Rattle.std.specs.Prelude.{unwrap_or}
use Rattle.csv.specs.Machine.{Read, next_record, step, ends_at_end, is_end, fields_after, field_after}
use Rattle.csv.specs.Reading.{Reached, AreRecords, records, records_from, records_next}
use Rattle.market_tables.specs.declared.fault.MarketKind.{MarketKind}
use Rattle.market_tables.specs.declared.fault.MarketKind.TheVariants.{Header}
use Rattle.market_tables.specs.declared.entries.EntryFault.{EntryFault}
use Rattle.market_tables.specs.declared.entries.EntryFault.TheVariants as entries
use Rattle.market_tables.specs.Entries.{FailsAt, next_entry}
use Rattle.market_records.specs.Records.{record_step, behind_records, unless_headless}
use Rattle.csv.specs.declared.parser.Config.{Config}
use Rattle.csv.specs.declared.parser.State.{State}
use Rattle.csv.specs.declared.parser.State.TheVariants as st

same_read : (p q : Read) → Some p ≡ Some q → p ≡ q
same_read p q e = ap (λ o. unwrap_or o p) e

-- less than before is left, or nothing
abbrev pub Shorter : ℕ → Read → Type 0
Shorter n p = (length p.2 < n) ⊎ ((p.1 ≡ st.StartRecord) × (p.2 ≡ []))

at_end : (b : Bool) (q p : Read) (n : ℕ) → q.1 ≡ st.StartRecord → q.2 ≡ [] → cond b (Some q) None ≡ Some p → Shorter n p
at_end true q p n a c e = let same = same_read q p e in inr (rw (← same) a, rw (← same) c)
at_end false q p n a c e = cc e

-- a record takes bytes, or is the last
shorter : (cfg : Config) (s : State) (fields : List (List ℕ)) (field xs : List ℕ) (p : Read) → next_record cfg s fields field xs ≡ Some p → Shorter (length xs) p
unfolding next_record
shorter cfg s fields field [] p e = at_end (ends_at_end s) _ p 0 refl refl e
shorter cfg s fields field (c ∷ rest) p e =
    one (is_end (step cfg s c).1) (fields_after (step cfg s c).1 fields field, (step cfg s c).0, rest) _ refl
    (shorter cfg (step cfg s c).0 (fields_after (step cfg s c).1 fields field) (field_after (step cfg s c).1 c field) rest p) e
  where
    one : (b : Bool) (q : Read) (more : Option Read) → q.2 ≡ rest → (more ≡ Some p → Shorter (length rest) p) → cond b (Some q) more ≡ Some p → Shorter (suc (length rest)) p
    one true q more same ih h = inl (let e2 = ap length (ap (λ (r : Read). r.2) (sym (same_read q p h)) ∙ same) in omega (arith, e2))
    one false q more same ih h = elim (ih h) [
      | inl less ↦ inl (omega (arith, less))
      | inr last ↦ inr last
    ]

nothing_left : (cfg : Config) → next_record cfg st.StartRecord [] [] [] ≡ None
unfolding next_record
nothing_left cfg = refl

-- from a state on, where so many records are enough
are_records_from : (cfg : Config) (n : ℕ) (s : State) (xs : List ℕ) → (length xs < n) ⊎ ((s ≡ st.StartRecord) × (xs ≡ [])) → AreRecords cfg s xs (records_from cfg n s xs)
unfolding Reached records_from
are_records_from cfg zero s xs (inl h) = absurd (omega (arith, h))
are_records_from cfg zero s xs (inr h) = (s, xs, (refl, refl), rw (h.0, h.1) (nothing_left cfg))
are_records_from cfg (suc n) s xs h = by (λ s2 xs2. are_records_from cfg n s2 xs2) (next_record cfg s [] [] xs) refl
  where
    left : (p : Read) → Shorter (length xs) p → (length p.2 < n) ⊎ ((p.1 ≡ st.StartRecord) × (p.2 ≡ []))
    left p (inl less) = elim h [
      | inl fits ↦ inl (omega (arith, less, fits))
      | inr none ↦ absurd (let e = ap length none.1 in omega (arith, less, e))
    ]
    left p (inr last) = inr last

    by : ((s2 : State) (xs2 : List ℕ) → (length xs2 < n) ⊎ ((s2 ≡ st.StartRecord) × (xs2 ≡ [])) → AreRecords cfg s2 xs2 (records_from cfg n s2 xs2)) → (o : Option Read) → next_record cfg s [] [] xs ≡ o → AreRecords cfg s xs (records_next (records_from cfg n) o)
    by ih None e = (s, xs, (refl, refl), e)
    by ih (Some p) e =
        let more = ih p.1 p.2 (left p (shorter cfg s [] [] xs p e)) in
        (more.0, more.1, (p, e, refl, more.2), more.3)

-- the records of a text are all its records
pub are_records : (cfg : Config) (xs : List ℕ) → AreRecords cfg st.StartRecord xs (records cfg xs)
are_records cfg xs = are_records_from cfg (length xs + 1) st.StartRecord xs (inl (omega arith))

-- what is left of the records behind one that was read
pub record Behind (cfg : Config) (s : State) (xs : List ℕ) (row : List (List ℕ)) (rows : List (List (List ℕ))) : Type 0 where
  pub rest : List (List (List ℕ))
  pub first : rows ≡ row ∷ rest
  pub all : AreRecords cfg s xs rest

pub one_more : (cfg : Config) (a b : State) (y z : List ℕ) (row : List (List ℕ)) (rows : List (List (List ℕ))) → AreRecords cfg a y rows → Reached cfg a y (row ∷ []) b z → Behind cfg b z row rows
unfolding Reached
one_more cfg a b y z row [] (s, ys, (same, left), none) (p, found, is, at) = absurd (clash (sym found ∙ rw (same, left) none))
  where
    clash : Some p ≢ None
    clash e = cc e
one_more cfg a b y z row (r ∷ rs) (s, ys, (q, next, head, reached), none) (p, found, is, (at, left)) =
    let same : q ≡ p = same_read q p (sym next ∙ found) in
    record {
      rest = rs;
      first = ap (λ t. t ∷ rs) (head ∙ ap (λ (t : Read). t.0) same ∙ sym is);
      all = (s, ys, rw (← at, ← left, ← same) reached, none);
    }

-- where no record is read, none is left
pub none_left : (cfg : Config) (a : State) (y : List ℕ) (rows : List (List (List ℕ))) → AreRecords cfg a y rows → next_record cfg a [] [] y ≡ None → rows ≡ []
unfolding Reached
none_left cfg a y [] all e = refl
none_left cfg a y (r ∷ rs) (s, ys, (q, next, head, reached), none) e = absurd (clash (sym next ∙ e))
  where
    clash : Some q ≢ None
    clash h = cc h

module _ {S : Type 0} (header : List (List ℕ) → Bool) (behind : S → List (List ℕ) → Result S MarketKind) where
  -- a record that was taken: the others leave what all leave
  pub goes_on : (s t : S) (n : ℕ) (row : List (List ℕ)) (rows rest : List (List (List ℕ))) (total : Result S (ℕ × MarketKind))
      → rows ≡ row ∷ rest → record_step header behind s n row ≡ Ok t → behind_records header behind s n rows ≡ total → behind_records header behind t (next_entry n) rest ≡ total
  goes_on s t n row rows rest total first took all = rw (first, took) at all

  -- a record that was refused: its fault is that of all
  pub stops : (s : S) (n : ℕ) (row : List (List ℕ)) (rows rest : List (List (List ℕ))) (total : Result S (ℕ × MarketKind)) (e : EntryFault)
      → rows ≡ row ∷ rest → FailsAt e (record_step header behind s n row) → behind_records header behind s n rows ≡ total → FailsAt e total
  stops s n row rows rest total entries.NoMemory first told all = tt
  stops s n row rows rest total (entries.At m k) first told all = sym (rw (first, told) at all)

  -- where none is left, all leave what stands, if there was a header
  pub ends : (s : S) (n : ℕ) (rest : List (List (List ℕ))) (total : Result S (ℕ × MarketKind))
      → rest ≡ [] → behind_records header behind s n rest ≡ total → total ≡ unless_headless s n
  ends s n rest total none all = sym (rw none at all)

pub headed : {S : Type 0} (s : S) (n : ℕ) → n ≢ 0 → unless_headless s n ≡ Ok s
headed s zero h = absurd (h refl)
headed s (suc n) h = refl

pub headless : {S : Type 0} (s : S) (n : ℕ) → n ≡ 0 → unless_headless s n ≡ Err (0, Header)
headless s zero h = refl
headless s (suc n) h = absurd (omega (arith, h))
