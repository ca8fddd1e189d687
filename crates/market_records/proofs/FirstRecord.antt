-- The first record with a fault, and the records that are taken, by what the reader gives.
use Rattle.std.proofs.Common.{◌≡◌, ◌≢◌, ◌≤◌, ℕ, zero, suc, Bool, true, false, List, [], ◌∷◌, Result, Ok, Err, refl, sym, ap, ◌∙◌, arith}
use Rattle.std.specs.Prelude.{drop}
use Rattle.std.proofs.Math.Nat.{le-min}
use Rattle.market_tables.specs.declared.fault.MarketKind.{MarketKind}
use Rattle.market_tables.specs.declared.fault.MarketKind.TheVariants.{Header}
use Rattle.market_tables.specs.Given.{◌>>=◌}
use Rattle.market_tables.specs.Entries.{at_entry, next_entry}
use Rattle.market_tables.proofs.FirstEntry.{fault_of, from, taken_of, of_taken, to_first, from_first}
use Rattle.market_records.specs.Records.{behind_records}
use Rattle.market_records.specs.Faulty.{has_header, AreRecordsTaken, IsFirstFaultyRecord, headless, in_record}

module _ {S : Type 0} (header : List (List ℕ) → Bool) (behind : S → List (List ℕ) → Result S MarketKind) where
  not_first : (n : ℕ) → next_entry n ≢ 0
  not_first n e = let one : 1 ≤ next_entry n = le-min (omega arith) (omega arith) in omega (arith, one, e)

  records_are : (s : S) (m : ℕ) (rows : List (List (List ℕ))) → m ≢ 0 → behind_records header behind s m rows ≡ from behind s m rows
  records_are s zero rows h = absurd (h refl)
  records_are s (suc m) [] h = refl
  records_are s (suc m) (row ∷ rows) h = by (behind s row) (λ t. records_are t (next_entry (suc m)) rows (not_first (suc m)))
    where
      by : (r : Result S MarketKind) → ((t : S) → behind_records header behind t (next_entry (suc m)) rows ≡ from behind t (next_entry (suc m)) rows)
          → (at_entry (suc m) r >>= (λ t. behind_records header behind t (next_entry (suc m)) rows)) ≡ (at_entry (suc m) r >>= (λ t. from behind t (next_entry (suc m)) rows))
      by (Ok t) ih = ih t
      by (Err k) ih = refl

-- the records of a table
module _ {S : Type 0} (header : List (List ℕ) → Bool) (behind : S → List (List ℕ) → Result S MarketKind) where
  -- the records behind the first
  headed : (s : S) (rows : List (List (List ℕ))) → has_header header rows ≡ true → behind_records header behind s 0 rows ≡ from behind s 1 (drop 1 rows)
  headed s [] h = cc h
  headed s (row ∷ rows) h = rw h (records_are header behind s 1 rows (λ e. omega (arith, e)))

  headless_rows : (s : S) (rows : List (List (List ℕ))) → has_header header rows ≡ false → behind_records header behind s 0 rows ≡ Err (0, Header)
  headless_rows s [] h = refl
  headless_rows s (row ∷ rows) h = rw h refl

  pub records_taken : (s : S) (rows : List (List (List ℕ))) (t : S) → behind_records header behind s 0 rows ≡ Ok t → AreRecordsTaken header behind s rows t
  records_taken s rows t h = by (has_header header rows) refl
    where
      by : (b : Bool) → has_header header rows ≡ b → AreRecordsTaken header behind s rows t
      by true is = record { headed = is; taken = taken_of behind s 1 (drop 1 rows) t (sym (headed s rows is) ∙ h) }
      by false is = cc (sym (headless_rows s rows is) ∙ h)

  pub taken_records : (s : S) (rows : List (List (List ℕ))) (t : S) → AreRecordsTaken header behind s rows t → behind_records header behind s 0 rows ≡ Ok t
  taken_records s rows t h = headed s rows h.headed ∙ of_taken behind s 1 (drop 1 rows) t h.taken

  pub records_faulty : (s : S) (rows : List (List (List ℕ))) (n : ℕ) (k : MarketKind) → behind_records header behind s 0 rows ≡ Err (n, k)
      → IsFirstFaultyRecord header behind s rows n k
  records_faulty s rows n k h = by (has_header header rows) refl
    where
      by : (b : Bool) → has_header header rows ≡ b → IsFirstFaultyRecord header behind s rows n k
      by true is = in_record is (to_first behind s (drop 1 rows) n k (sym (headed s rows is) ∙ h))
      by false is =
          let same : (0, Header) ≡ (n, k) = ap (fault_of (0, Header)) (sym (headless_rows s rows is) ∙ h) in
          headless is (sym (ap (λ f. f.0) same)) (sym (ap (λ f. f.1) same))

  pub faulty_records : (s : S) (rows : List (List (List ℕ))) (n : ℕ) (k : MarketKind) → IsFirstFaultyRecord header behind s rows n k
      → behind_records header behind s 0 rows ≡ Err (n, k)
  faulty_records s rows n k (headless is number kind) = headless_rows s rows is ∙ rw (number, kind) refl
  faulty_records s rows n k (in_record is first) = headed s rows is ∙ from_first behind s (drop 1 rows) n k first
