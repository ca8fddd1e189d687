-- The first fault of a table of records, said of them one by one and without the reader.
use Rattle.std.specs.Prelude.{◌≡◌, ℕ, Bool, true, false, List, [], ◌∷◌, drop, Result}
use Rattle.market_tables.specs.declared.fault.MarketKind.{MarketKind}
use Rattle.market_tables.specs.declared.fault.MarketKind.TheVariants as fault
use Rattle.market_tables.specs.Faulty.{AreTaken, IsFirstFaulty}

-- the first record is the stated one
abbrev pub has_header : (List (List ℕ) → Bool) → List (List (List ℕ)) → Bool
has_header header [] = false
has_header header (row ∷ rows) = header row

-- the records of a table are taken: the first is the stated one, and those behind it are without a fault
pub record AreRecordsTaken {S : Type 0} (header : List (List ℕ) → Bool) (behind : S → List (List ℕ) → Result S MarketKind) (s : S) (rows : List (List (List ℕ))) (t : S) : Type 0 where
  pub headed : has_header header rows ≡ true
  pub taken : AreTaken behind s (drop 1 rows) t

-- record n of a table is the first with a fault, and this is its first: the first of all is record 0
pub data IsFirstFaultyRecord {S : Type 0} (header : List (List ℕ) → Bool) (behind : S → List (List ℕ) → Result S MarketKind) (s : S) (rows : List (List (List ℕ))) (n : ℕ) (k : MarketKind) : Type 0 where
  headless : has_header header rows ≡ false → n ≡ 0 → k ≡ fault.Header → IsFirstFaultyRecord header behind s rows n k
  in_record : has_header header rows ≡ true → IsFirstFaulty behind s (drop 1 rows) n k → IsFirstFaultyRecord header behind s rows n k
