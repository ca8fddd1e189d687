-- The records of a table, taken one by one.
use Rattle.std.specs.Prelude.{◌≡◌, ℕ, zero, suc, Bool, if◌then◌else◌, List, [], ◌∷◌, Result, Ok, Err, IfErr}
use Rattle.market_tables.specs.declared.fault.MarketKind.{MarketKind}
use Rattle.market_tables.specs.declared.fault.MarketKind.TheVariants as fault
use Rattle.market_tables.specs.declared.entries.EntryFault.{EntryFault}
use Rattle.market_tables.specs.declared.entries.EntryFault.TheVariants as entries
use Rattle.market_tables.specs.Given.{◌>>=◌}
use Rattle.market_tables.specs.Entries.{at_entry, next_entry}

-- what stands behind the last record, so many records read: a table without a first record is refused
abbrev pub unless_headless : {S : Type 0} → S → ℕ → Result S (ℕ × MarketKind)
unless_headless s zero = Err (0, fault.Header)
unless_headless s (suc n) = Ok s

-- what stands behind the record with this number: the first is the stated one and says nothing
abbrev pub record_step : {S : Type 0} → (List (List ℕ) → Bool) → (S → List (List ℕ) → Result S MarketKind) → S → ℕ → List (List ℕ) → Result S (ℕ × MarketKind)
record_step header behind s zero row = if header row then Ok s else Err (0, fault.Header)
record_step header behind s (suc n) row = at_entry (suc n) (behind s row)

-- what stands behind the records of a table, numbered from n on, or the first fault with its record's number
abbrev pub behind_records : {S : Type 0} → (List (List ℕ) → Bool) → (S → List (List ℕ) → Result S MarketKind) → S → ℕ → List (List (List ℕ)) → Result S (ℕ × MarketKind)
behind_records header behind s n [] = unless_headless s n
behind_records header behind s n (row ∷ rows) =
    record_step header behind s n row >>= (λ t. behind_records header behind t (next_entry n) rows)

-- a fault that the definition gives is what was returned, whatever the memory
abbrev pub RefusesAt : {X Y : Type 0} → Result X EntryFault → Result Y (ℕ × MarketKind) → Type 0
RefusesAt result told = IfErr told (λ e. result ≡ Err (entries.At e.0 e.1))
