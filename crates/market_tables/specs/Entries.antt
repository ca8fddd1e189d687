-- The entries of a section, and their faults by their numbers.
use Rattle.std.specs.Prelude.{◌≡◌, ℕ, ◌+◌, ◌-◌, ◌^◌, min, Result, Ok, Err}
use Rattle.toml.specs.Data.{Data, Items, no_items, item}
use Rattle.market_tables.specs.declared.fault.MarketKind.{MarketKind}
use Rattle.market_tables.specs.declared.fault.TableFault.{TableFault}
use Rattle.market_tables.specs.declared.fault.TableFault.TheVariants as table
use Rattle.market_tables.specs.declared.entries.EntryFault.{EntryFault}
use Rattle.market_tables.specs.declared.entries.EntryFault.TheVariants as entries
use Rattle.market_tables.specs.Given.{◌>>=◌}

-- a fault with the number of its entry
abbrev pub at_entry : {Y : Type 0} → ℕ → Result Y MarketKind → Result Y (ℕ × MarketKind)
at_entry n (Ok y) = Ok y
at_entry n (Err k) = Err (n, k)

abbrev pub fault_at : ℕ → TableFault → EntryFault
fault_at n table.NoMemory = entries.NoMemory
fault_at n (table.Kind k) = entries.At n k

-- the number after an entry's; no file has as many entries as 32 bits count
abbrev pub next_entry : ℕ → ℕ
next_entry n = min (n + 1) (2 ^ 32 - 1)

-- what stands behind the tables of a section, numbered from n on, or the first fault with its entry's number
abbrev pub entries_from : {S : Type 0} → (S → Data → Result S MarketKind) → S → ℕ → Items → Result S (ℕ × MarketKind)
entries_from behind s n no_items = Ok s
entries_from behind s n (item d ds) = at_entry n (behind s d) >>= (λ t. entries_from behind t (next_entry n) ds)

-- the fault is the definition's; want of memory says nothing
abbrev pub FailsAt : {Y : Type 0} → EntryFault → Result Y (ℕ × MarketKind) → Type 0
FailsAt entries.NoMemory told = Unit {0}
FailsAt (entries.At n k) told = told ≡ Err (n, k)

-- what was returned, seen by view, is what the definition gives, unless memory ran out
abbrev pub GivesAt : {X Y : Type 0} → (X → Y) → Result X EntryFault → Result Y (ℕ × MarketKind) → Type 0
GivesAt view (Ok x) told = told ≡ Ok (view x)
GivesAt view (Err e) told = FailsAt e told
