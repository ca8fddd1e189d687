-- The faults of a market, by section, entry and kind (this project's profile).
use Rattle.std.specs.Prelude.{◌≡◌, ℕ, List, codes, Result, Ok, Err, IfErr}
use Rattle.market_tables.specs.declared.fault.MarketKind.{MarketKind}
use Rattle.market_tables.specs.declared.fault.TableFault.{TableFault}
use Rattle.market_tables.specs.declared.fault.TableFault.TheVariants as table
use Rattle.market_tables.specs.declared.entries.EntryFault.{EntryFault}
use Rattle.market_tables.specs.declared.entries.EntryFault.TheVariants as entries
use Rattle.market_file.specs.declared.fault.Section.{Section}
use Rattle.market_file.specs.declared.fault.Section.TheVariants as section
use Rattle.market_file.specs.declared.fault.MarketFault.{MarketFault}
use Rattle.market_file.specs.declared.fault.MarketFault.TheVariants as market

-- the word that a section prints as
abbrev pub section_text : Section → List ℕ
section_text section.Top = codes "top"
section_text section.Calendars = codes "calendars"
section_text section.Quotes = codes "quotes"
section_text section.Objects = codes "objects"
section_text section.Fixings = codes "fixings"

-- a fault by its place: section, entry and kind
abbrev pub Fault : Type 0
Fault = Section × ℕ × MarketKind

-- the fault of an entry of a section
abbrev pub at_entry : {Y : Type 0} → Section → ℕ → Result Y MarketKind → Result Y Fault
at_entry s n (Ok y) = Ok y
at_entry s n (Err k) = Err (s, n, k)

-- a fault that has its entry, with its section
abbrev pub in_section : {Y : Type 0} → Section → Result Y (ℕ × MarketKind) → Result Y Fault
in_section s (Ok y) = Ok y
in_section s (Err e) = Err (s, e.0, e.1)

abbrev pub fault_at : Section → ℕ → TableFault → MarketFault
fault_at s n table.NoMemory = market.NoMemory
fault_at s n (table.Kind k) = market.At s n k

abbrev pub fault_in : Section → EntryFault → MarketFault
fault_in s entries.NoMemory = market.NoMemory
fault_in s (entries.At n k) = market.At s n k

-- the fault is the definition's; want of memory says nothing
abbrev pub FailsWith : {Y : Type 0} → MarketFault → Result Y Fault → Type 0
FailsWith market.NoMemory told = Unit {0}
FailsWith (market.At s n k) told = told ≡ Err (s, n, k)

-- what was returned, seen by view, is what the definition gives, unless memory ran out
abbrev pub Answers : {X Y : Type 0} → (X → Y) → Result X MarketFault → Result Y Fault → Type 0
Answers view (Ok x) told = told ≡ Ok (view x)
Answers view (Err e) told = FailsWith e told

-- what was returned, seen by view, is what the definition gives, and no want of memory
abbrev pub States : {X Y : Type 0} → (X → Y) → Result X MarketFault → Result Y Fault → Type 0
States view (Ok x) told = told ≡ Ok (view x)
States view (Err market.NoMemory) told = ⊥
States view (Err (market.At s n k)) told = told ≡ Err (s, n, k)

-- a fault that the definition gives is what was returned, whatever the memory
abbrev pub Refuses : {X Y : Type 0} → Result X MarketFault → Result Y Fault → Type 0
Refuses result told = IfErr told (λ e. result ≡ Err (market.At e.0 e.1 e.2))
