-- The first fault of a section's entries, and of a table, said of them one by one and without the reader.
use Rattle.std.specs.Prelude.{◌≡◌, ℕ, ◌+◌, ◌-◌, ◌^◌, true, false, min, List, [], ◌∷◌, take, slice_get, Option, Some, IsOk, Result, Ok, Err}
use Rattle.toml.specs.Data.{Data, Items, no_items, item, Members}
use Rattle.market_tables.specs.declared.fault.MarketKind.{MarketKind}
use Rattle.market_tables.specs.declared.fault.MarketKind.TheVariants as fault
use Rattle.market_tables.specs.Table.{Key, Required, are_listed, field_in, kind_in}

-- the values of an array
abbrev pub listed : Items → List Data
listed no_items = []
listed (item d ds) = d ∷ listed ds

-- each of these entries is without a fault over what stands before it, and this stands behind the last
abbrev pub AreTaken : {S X : Type 0} → (S → X → Result S MarketKind) → S → List X → S → Type 0
AreTaken behind s [] t = s ≡ t
AreTaken {S} behind s (x ∷ xs) t = (u : S) × (behind s x ≡ Ok u) × AreTaken behind u xs t

-- the number of the entry at a place, counted from 1; no file has as many entries as 32 bits count
abbrev pub number_at : ℕ → ℕ
number_at at = min (at + 1) (2 ^ 32 - 1)

-- entry n is the first with a fault, and this is its first, over what stands behind the entries before it
pub record IsFirstFaulty {S X : Type 0} (behind : S → X → Result S MarketKind) (s : S) (entries : List X) (n : ℕ) (k : MarketKind) : Type 0 where
  pub at : ℕ
  pub number : n ≡ number_at at
  pub entry : X
  pub there : slice_get entries at ≡ Some entry
  pub standing : S
  pub before : AreTaken behind s (take at entries) standing
  pub has : behind standing entry ≡ Err k

module _ {W P F : Type 0} (required : Required W) (gives : P → Data → Result F MarketKind) where
  -- each of these keys gives its field
  abbrev pub AreGiven : List (Key W P) → Members → Type 0
  AreGiven [] table = Unit {0}
  AreGiven (key ∷ keys) table = IsOk (field_in required gives key table) × AreGiven keys table

  -- this is the fault of the first key in listed order that has one
  pub record IsFirstOfKeys (keys : List (Key W P)) (table : Members) (k : MarketKind) : Type 0 where
    pub at : ℕ
    pub key : Key W P
    pub there : slice_get keys at ≡ Some key
    pub before : AreGiven (take at keys) table
    pub has : field_in required gives key table ≡ Err k

-- the first fault of a table that has kinds: that of its kind; else Key where it has a key that is not listed; else that
-- of its keys
pub data IsFirstOfTable {K W P F : Type 0} (kind_of : List ℕ → Option K) (keys_of : K → List (Key W P)) (required : Required W) (gives : P → Data → Result F MarketKind) (table : Members) (k : MarketKind) : Type 0 where
  in_kind : kind_in kind_of table ≡ Err k → IsFirstOfTable kind_of keys_of required gives table k
  not_listed : (kind : K) → kind_in kind_of table ≡ Ok kind → are_listed true (keys_of kind) table ≡ false → k ≡ fault.Key
      → IsFirstOfTable kind_of keys_of required gives table k
  in_key : (kind : K) → kind_in kind_of table ≡ Ok kind → are_listed true (keys_of kind) table ≡ true
      → IsFirstOfKeys required gives (keys_of kind) table k → IsFirstOfTable kind_of keys_of required gives table k
