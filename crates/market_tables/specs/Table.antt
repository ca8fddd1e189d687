-- What the keys of a table say: the steps that all tables share.
use Rattle.std.specs.Prelude.{ℕ, Bool, true, false, ◌&&◌, ◌||◌, codes, if◌then◌else◌, List, [], ◌∷◌, Option, Some, None, Result, Ok, Err}
use Rattle.std.specs.Borrow.{Bor}
use Rattle.std.specs.List.{list_any}
use Rattle.std.specs.Str.{bytes_eq}
use Rattle.toml.specs.Data.{Data, Members, no_members, member, get_member, as_str}
use Rattle.market_tables.specs.declared.fault.MarketKind.{MarketKind}
use Rattle.market_tables.specs.declared.fault.MarketKind.TheVariants as fault
use Rattle.market_tables.specs.Given.{◌>>=◌}

-- a key of a kind of table: its word, whether it may be missing, and what its place takes
pub record Key (W P : Type 0) : Type 0 where
  pub word : List ℕ
  pub presence : W
  pub place : P

-- a key as the code keeps it
abbrev pub listed : {W P : Type 0} → Bor (List ℕ) × W × P → Key W P
listed k = record { word = k.0.now; presence = k.1; place = k.2 }

-- whether the key is a listed one
abbrev pub is_listed : {W P : Type 0} → List (Key W P) → List ℕ → Bool
is_listed keys word = list_any (λ k. bytes_eq k.word word) keys

-- whether a table, which has kinds or not, may have the key
abbrev pub may_have : {W P : Type 0} → Bool → List (Key W P) → List ℕ → Bool
may_have kinds keys word = (kinds && bytes_eq word (codes "kind")) || is_listed keys word

-- whether each key of a table is one that it may have
abbrev pub are_listed : {W P : Type 0} → Bool → List (Key W P) → Members → Bool
are_listed kinds keys no_members = true
are_listed kinds keys (member word d rest) = may_have kinds keys word && are_listed kinds keys rest

-- what a key says: the value's field, or nothing where the key may be missing
abbrev pub field_at : {P F : Type 0} → (P → Data → Result F MarketKind) → Bool → P → Option Data → Result (Option F) MarketKind
field_at gives must place None = if must then Err fault.Key else Ok None
field_at gives must place (Some d) = gives place d >>= (λ f. Ok (Some f))

abbrev pub Required : Type 0 → Type 0
Required W = W → Members → Result Bool MarketKind

-- what a table says at a key
abbrev pub field_in : {W P F : Type 0} → Required W → (P → Data → Result F MarketKind) → Key W P → Members → Result (Option F) MarketKind
field_in required gives k table = required k.presence table >>= (λ must. field_at gives must k.place (get_member k.word table))

-- what the keys say in listed order, or the first fault
abbrev pub fields_of : {W P F : Type 0} → Required W → (P → Data → Result F MarketKind) → List (Key W P) → Members → Result (List (Option F)) MarketKind
fields_of required gives [] table = Ok []
fields_of required gives (k ∷ ks) table =
    field_in required gives k table >>= (λ f. fields_of required gives ks table >>= (λ fs. Ok (f ∷ fs)))

-- what a table without kinds says, or its first fault
abbrev pub row_of : {W P F : Type 0} → Required W → (P → Data → Result F MarketKind) → List (Key W P) → Members → Result (List (Option F)) MarketKind
row_of required gives keys table = if are_listed false keys table then fields_of required gives keys table else Err fault.Key

-- the kind that a text names
abbrev pub kind_named : {K : Type 0} → Option K → Result K MarketKind
kind_named None = Err fault.Choice
kind_named (Some k) = Ok k

-- the kind that the value at the key `kind` names
abbrev pub kind_text : {K : Type 0} → (List ℕ → Option K) → Option (List ℕ) → Result K MarketKind
kind_text kind_of None = Err fault.Key
kind_text kind_of (Some word) = kind_named (kind_of word)

abbrev pub kind_at : {K : Type 0} → (List ℕ → Option K) → Option Data → Result K MarketKind
kind_at kind_of None = Err fault.Key
kind_at kind_of (Some d) = kind_text kind_of (as_str d)

-- the kind of a table
abbrev pub kind_in : {K : Type 0} → (List ℕ → Option K) → Members → Result K MarketKind
kind_in kind_of table = kind_at kind_of (get_member (codes "kind") table)

-- what a table that has kinds says, or its first fault: its kind, and the fields of its keys in listed order
abbrev pub entry_of : {K W P F : Type 0} → (List ℕ → Option K) → (K → List (Key W P)) → Required W → (P → Data → Result F MarketKind) → Members → Result (K × List (Option F)) MarketKind
entry_of kind_of keys_of required gives table =
    kind_in kind_of table >>= (λ k.
    if are_listed true (keys_of k) table
    then fields_of required gives (keys_of k) table >>= (λ fs. Ok (k, fs))
    else Err fault.Key)
