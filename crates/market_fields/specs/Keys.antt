-- The kinds of objects and their keys (this project's profile).
use Rattle.std.specs.Prelude.{ℕ, List, [], ◌∷◌, codes, if◌then◌else◌, Option, Some, None}
use Rattle.std.specs.List.{find}
use Rattle.std.specs.Str.{bytes_eq}
use Rattle.desk_terms.specs.declared.kind.Wanted.TheVariants as wanted
use Rattle.market_tables.specs.Table.{Key}
use Rattle.market_tables.specs.declared.presence.Presence.{Presence}
use Rattle.market_tables.specs.declared.presence.Presence.TheVariants as plain
use Rattle.market_fields.specs.declared.presence.KeyPresence.{KeyPresence}
use Rattle.market_fields.specs.declared.presence.KeyPresence.TheVariants.{Always, Optional, Start, Structure, WithCoupons}
use Rattle.market_fields.specs.declared.keys.ObjectKind.{ObjectKind}
use Rattle.market_fields.specs.declared.keys.ObjectKind.TheVariants.{Sum, Difference, Handle, Curve, Implied, Index, Engine, Stock, Composite, Bond, Swap, Fra}
use Rattle.market_fields.specs.declared.keys.HelperKind.{HelperKind}
use Rattle.market_fields.specs.declared.keys.HelperKind.TheVariants as helper
use Rattle.market_fields.specs.declared.keys.ObjectPlace.{ObjectPlace}
use Rattle.market_fields.specs.declared.keys.ObjectPlace.TheVariants as place

-- a key that must stand in the table, one that may, the one of a curve at which its start is tested, the one of a bond
-- at which its structure is tested, and one that must stand where a bond has coupons
abbrev pub key : List ℕ → ObjectPlace → Key KeyPresence ObjectPlace
key word place = record { word = word; presence = Always; place = place }

abbrev pub key? : List ℕ → ObjectPlace → Key KeyPresence ObjectPlace
key? word place = record { word = word; presence = Optional; place = place }

abbrev pub key_of_start : List ℕ → ObjectPlace → Key KeyPresence ObjectPlace
key_of_start word place = record { word = word; presence = Start; place = place }

abbrev pub key_of_structure : List ℕ → ObjectPlace → Key KeyPresence ObjectPlace
key_of_structure word place = record { word = word; presence = Structure; place = place }

abbrev pub key_of_coupons : List ℕ → ObjectPlace → Key KeyPresence ObjectPlace
key_of_coupons word place = record { word = word; presence = WithCoupons; place = place }

-- a key of a table within a table
abbrev pub row_key : List ℕ → ObjectPlace → Key Presence ObjectPlace
row_key word place = record { word = word; presence = plain.Always; place = place }

abbrev pub row_key? : List ℕ → ObjectPlace → Key Presence ObjectPlace
row_key? word place = record { word = word; presence = plain.Optional; place = place }

-- the word of a kind
abbrev pub kind_word : ObjectKind → List ℕ
kind_word Sum = codes "sum"
kind_word Difference = codes "difference"
kind_word Handle = codes "handle"
kind_word Curve = codes "curve"
kind_word Implied = codes "implied"
kind_word Index = codes "index"
kind_word Engine = codes "engine"
kind_word Stock = codes "stock"
kind_word Composite = codes "composite"
kind_word Bond = codes "bond"
kind_word Swap = codes "swap"
kind_word Fra = codes "fra"

abbrev pub kinds : List ObjectKind
kinds = Sum ∷ Difference ∷ Handle ∷ Curve ∷ Implied ∷ Index ∷ Engine ∷ Stock ∷ Composite
    ∷ Bond ∷ Swap ∷ Fra ∷ []

abbrev pub kind_of : List ℕ → Option ObjectKind
kind_of word = find (λ k. bytes_eq (kind_word k) word) kinds

-- THE TABLE OF KEYS: those of each kind in version 2, in listed order
abbrev pub keys_of : ObjectKind → List (Key KeyPresence ObjectPlace)
keys_of Sum =
    key (codes "name") place.NewName
    ∷ key (codes "first") (place.Object wanted.QuoteInput)
    ∷ key (codes "second") (place.Object wanted.QuoteInput)
    ∷ []
keys_of Difference =
    key (codes "name") place.NewName
    ∷ key (codes "first") (place.Object wanted.QuoteInput)
    ∷ key (codes "second") (place.Object wanted.QuoteInput)
    ∷ []
keys_of Handle =
    key (codes "name") place.NewName
    ∷ key (codes "target") place.Target
    ∷ key? (codes "to") place.AnyObject
    ∷ []
keys_of Curve =
    key (codes "name") place.NewName
    ∷ key (codes "calendar") place.Calendar
    ∷ key_of_start (codes "settlement") place.Count
    ∷ key? (codes "reference") place.Day
    ∷ key (codes "helpers") place.Helpers
    ∷ []
keys_of Implied =
    key (codes "name") place.NewName
    ∷ key (codes "curve") (place.Object wanted.CurveInput)
    ∷ key (codes "reference") place.Day
    ∷ []
keys_of Index =
    key (codes "name") place.NewName
    ∷ key (codes "calendar") place.Calendar
    ∷ key (codes "fixing_days") place.Count
    ∷ key (codes "tenor") place.Tenor
    ∷ key (codes "convention") place.Convention
    ∷ key? (codes "month_end") place.Flag
    ∷ key (codes "counter") place.Counter
    ∷ key (codes "curve") (place.Object wanted.CurveInput)
    ∷ []
keys_of Engine =
    key (codes "name") place.NewName
    ∷ key (codes "curve") (place.Object wanted.CurveInput)
    ∷ []
keys_of Stock =
    key (codes "name") place.NewName
    ∷ key (codes "quote") (place.Object wanted.QuoteInput)
    ∷ []
keys_of Composite =
    key (codes "name") place.NewName
    ∷ key? (codes "parts") place.Parts
    ∷ []
keys_of Bond =
    key (codes "name") place.NewName
    ∷ key (codes "notional") place.Notional
    ∷ key (codes "start") place.Day
    ∷ key (codes "end") place.Day
    ∷ key (codes "calendar") place.Calendar
    ∷ key? (codes "engine") (place.Object wanted.Engine)
    ∷ key? (codes "payment_lag") place.Count
    ∷ key_of_structure (codes "coupon") place.Rate
    ∷ key? (codes "index") (place.Object wanted.Index)
    ∷ key? (codes "spread") place.Rate
    ∷ key_of_coupons (codes "every") place.Tenor
    ∷ key? (codes "rule") place.Rule
    ∷ key? (codes "convention") place.Convention
    ∷ key? (codes "end_convention") place.Convention
    ∷ key? (codes "month_end") place.Flag
    ∷ key_of_coupons (codes "counter") place.Counter
    ∷ key? (codes "first") place.Day
    ∷ key? (codes "last") place.Day
    ∷ []
keys_of Swap =
    key (codes "name") place.NewName
    ∷ key (codes "notional") place.Notional
    ∷ key (codes "side") place.Leg
    ∷ key (codes "start") place.Day
    ∷ key (codes "end") place.Day
    ∷ key (codes "calendar") place.Calendar
    ∷ key? (codes "engine") (place.Object wanted.Engine)
    ∷ key? (codes "payment_lag") place.Count
    ∷ key? (codes "rule") place.Rule
    ∷ key? (codes "convention") place.Convention
    ∷ key? (codes "end_convention") place.Convention
    ∷ key? (codes "month_end") place.Flag
    ∷ key (codes "fixed_rate") place.Rate
    ∷ key (codes "fixed_every") place.Tenor
    ∷ key (codes "fixed_counter") place.Counter
    ∷ key (codes "index") (place.Object wanted.Index)
    ∷ key? (codes "spread") place.Rate
    ∷ key (codes "float_every") place.Tenor
    ∷ key (codes "float_counter") place.Counter
    ∷ []
keys_of Fra =
    key (codes "name") place.NewName
    ∷ key (codes "notional") place.Notional
    ∷ key (codes "side") place.Position
    ∷ key (codes "index") (place.Object wanted.Index)
    ∷ key (codes "start") place.Day
    ∷ key (codes "strike") place.Rate
    ∷ key? (codes "engine") (place.Object wanted.Engine)
    ∷ []

-- the keys of a composite's part
abbrev pub part_keys : List (Key Presence ObjectPlace)
part_keys =
    row_key (codes "part") (place.Object wanted.Member)
    ∷ row_key (codes "weight") place.Weight
    ∷ []

-- the kinds of a curve's helpers and their keys
abbrev pub helper_kind_of : List ℕ → Option HelperKind
helper_kind_of word =
    if bytes_eq word (codes "deposit") then Some helper.Deposit
    else (if bytes_eq word (codes "swap") then Some helper.Swap else None)

abbrev pub helper_keys_of : HelperKind → List (Key Presence ObjectPlace)
helper_keys_of helper.Deposit =
    row_key (codes "quote") (place.Object wanted.QuoteInput)
    ∷ row_key (codes "tenor") place.Tenor
    ∷ row_key (codes "convention") place.Convention
    ∷ row_key? (codes "month_end") place.Flag
    ∷ row_key (codes "counter") place.Counter
    ∷ []
helper_keys_of helper.Swap =
    row_key (codes "quote") (place.Object wanted.QuoteInput)
    ∷ row_key (codes "tenor") place.Months
    ∷ row_key (codes "every") place.Months
    ∷ row_key (codes "convention") place.Convention
    ∷ row_key? (codes "month_end") place.Flag
    ∷ row_key (codes "counter") place.Counter
    ∷ []
