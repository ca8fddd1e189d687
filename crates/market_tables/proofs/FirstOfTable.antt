-- The first fault of a table, by what the reader gives.
use Rattle.std.proofs.Common.{◌≡◌, ℕ, zero, suc, Bool, true, false, List, [], ◌∷◌, Result, Ok, Err, Option, Some, refl, ◌∙◌}
use Rattle.std.specs.Prelude.{slice_get, take, IsOk, if◌then◌else◌}
use Rattle.toml.specs.Data.{Data, Members}
use Rattle.market_tables.specs.declared.fault.MarketKind.{MarketKind}
use Rattle.market_tables.specs.declared.fault.MarketKind.TheVariants as fault
use Rattle.market_tables.specs.Given.{◌>>=◌}
use Rattle.market_tables.specs.Table.{Key, Required, are_listed, field_in, fields_of, kind_in, entry_of}
use Rattle.market_tables.specs.Faulty.{AreGiven, IsFirstOfKeys, IsFirstOfTable, in_kind, not_listed, in_key}

module _ {W P F : Type 0} (required : Required W) (gives : P → Data → Result F MarketKind) (table : Members) (k : MarketKind) where
  pub to_keys : (keys : List (Key W P)) → fields_of required gives keys table ≡ Err k → IsFirstOfKeys required gives keys table k
  to_keys [] h = cc h
  to_keys (key ∷ keys) h = by (field_in required gives key table) refl h (to_keys keys)
    where
      behind : (f : Option F) (r : Result (List (Option F)) MarketKind) → (r >>= (λ fs. Ok (f ∷ fs))) ≡ Err k → r ≡ Err k
      behind f (Ok fs) h = cc h
      behind f (Err j) h = cc h

      by : (r : Result (Option F) MarketKind) → field_in required gives key table ≡ r
          → (r >>= (λ f. fields_of required gives keys table >>= (λ fs. Ok (f ∷ fs)))) ≡ Err k
          → (fields_of required gives keys table ≡ Err k → IsFirstOfKeys required gives keys table k)
          → IsFirstOfKeys required gives (key ∷ keys) table k
      by (Ok f) is h ih =
          let more = ih (behind f (fields_of required gives keys table) h) in
          record { at = suc more.at; key = more.key; there = more.there; before = (rw is refl, more.before); has = more.has }
      by (Err j) is h ih = record { at = 0; key = key; there = refl; before = tt; has = is ∙ cc h }

  pub of_keys : (keys : List (Key W P)) → IsFirstOfKeys required gives keys table k → fields_of required gives keys table ≡ Err k
  of_keys [] f = absurd (none f.at f.there)
    where
      none : (at : ℕ) → slice_get [] at ≡ Some f.key → ⊥
      none zero h = cc h
      none (suc at) h = cc h
  of_keys (key ∷ keys) f = by f.at f.there f.before (of_keys keys)
    where
      by_field : (r : Result (Option F) MarketKind) → IsOk r → fields_of required gives keys table ≡ Err k
          → (r >>= (λ f. fields_of required gives keys table >>= (λ fs. Ok (f ∷ fs)))) ≡ Err k
      by_field (Ok found) ok e = rw e refl
      by_field (Err j) ok e = cc ok

      by : (at : ℕ) → slice_get (key ∷ keys) at ≡ Some f.key → AreGiven required gives (take at (key ∷ keys)) table
          → (IsFirstOfKeys required gives keys table k → fields_of required gives keys table ≡ Err k) → fields_of required gives (key ∷ keys) table ≡ Err k
      by zero there before ih =
          let same : key ≡ f.key = cc there in
          rw (same, f.has) refl
      by (suc at) there (ok, before) ih =
          by_field (field_in required gives key table) ok (ih (record { at = at; key = f.key; there = there; before = before; has = f.has }))

module _ {K W P F : Type 0} (kind_of : List ℕ → Option K) (keys_of : K → List (Key W P)) (required : Required W) (gives : P → Data → Result F MarketKind) (table : Members) (k : MarketKind) where
  abbrev with_kind : K → List (Option F) → Result (K × List (Option F)) MarketKind
  with_kind kind fs = Ok (kind, fs)

  abbrev rest : K → Result (K × List (Option F)) MarketKind
  rest kind = if are_listed true (keys_of kind) table then fields_of required gives (keys_of kind) table >>= with_kind kind else Err fault.Key

  paired : (kind : K) (r : Result (List (Option F)) MarketKind) → (r >>= with_kind kind) ≡ Err k → r ≡ Err k
  paired kind (Ok fs) h = cc h
  paired kind (Err j) h = cc h

  pub to_table : entry_of kind_of keys_of required gives table ≡ Err k → IsFirstOfTable kind_of keys_of required gives table k
  to_table h = by (kind_in kind_of table) refl h
    where
      by_listed : (kind : K) → kind_in kind_of table ≡ Ok kind → (b : Bool) → are_listed true (keys_of kind) table ≡ b
          → (if b then fields_of required gives (keys_of kind) table >>= with_kind kind else Err fault.Key) ≡ Err k
          → IsFirstOfTable kind_of keys_of required gives table k
      by_listed kind is true all h = in_key kind is all (to_keys required gives table k (keys_of kind) (paired kind (fields_of required gives (keys_of kind) table) h))
      by_listed kind is false some h = not_listed kind is some (cc h)

      by : (r : Result K MarketKind) → kind_in kind_of table ≡ r → (r >>= rest) ≡ Err k → IsFirstOfTable kind_of keys_of required gives table k
      by (Ok kind) is h = by_listed kind is (are_listed true (keys_of kind) table) refl h
      by (Err j) is h = in_kind (is ∙ cc h)

  pub of_table : IsFirstOfTable kind_of keys_of required gives table k → entry_of kind_of keys_of required gives table ≡ Err k
  of_table (in_kind e) = rw e refl
  of_table (not_listed kind is some key) = rw (is, some, key) refl
  of_table (in_key kind is all first) = rw (is, all, of_keys required gives table k (keys_of kind) first) refl
