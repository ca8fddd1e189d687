-- Each field of an object is that of its key: rows, where a table says at each word what it says.
use Rattle.std.proofs.Common.{◌≡◌, refl, map, ℕ, List, [], Option, Result, Ok, true, false}
use Rattle.std.specs.Prelude.{codes, unwrap_or}
use Rattle.desk_terms.specs.declared.terms.Terms.{Terms}
use Rattle.desk_terms.specs.declared.terms.Terms.TheVariants as terms
use Rattle.market_tables.specs.declared.fault.MarketKind.{MarketKind}
use Rattle.market_tables.specs.Given.{◌>>=◌}
use Rattle.market_tables.specs.Table.{Key}
use Rattle.market_fields.specs.declared.field.Field.{Field}
use Rattle.market_fields.specs.declared.keys.ObjectKind.{ObjectKind}
use Rattle.market_fields.specs.declared.keys.ObjectKind.TheVariants as kind
use Rattle.market_fields.specs.Keys.{keys_of}
use Rattle.market_fields.specs.Earlier.{Earlier}
use Rattle.market_fields.specs.Field.{must, name_in, object_in, named_in, target_in, day_in, count_in, tenor_in, convention_in, flag_in, counter_in, calendar_in, helpers_in, parts_in}
use Rattle.market_instruments.specs.Bonds.{bond_of}
use Rattle.market_instruments.specs.Swaps.{swap_of}
use Rattle.market_instruments.specs.Forwards.{forward_of}
use Rattle.market_objects.specs.Making.{linked, start_of, or_no_parts, entry_made}

-- the fields of a table by what is said at the words of its keys
abbrev saying : {W P F : Type 0} → List (Key W P) → (List ℕ → Option F) → List (Option F)
saying keys said = map (λ k. said k.word) keys

module _ (said : List ℕ → Option Field) (e : Earlier) where
  -- what a kind makes where its keys say this
  abbrev made : ObjectKind → Result (List ℕ × Terms) MarketKind
  made k = entry_made e k (saying (keys_of k) said)

  -- some terms under the name
  abbrev named : Result Terms MarketKind → Result (List ℕ × Terms) MarketKind
  named terms = must (name_in (said (codes "name"))) >>= (λ name. terms >>= (λ t. Ok (name, t)))

  pub sum_by_keys : made kind.Sum
      ≡ named (must (object_in (said (codes "first"))) >>= (λ first. must (object_in (said (codes "second"))) >>= (λ second.
      Ok (terms.Derived false first second))))
  sum_by_keys = refl

  pub difference_by_keys : made kind.Difference
      ≡ named (must (object_in (said (codes "first"))) >>= (λ first. must (object_in (said (codes "second"))) >>= (λ second.
      Ok (terms.Derived true first second))))
  difference_by_keys = refl

  pub handle_by_keys : made kind.Handle
      ≡ named (must (target_in (said (codes "target"))) >>= (λ target_kind. named_in (said (codes "to")) >>= linked target_kind))
  handle_by_keys = refl

  pub curve_by_keys : made kind.Curve
      ≡ named (count_in (said (codes "settlement")) >>= (λ settlement. day_in (said (codes "reference")) >>= (λ reference.
      start_of settlement reference >>= (λ start. must (calendar_in (said (codes "calendar"))) >>= (λ cal.
      must (helpers_in (said (codes "helpers"))) >>= (λ helpers.
      Ok (terms.Curve (record { cal = cal; start = start; helpers = helpers }))))))))
  curve_by_keys = refl

  pub implied_by_keys : made kind.Implied
      ≡ named (must (object_in (said (codes "curve"))) >>= (λ curve. must (day_in (said (codes "reference"))) >>= (λ reference.
      Ok (terms.Implied curve reference))))
  implied_by_keys = refl

  pub index_by_keys : made kind.Index
      ≡ named (must (count_in (said (codes "fixing_days"))) >>= (λ fixing_days. must (tenor_in (said (codes "tenor"))) >>= (λ tenor.
      must (convention_in (said (codes "convention"))) >>= (λ conv. flag_in (said (codes "month_end")) >>= (λ eom.
      must (counter_in (said (codes "counter"))) >>= (λ counter. must (object_in (said (codes "curve"))) >>= (λ curve.
      must (calendar_in (said (codes "calendar"))) >>= (λ cal.
      Ok (terms.Index (record {
        cal = cal;
        fixing_days = fixing_days;
        tenor = tenor;
        conv = conv;
        eom = unwrap_or eom false;
        counter = counter;
        curve = curve;
      }) [])))))))))
  index_by_keys = refl

  pub engine_by_keys : made kind.Engine ≡ named (must (object_in (said (codes "curve"))) >>= (λ curve. Ok (terms.Engine curve)))
  engine_by_keys = refl

  pub stock_by_keys : made kind.Stock ≡ named (must (object_in (said (codes "quote"))) >>= (λ quote. Ok (terms.Stock quote)))
  stock_by_keys = refl

  pub composite_by_keys : made kind.Composite ≡ named (parts_in (said (codes "parts")) >>= or_no_parts)
  composite_by_keys = refl

  -- the fields of instruments are those of their keys in market_instruments
  pub bond_by_keys : made kind.Bond ≡ named (bond_of e (saying (keys_of kind.Bond) said))
  bond_by_keys = refl

  pub swap_by_keys : made kind.Swap ≡ named (swap_of e (saying (keys_of kind.Swap) said))
  swap_by_keys = refl

  pub fra_by_keys : made kind.Fra ≡ named (forward_of e (saying (keys_of kind.Fra) said))
  fra_by_keys = refl
