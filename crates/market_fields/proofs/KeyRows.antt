-- Each field of a helper and of a part is that of its key: rows, where a table says at each word what it says.
use Rattle.std.proofs.Common.{◌≡◌, refl, map, ℕ, List, Option, Some, None, Ok, false}
use Rattle.std.specs.Prelude.{codes, unwrap_or}
use Rattle.market_tables.specs.Given.{◌>>=◌}
use Rattle.market_tables.specs.Table.{Key}
use Rattle.market_fields.specs.declared.field.Field.{Field}
use Rattle.market_fields.specs.declared.keys.HelperKind.TheVariants.{Deposit, Swap}
use Rattle.market_fields.specs.Keys.{part_keys, helper_keys_of}
use Rattle.market_fields.specs.Field.{must, object_in, weight_in, tenor_in, convention_in, flag_in, counter_in}
use Rattle.market_fields.specs.Parts.{part_made}
use Rattle.market_fields.specs.Helpers.{helper_made}

-- the fields of a table by what is said at the words of its keys
abbrev saying : {W P F : Type 0} → List (Key W P) → (List ℕ → Option F) → List (Option F)
saying keys said = map (λ k. said k.word) keys

module _ (said : List ℕ → Option Field) where
  pub part_by_keys : part_made (saying part_keys said)
      ≡ must (object_in (said (codes "part"))) >>= (λ member. must (weight_in (said (codes "weight"))) >>= (λ weight.
      Ok (record { weight = weight; member = member })))
  part_by_keys = refl

  pub deposit_by_keys : helper_made Deposit (saying (helper_keys_of Deposit) said)
      ≡ must (object_in (said (codes "quote"))) >>= (λ quote. must (tenor_in (said (codes "tenor"))) >>= (λ tenor.
      must (convention_in (said (codes "convention"))) >>= (λ conv. flag_in (said (codes "month_end")) >>= (λ eom.
      must (counter_in (said (codes "counter"))) >>= (λ counter.
      Ok (record { quote = quote; tenor = tenor; every = None; conv = conv; eom = unwrap_or eom false; counter = counter }))))))
  deposit_by_keys = refl

  pub swap_by_keys : helper_made Swap (saying (helper_keys_of Swap) said)
      ≡ must (tenor_in (said (codes "every"))) >>= (λ every.
      must (object_in (said (codes "quote"))) >>= (λ quote. must (tenor_in (said (codes "tenor"))) >>= (λ tenor.
      must (convention_in (said (codes "convention"))) >>= (λ conv. flag_in (said (codes "month_end")) >>= (λ eom.
      must (counter_in (said (codes "counter"))) >>= (λ counter.
      Ok (record { quote = quote; tenor = tenor; every = Some every; conv = conv; eom = unwrap_or eom false; counter = counter })))))))
  swap_by_keys = refl
