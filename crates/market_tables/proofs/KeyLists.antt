-- The keys of a table's map, beside its members.
use Rattle.std.proofs.Common.{◌≡◌, List, [], ◌∷◌, Bool, String, Global, string_bytes, refl, ap, ◌&&◌}
use Rattle.std.specs.List.{list_all}
use Rattle.std.specs.Map.{keys_of}
use Rattle.toml.specs.View.{members_view}
use Rattle.toml.specs.declared.value.Value.{Value}
use Rattle.market_tables.specs.Table.{Key, may_have, are_listed}

pub keys_listed : {W P : Type 0} (kinds : Bool) (keys : List (Key W P)) (es : List (String Global × Value))
    → list_all (λ k. may_have kinds keys (string_bytes k)) (keys_of es) ≡ are_listed kinds keys (members_view es)
keys_listed kinds keys [] = refl
keys_listed kinds keys (e ∷ es) = ap (λ b. may_have kinds keys (string_bytes e.0) && b) (keys_listed kinds keys es)
