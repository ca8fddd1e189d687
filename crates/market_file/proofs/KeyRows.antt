-- Each field of the top table is that of its key: a row, where a table says at each word what it says.
use Rattle.std.proofs.Common.{◌≡◌, refl, map, ℕ, List, Option, Ok}
use Rattle.std.specs.Prelude.{codes}
use Rattle.market_tables.specs.Given.{◌>>=◌}
use Rattle.market_tables.specs.Table.{Key}
use Rattle.market_file.specs.declared.top.TopField.{TopField}
use Rattle.market_file.specs.Top.{top_keys, version_in, today_in, path_in, top_made}

-- the fields of a table by what is said at the words of its keys
abbrev saying : {W P F : Type 0} → List (Key W P) → (List ℕ → Option F) → List (Option F)
saying keys said = map (λ k. said k.word) keys

pub top_by_keys : (said : List ℕ → Option TopField) → top_made (saying top_keys said)
    ≡ (version_in (said (codes "version")) >>= (λ version. today_in (said (codes "today")) >>= (λ today.
    path_in (said (codes "quotes")) >>= (λ quotes. path_in (said (codes "fixings")) >>= (λ fixings.
    Ok (record { version = version; today = today; quotes = quotes; fixings = fixings }))))))
top_by_keys said = refl
