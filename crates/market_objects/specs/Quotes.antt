-- The quotes of a quotes file, record by record (this project's profile).
use Rattle.std.specs.Prelude.{ℕ, ℤ, Bool, ◌&&◌, ◌==◌, codes, if◌then◌else◌, List, length, Option, Some, None, Result, Ok, Err}
use Rattle.std.specs.Str.{bytes_eq}
use Rattle.desk_terms.specs.declared.terms.Terms.TheVariants as terms
use Rattle.market_tables.specs.declared.fault.MarketKind.{MarketKind}
use Rattle.market_tables.specs.declared.fault.MarketKind.TheVariants as fault
use Rattle.market_tables.specs.Given.{◌>>=◌}
use Rattle.market_tables.specs.Values.{decimal_of}
use Rattle.market_records.specs.Row.{field}
use Rattle.market_fields.specs.Earlier.{Earlier, new_name}
use Rattle.market_objects.specs.Board.{added}

-- the first record is `name,value`
abbrev pub is_header : List (List ℕ) → Bool
is_header row = (length row == 2) && bytes_eq (field row 0) (codes "name") && bytes_eq (field row 1) (codes "value")

-- a quote's value: a decimal of at most 9 places within 10^9 either way, or none where the field is empty
abbrev pub value_of : List ℕ → Result (Option ℤ) MarketKind
value_of text =
    if length text == 0 then Ok None
    else (decimal_of 9 1_000_000_000_000_000_000 text >>= (λ units. Ok (Some units)))

-- the objects with the quote that a record says: its name, which is new, and then its value
abbrev pub behind : Earlier → List (List ℕ) → Result Earlier MarketKind
behind e row =
    if length row == 2
    then (new_name e (field row 0) >>= (λ name. value_of (field row 1) >>= (λ value. added e name (terms.Quote value))))
    else Err fault.Record
