-- What values of TOML and texts say, with the fault of each.
use Rattle.std.specs.Prelude.{ℕ, ℤ, Bool, true, ◌&&◌, int_le, nat_le, unsigned_abs, if◌then◌else◌, List, Option, Some, None, is_some, Result, Ok, Err}
use Rattle.toml.specs.Data.{Data, Items, no_items, item, Members, as_str, as_integer, as_array, as_table}
use Rattle.day_number.specs.Text.{day_of_text}
use Rattle.desk_names.specs.Name.{is_name}
use Rattle.fixed_amount.specs.Decimal.{decimal_value}
use Rattle.fixed_amount.specs.declared.decimal.DecimalFault.{DecimalFault}
use Rattle.market_tables.specs.declared.fault.MarketKind.{MarketKind}
use Rattle.market_tables.specs.declared.fault.MarketKind.TheVariants as fault
use Rattle.market_tables.specs.Given.{◌>>=◌}

-- what there is, or this fault
abbrev pub or_fault : {A : Type 0} → MarketKind → Option A → Result A MarketKind
or_fault k None = Err k
or_fault k (Some x) = Ok x

abbrev pub text_in : Data → Result (List ℕ) MarketKind
text_in d = or_fault fault.Key (as_str d)

-- an integer from the least to the most
abbrev pub integer_of : ℤ → ℤ → ℤ → Result ℤ MarketKind
integer_of least most n = if int_le least n && int_le n most then Ok n else Err fault.Number

abbrev pub integer_in : ℤ → ℤ → Data → Result ℤ MarketKind
integer_in least most d = or_fault fault.Key (as_integer d) >>= integer_of least most

-- the day of a text YYYY-MM-DD
abbrev pub day_of : List ℕ → Result ℤ MarketKind
day_of text = or_fault fault.Date (day_of_text text)

abbrev pub day_in : Data → Result ℤ MarketKind
day_in d = text_in d >>= day_of

abbrev pub items_in : Data → Result Items MarketKind
items_in d = or_fault fault.Key (as_array d)

abbrev pub table_in : Data → Result Members MarketKind
table_in d = or_fault fault.Key (as_table d)

abbrev pub are_tables : Items → Bool
are_tables no_items = true
are_tables (item d ds) = is_some (as_table d) && are_tables ds

-- the tables of an array of nothing else
abbrev pub tables_in : Data → Result Items MarketKind
tables_in d = items_in d >>= (λ ds. if are_tables ds then Ok ds else Err fault.Key)

-- a text that is a name
abbrev pub name_of : List ℕ → Result (List ℕ) MarketKind
name_of text = if is_name text then Ok text else Err fault.Name

-- the units that a decimal wrote, where they are within the most
abbrev pub within : ℕ → Result ℤ DecimalFault → Result ℤ MarketKind
within most (Err e) = Err fault.Number
within most (Ok units) = if nat_le (unsigned_abs units) most then Ok units else Err fault.Number

-- the units of a decimal with at most so many places, within the most either way
abbrev pub decimal_of : ℕ → ℕ → List ℕ → Result ℤ MarketKind
decimal_of places most text = within most (decimal_value text places)
