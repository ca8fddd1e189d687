-- The weekdays that are holidays of a calendar of one's own, Monday first.
use Rattle.std.specs.Prelude.{ℕ, Bool, nat_eq, codes, if◌then◌else◌, List, [], ◌∷◌, Option, Some, None, Result, Ok, Err}
use Rattle.std.specs.List.{list_all, list_any}
use Rattle.std.specs.Str.{bytes_eq}
use Rattle.toml.specs.Data.{Data}
use Rattle.market_tables.specs.declared.fault.MarketKind.{MarketKind}
use Rattle.market_tables.specs.declared.fault.MarketKind.TheVariants as fault
use Rattle.market_tables.specs.Given.{◌>>=◌}
use Rattle.market_tables.specs.Values.{or_fault, text_in}

-- the weekday of a word, counted from Monday, which is 0
abbrev pub weekday_of : List ℕ → Option ℕ
weekday_of text =
    if bytes_eq text (codes "mon") then Some 0
    else (if bytes_eq text (codes "tue") then Some 1
    else (if bytes_eq text (codes "wed") then Some 2
    else (if bytes_eq text (codes "thu") then Some 3
    else (if bytes_eq text (codes "fri") then Some 4
    else (if bytes_eq text (codes "sat") then Some 5
    else (if bytes_eq text (codes "sun") then Some 6 else None))))))

abbrev pub weekday_in : Data → Result ℕ MarketKind
weekday_in d = text_in d >>= (λ text. or_fault fault.Choice (weekday_of text))

abbrev pub has_weekday : List ℕ → ℕ → Bool
has_weekday days day = list_any (nat_eq day) days

-- a flag for each weekday: whether it is among the days
abbrev pub flags_of : List ℕ → List Bool
flags_of days =
    has_weekday days 0 ∷ has_weekday days 1 ∷ has_weekday days 2 ∷ has_weekday days 3
    ∷ has_weekday days 4 ∷ has_weekday days 5 ∷ has_weekday days 6 ∷ []

-- weekdays, but not all seven
abbrev pub weekend_of : List Bool → Result (List Bool) MarketKind
weekend_of flags = if list_all (λ named. named) flags then Err fault.Weekend else Ok flags
