-- The words of the command line (this project's profile).
use Rattle.std.specs.Prelude.{ℕ, ◌^◌, ℤ, pos, int_le, Bool, false, ◌&&◌, if◌then◌else◌, List, [], ◌∷◌, map, Option, None, Some, Result, Ok, Err}
use Rattle.std.specs.List.{list_all}
use Rattle.std.specs.String.{string_bytes}
use Rattle.desk_names.specs.Name.{is_name}
use Rattle.fixed_amount.specs.Decimal.{decimal_value}
use Rattle.fixed_amount.specs.declared.decimal.DecimalFault.{DecimalFault}
use Rattle.tool_frame.specs.Words.{is_word}
use Rattle.tool_risk.specs.declared.words.Request as given

-- the path of a market, how far quotes are moved in units of a rate, and the names of instruments
pub record Request : Type 0 where
  pub market : List ℕ
  pub size : ℤ
  pub names : List (List ℕ)

-- words of the code, as the definition sees them
abbrev pub request_in : given.Request → Request
request_in request = record { market = request.market.now; size = request.size; names = map string_bytes request.names.now }

-- above 0, and at most a billion
abbrev pub size_in : ℤ → Option ℤ
size_in units = if int_le (pos 1) units && int_le units (pos (10 ^ 18)) then Some units else None

abbrev pub size_or_none : Result ℤ DecimalFault → Option ℤ
size_or_none (Ok units) = size_in units
size_or_none (Err fault) = None

-- a decimal of at most nine places within these
abbrev pub size_of : List ℕ → Option ℤ
size_of word = size_or_none (decimal_value word 9)

-- there are some, and each has the form of a name: so no field of a row needs quotes
abbrev pub are_names : List (List ℕ) → Bool
are_names [] = false
are_names (word ∷ words) = list_all is_name (word ∷ words)

abbrev pub request_at : List ℕ → List (List ℕ) → Option ℤ → Option Request
request_at market names None = None
request_at market names (Some size) = Some (record { market = market; size = size; names = names })

-- `MARKET SIZE NAME..`
abbrev pub request_with : List ℕ → List ℕ → List (List ℕ) → Option Request
request_with market size names = if is_word market && are_names names then request_at market names (size_of size) else None

abbrev pub request_of : List (List ℕ) → Option Request
request_of [] = None
request_of (market ∷ []) = None
request_of (market ∷ size ∷ names) = request_with market size names
