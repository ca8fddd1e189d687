-- The words of the command line (this project's profile).
use Rattle.std.specs.Prelude.{ℕ, ◌^◌, ℤ, unsigned_abs, nat_le, ◌&&◌, if◌then◌else◌, List, [], ◌∷◌, Option, None, Some, Result, Ok, Err}
use Rattle.day_number.specs.Text.{day_of_text}
use Rattle.fixed_amount.specs.Decimal.{decimal_value}
use Rattle.fixed_amount.specs.declared.decimal.DecimalFault.{DecimalFault}
use Rattle.tool_frame.specs.Words.{is_word}
use Rattle.tool_bond.specs.declared.words.Request as given

-- the path of a market, the name of a bond, a settlement day, and a clean price in units of 10^-6
pub record Request : Type 0 where
  pub market : List ℕ
  pub name : List ℕ
  pub settle : ℤ
  pub clean : ℤ

-- words of the code, as the definition sees them
abbrev pub request_in : given.Request → Request
request_in request = record {
  market = request.market.now;
  name = request.name.now;
  settle = request.settle;
  clean = request.clean;
}

-- the greatest price either way: 10^12
abbrev pub most_price : ℕ
most_price = 10 ^ 18

abbrev pub price_in : ℤ → Option ℤ
price_in units = if nat_le (unsigned_abs units) most_price then Some units else None

abbrev pub price_or_none : Result ℤ DecimalFault → Option ℤ
price_or_none (Ok units) = price_in units
price_or_none (Err fault) = None

-- a decimal of at most six places within the greatest price
abbrev pub price_of : List ℕ → Option ℤ
price_of word = price_or_none (decimal_value word 6)

abbrev pub request_at : List ℕ → List ℕ → Option ℤ → Option ℤ → Option Request
request_at market name None clean = None
request_at market name (Some settle) None = None
request_at market name (Some settle) (Some clean) =
    Some (record { market = market; name = name; settle = settle; clean = clean })

-- `MARKET NAME DAY PRICE`
abbrev pub request_with : List ℕ → List ℕ → List ℕ → List ℕ → Option Request
request_with market name day price =
    if is_word market && is_word name then request_at market name (day_of_text day) (price_of price) else None

-- what the words ask for: there is one list that is taken
abbrev pub request_of : List (List ℕ) → Option Request
request_of (market ∷ name ∷ day ∷ price ∷ []) = request_with market name day price
request_of words = None
