-- What is read of a market's files, in the order in which they are read: the first failure is the answer (this project's
-- profile).
use Rattle.std.specs.Prelude.{ℕ, ◌+◌, List, [], Option, None, Some, Result, Ok, Err}
use Rattle.market_file.specs.Fault.{Fault}
use Rattle.market_file.specs.Market.{Market, read_market}
use Rattle.market_file.specs.Paths.{market_paths}
use Rattle.market_file.specs.declared.paths.Paths.{Paths}
use Rattle.market_file.specs.declared.read.Market as read
use Rattle.market_tables.specs.Given.{◌>>=◌}
use Rattle.market_loader.specs.declared.faults.LoadFault.{LoadFault}
use Rattle.market_loader.specs.declared.faults.LoadFault.TheVariants as fault
use Rattle.market_loader.specs.declared.faults.MarketRole.{MarketRole}
use Rattle.market_loader.specs.declared.faults.MarketRole.TheVariants as role
use Rattle.market_loader.specs.declared.texts.MarketTexts as kept
use Rattle.market_loader.specs.Ends.{with_fault}
use Rattle.market_loader.specs.Faults.{role_fault}
use Rattle.market_loader.specs.Files.{Files, file_of, file_calls}

-- a market of the code with its names, as the definition sees it
abbrev pub market_in : List (List ℕ) → read.Market → Market
market_in names market = record { today = market.today; made = market.made.items; names = names }

-- one of a market's files
abbrev pub part_of : MarketRole → List ℕ → Files → Result (List ℕ) LoadFault
part_of role path files = with_fault (role_fault role) (file_of path files)

-- a table beside the market, where the market names it
abbrev pub table_of : MarketRole → Option (List ℕ) → Files → Result (List ℕ) LoadFault
table_of role None files = Ok []
table_of role (Some path) files = part_of role path files

-- the most calls of a shelf for it
abbrev pub table_calls : Option (List ℕ) → Files → ℕ
table_calls None files = 0
table_calls (Some path) files = file_calls path files

-- what the texts say, or their first fault
abbrev pub or_fault : {X : Type 0} → Result X Fault → Result X LoadFault
or_fault (Ok x) = Ok x
or_fault (Err first) = Err (fault.Fault first.0 first.1 first.2)

-- the texts of a market's files; a table that it does not name has no bytes
pub record Texts : Type 0 where
  pub text : List ℕ
  pub quotes : List ℕ
  pub fixings : List ℕ

abbrev pub texts : List ℕ → List ℕ → List ℕ → Texts
texts text quotes fixings = record { text = text; quotes = quotes; fixings = fixings }

-- the texts of the code, as the definition sees them
abbrev pub texts_in : kept.MarketTexts → Texts
texts_in kept = texts kept.text.items kept.quotes.items kept.fixings.items

-- the texts, once the fixings that the market names are read
abbrev pub with_fixings : List ℕ → Paths → List ℕ → Files → Result Texts LoadFault
with_fixings text paths quotes files =
    table_of role.Fixings paths.fixings files >>= (λ fixings. Ok (texts text quotes fixings))

-- once the quotes that it names are read
abbrev pub with_quotes : List ℕ → Paths → Files → Result Texts LoadFault
with_quotes text paths files =
    table_of role.Quotes paths.quotes files >>= (λ quotes. with_fixings text paths quotes files)

-- once it says which tables it names
abbrev pub with_text : List ℕ → Files → Result Texts LoadFault
with_text text files = or_fault (market_paths text) >>= (λ paths. with_quotes text paths files)

-- THE TEXTS OF A MARKET, in the order in which they are read: its own, then those of the tables that it names, the quotes
-- and the fixings
abbrev pub texts_of : List ℕ → Files → Result Texts LoadFault
texts_of path files = part_of role.Market path files >>= (λ text. with_text text files)

-- the market that texts say, or their first fault
abbrev pub market_said : Texts → Result Market LoadFault
market_said texts = or_fault (read_market texts.text texts.quotes texts.fixings)

-- THE READING ORDER of a market: its texts, then what all of them say
abbrev pub market_of : List ℕ → Files → Result Market LoadFault
market_of path files = texts_of path files >>= market_said

-- the calls of a step, and of what follows where the step gives a value: none behind a failure
abbrev pub and_then : {X E : Type 0} → ℕ → Result X E → (X → ℕ) → ℕ
and_then calls (Ok x) others = calls + others x
and_then calls (Err e) others = calls

-- the most calls for the quotes, and then for the fixings
abbrev pub tables_calls : Paths → Files → ℕ
tables_calls paths files =
    and_then (table_calls paths.quotes files) (table_of role.Quotes paths.quotes files)
    (λ quotes. table_calls paths.fixings files)

-- for the tables that a text names
abbrev pub text_calls : List ℕ → Files → ℕ
text_calls text files = and_then 0 (or_fault (market_paths text)) (λ paths. tables_calls paths files)

-- for a market and the tables that it names
abbrev pub market_calls : List ℕ → Files → ℕ
market_calls path files =
    and_then (file_calls path files) (part_of role.Market path files) (λ text. text_calls text files)
