-- The first fault of a market, said of its entries one by one and without the reader (this project's profile).
use Rattle.std.specs.Prelude.{◌≡◌, ℕ, Bool, true, false, ◌&&◌, nat_lt, codes, List, [], length, is_some, Result, Ok, Err}
use Rattle.csv.specs.Reading.{default_config, strip_bom, records}
use Rattle.toml.specs.Data.{Members}
use Rattle.market_tables.specs.declared.fault.MarketKind.{MarketKind}
use Rattle.market_tables.specs.declared.fault.MarketKind.TheVariants as fault
use Rattle.market_tables.specs.Faulty.{listed, AreTaken, IsFirstFaulty}
use Rattle.market_records.specs.Faulty.{AreRecordsTaken, IsFirstFaultyRecord}
use Rattle.market_calendars.specs.Calendars.{Calendars}
use Rattle.market_calendars.specs.Reader as calendar
use Rattle.market_fields.specs.Earlier.{Earlier}
use Rattle.market_objects.specs.Board.{started}
use Rattle.market_objects.specs.Reader as object
use Rattle.market_objects.specs.Quotes as quote
use Rattle.market_objects.specs.Fixings as fixing
use Rattle.market_file.specs.declared.fault.Section.{Section}
use Rattle.market_file.specs.declared.fault.Section.TheVariants as section
use Rattle.market_file.specs.declared.fault.MarketFault.{MarketFault}
use Rattle.market_file.specs.declared.fault.MarketFault.TheVariants as market
use Rattle.market_file.specs.declared.top.TopTable.{TopTable}
use Rattle.market_file.specs.Document.{document_of}
use Rattle.market_file.specs.Top.{top_of}
use Rattle.market_file.specs.Market.{tables_at}
use Rattle.text_limits.specs.declared.limit.TheConstants.{MOST_BYTES}

-- a file is over 8 MiB
abbrev pub is_long : List ℕ → Bool
is_long file = nat_lt MOST_BYTES (length file)

abbrev pub rows_of : List ℕ → List (List (List ℕ))
rows_of text = records default_config (strip_bom text)

-- a table beside the market that is named has its records taken; one that is not named is not read
abbrev pub IsTableTaken : Bool → (List (List ℕ) → Bool) → (Earlier → List (List ℕ) → Result Earlier MarketKind) → List ℕ → Earlier → Earlier → Type 0
IsTableTaken false header behind text s t = s ≡ t
IsTableTaken true header behind text s t = AreRecordsTaken header behind s (rows_of text) t

-- THE ORDER OF READING. The top table of a text is without a fault;
pub record IsTopTaken (text : List ℕ) (document : Members) (top : TopTable) : Type 0 where
  pub short : is_long text ≡ false
  pub read : document_of text ≡ Ok document
  pub says : top_of document ≡ Ok top

-- then no table beside it that it names is too long;
pub record AreShort (text quotes fixings : List ℕ) (document : Members) (top : TopTable) : Type 0 where
  pub before : IsTopTaken text document top
  pub short_quotes : (is_some top.quotes && is_long quotes) ≡ false
  pub short_fixings : (is_some top.fixings && is_long fixings) ≡ false

-- then its calendars are taken,
pub record AreCalendarsTaken (text quotes fixings : List ℕ) (document : Members) (top : TopTable) (calendars : Calendars) : Type 0 where
  pub before : AreShort text quotes fixings document top
  pub taken : AreTaken calendar.behind [] (listed (tables_at (codes "calendar") document)) calendars

-- then the quotes of the file that it names,
pub record AreQuotesTaken (text quotes fixings : List ℕ) (document : Members) (top : TopTable) (board : Earlier) : Type 0 where
  pub calendars : Calendars
  pub before : AreCalendarsTaken text quotes fixings document top calendars
  pub taken : IsTableTaken (is_some top.quotes) quote.is_header quote.behind quotes (started top.version calendars) board

-- then its objects, and then the fixings of the file that it names.
pub record AreObjectsTaken (text quotes fixings : List ℕ) (document : Members) (top : TopTable) (board : Earlier) : Type 0 where
  pub quoted : Earlier
  pub before : AreQuotesTaken text quotes fixings document top quoted
  pub taken : AreTaken object.behind quoted (listed (tables_at (codes "object") document)) board

-- THE FIRST FAULT of a market in that order: its section, its entry, and the first kind of that entry
pub data IsFirstFault (text quotes fixings : List ℕ) (s : Section) (n : ℕ) (k : MarketKind) : Type 0 where
  long_text : is_long text ≡ true → s ≡ section.Top → n ≡ 0 → k ≡ fault.TooLong → IsFirstFault text quotes fixings s n k
  in_text : is_long text ≡ false → document_of text ≡ Err k → s ≡ section.Top → n ≡ 0 → IsFirstFault text quotes fixings s n k
  in_top : (document : Members) → is_long text ≡ false → document_of text ≡ Ok document → top_of document ≡ Err k
      → s ≡ section.Top → n ≡ 0 → IsFirstFault text quotes fixings s n k
  long_quotes : (document : Members) (top : TopTable) → IsTopTaken text document top → (is_some top.quotes && is_long quotes) ≡ true
      → s ≡ section.Quotes → n ≡ 0 → k ≡ fault.TooLong → IsFirstFault text quotes fixings s n k
  long_fixings : (document : Members) (top : TopTable) → IsTopTaken text document top → (is_some top.quotes && is_long quotes) ≡ false
      → (is_some top.fixings && is_long fixings) ≡ true → s ≡ section.Fixings → n ≡ 0 → k ≡ fault.TooLong → IsFirstFault text quotes fixings s n k
  in_calendars : (document : Members) (top : TopTable) → AreShort text quotes fixings document top
      → IsFirstFaulty calendar.behind [] (listed (tables_at (codes "calendar") document)) n k → s ≡ section.Calendars → IsFirstFault text quotes fixings s n k
  in_quotes : (document : Members) (top : TopTable) (calendars : Calendars) → AreCalendarsTaken text quotes fixings document top calendars
      → is_some top.quotes ≡ true → IsFirstFaultyRecord quote.is_header quote.behind (started top.version calendars) (rows_of quotes) n k
      → s ≡ section.Quotes → IsFirstFault text quotes fixings s n k
  in_objects : (document : Members) (top : TopTable) (board : Earlier) → AreQuotesTaken text quotes fixings document top board
      → IsFirstFaulty object.behind board (listed (tables_at (codes "object") document)) n k → s ≡ section.Objects → IsFirstFault text quotes fixings s n k
  in_fixings : (document : Members) (top : TopTable) (board : Earlier) → AreObjectsTaken text quotes fixings document top board
      → is_some top.fixings ≡ true → IsFirstFaultyRecord fixing.is_header fixing.behind board (rows_of fixings) n k
      → s ≡ section.Fixings → IsFirstFault text quotes fixings s n k

-- a fault that is answered is the first of the market
abbrev pub ToldFirst : {X : Type 0} → List ℕ → List ℕ → List ℕ → Result X MarketFault → Type 0
ToldFirst text quotes fixings (Ok market) = Unit {0}
ToldFirst text quotes fixings (Err market.NoMemory) = Unit {0}
ToldFirst text quotes fixings (Err (market.At s n k)) = IsFirstFault text quotes fixings s n k
