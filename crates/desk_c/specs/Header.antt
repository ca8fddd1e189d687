-- The numbers of the header for C, each by its name there. checks/c_library compares these rows with examples/c/doqsheley.h.
use Rattle.std.specs.Prelude.{◌≡◌, ℕ, List, Some, None}
use Rattle.desk_terms.specs.declared.asked.Mark.TheVariants as mark
use Rattle.desk_terms.specs.declared.kind.Kind.TheVariants as kind
use Rattle.market_file.specs.declared.fault.Section.TheVariants as section
use Rattle.market_tables.specs.declared.fault.MarketKind.TheVariants as market
use Rattle.session_commands.specs.declared.script_kind.ScriptKind.TheVariants as script
use Rattle.session_model.specs.Place.{kind_number}
use Rattle.watch_rounds.specs.declared.picker.Order.TheVariants.{First, Last, Seed}
use Rattle.desk_c.specs.Numbers.{mark_number, section_number, market_number, script_number}
use Rattle.desk_c.specs.Orders.{order_in}
use Rattle.desk_c.specs.Tables.{named_number}
use Rattle.desk_c.specs.declared.status.TheConstants.{VERSION, DONE, USAGE, MARKET, SCRIPT, NO_MEMORY, CLOSED, STOPPED, NO_NAME, REFUSED, RANGE, UNPRICED, NOT_MONEY, NOT_CURVE}

-- EACH NUMBER OF THE HEADER by its name there
pub record AreNumbers : Type 0 where
  pub DESK_VERSION : VERSION ≡ 18
  pub DESK_DONE : DONE ≡ 0
  pub DESK_USAGE : USAGE ≡ 2
  pub DESK_MARKET : MARKET ≡ 3
  pub DESK_SCRIPT : SCRIPT ≡ 4
  pub DESK_NO_MEMORY : NO_MEMORY ≡ 7
  pub DESK_CLOSED : CLOSED ≡ 10
  pub DESK_STOPPED : STOPPED ≡ 11
  pub DESK_NO_NAME : NO_NAME ≡ 12
  pub DESK_REFUSED : REFUSED ≡ 13
  pub DESK_RANGE : RANGE ≡ 14
  pub DESK_UNPRICED : UNPRICED ≡ 15
  pub DESK_NOT_MONEY : NOT_MONEY ≡ 16
  pub DESK_NOT_CURVE : NOT_CURVE ≡ 18
  pub DESK_FIRST : (seed : ℕ) → order_in 0 seed ≡ Some First
  pub DESK_LAST : (seed : ℕ) → order_in 1 seed ≡ Some Last
  pub DESK_SEED : (seed : ℕ) → order_in 2 seed ≡ Some (Seed seed)
  pub DESK_NAMES_QUOTES : (quotes : List ℕ) → named_number (record { quotes = Some quotes; fixings = None }) ≡ 1
  pub DESK_NAMES_FIXINGS : (fixings : List ℕ) → named_number (record { quotes = None; fixings = Some fixings }) ≡ 2
  pub DESK_FRESH : mark_number mark.Fresh ≡ 0
  pub DESK_FROZEN : mark_number mark.Frozen ≡ 1
  pub DESK_LATE : mark_number mark.Late ≡ 2
  pub DESK_HELD : mark_number mark.Held ≡ 3
  pub DESK_RECALC : mark_number mark.Recalc ≡ 4
  pub DESK_TODAY : kind_number kind.Today ≡ 0
  pub DESK_QUOTE : kind_number kind.Quote ≡ 1
  pub DESK_DERIVED : kind_number kind.Derived ≡ 2
  pub DESK_QUOTE_HANDLE : kind_number kind.QuoteHandle ≡ 3
  pub DESK_CURVE_HANDLE : kind_number kind.CurveHandle ≡ 4
  pub DESK_INDEX : kind_number kind.Index ≡ 5
  pub DESK_ENGINE : kind_number kind.Engine ≡ 6
  pub DESK_CURVE : kind_number kind.Curve ≡ 7
  pub DESK_IMPLIED : kind_number kind.Implied ≡ 8
  pub DESK_STOCK : kind_number kind.Stock ≡ 9
  pub DESK_COMPOSITE : kind_number kind.Composite ≡ 10
  pub DESK_FLOWS : kind_number kind.Flows ≡ 11
  pub DESK_WATCHER : kind_number kind.Watcher ≡ 12
  pub DESK_IN_TOP : section_number section.Top ≡ 1
  pub DESK_IN_CALENDARS : section_number section.Calendars ≡ 2
  pub DESK_IN_QUOTES : section_number section.Quotes ≡ 3
  pub DESK_IN_OBJECTS : section_number section.Objects ≡ 4
  pub DESK_IN_FIXINGS : section_number section.Fixings ≡ 5
  pub DESK_MARKET_TOOLONG : market_number market.TooLong ≡ 1
  pub DESK_MARKET_TOML : market_number market.Toml ≡ 2
  pub DESK_MARKET_KEY : market_number market.Key ≡ 3
  pub DESK_MARKET_NAME : market_number market.Name ≡ 4
  pub DESK_MARKET_TAKEN : market_number market.Taken ≡ 5
  pub DESK_MARKET_UNKNOWN : market_number market.Unknown ≡ 6
  pub DESK_MARKET_KIND : market_number market.Kind ≡ 7
  pub DESK_MARKET_NUMBER : market_number market.Number ≡ 8
  pub DESK_MARKET_DATE : market_number market.Date ≡ 9
  pub DESK_MARKET_CHOICE : market_number market.Choice ≡ 10
  pub DESK_MARKET_WEEKEND : market_number market.Weekend ≡ 11
  pub DESK_MARKET_PARTS : market_number market.Parts ≡ 12
  pub DESK_MARKET_PLAN : market_number market.Plan ≡ 13
  pub DESK_MARKET_RANGE : market_number market.Range ≡ 14
  pub DESK_MARKET_FLOWS : market_number market.Flows ≡ 15
  pub DESK_MARKET_EXISTS : market_number market.Exists ≡ 16
  pub DESK_MARKET_HEADER : market_number market.Header ≡ 17
  pub DESK_MARKET_RECORD : market_number market.Record ≡ 18
  pub DESK_MARKET_LIMIT : market_number market.Limit ≡ 19
  pub DESK_SCRIPT_TOOLONG : script_number script.TooLong ≡ 1
  pub DESK_SCRIPT_BYTE : script_number script.Byte ≡ 2
  pub DESK_SCRIPT_WORD : script_number script.Word ≡ 3
  pub DESK_SCRIPT_COUNT : script_number script.Count ≡ 4
  pub DESK_SCRIPT_NESTED : script_number script.Nested ≡ 5
  pub DESK_SCRIPT_END : script_number script.End ≡ 6
  pub DESK_SCRIPT_NAME : script_number script.Name ≡ 7
  pub DESK_SCRIPT_TWICE : script_number script.Twice ≡ 8
  pub DESK_SCRIPT_NUMBER : script_number script.Number ≡ 9
  pub DESK_SCRIPT_DATE : script_number script.Date ≡ 10
  pub DESK_SCRIPT_CHOICE : script_number script.Choice ≡ 11
  pub DESK_SCRIPT_NAMES : script_number script.Names ≡ 12
  pub DESK_SCRIPT_UNCLOSED : script_number script.Unclosed ≡ 13
  pub DESK_SCRIPT_NOACTION : script_number script.NoAction ≡ 14
