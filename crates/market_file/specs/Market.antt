-- A market from its files (this project's profile).
use Rattle.std.specs.Prelude.{ℕ, ℤ, Bool, nat_lt, length, is_some, codes, if◌then◌else◌, List, Option, Some, None, Result, Ok, Err}
use Rattle.csv.specs.Reading.{default_config, strip_bom, records}
use Rattle.toml.specs.Data.{Data, Items, no_items, Members, get_member, as_array}
use Rattle.desk_terms.specs.declared.terms.Terms.{Terms}
use Rattle.market_tables.specs.declared.fault.MarketKind.TheVariants as fault
use Rattle.market_tables.specs.Given.{◌>>=◌}
use Rattle.market_tables.specs.Entries.{entries_from}
use Rattle.market_records.specs.Records.{behind_records}
use Rattle.market_calendars.specs.Reader.{calendars_in}
use Rattle.market_fields.specs.Earlier.{Earlier}
use Rattle.market_objects.specs.Board.{started}
use Rattle.market_objects.specs.Reader as object
use Rattle.market_objects.specs.Quotes as quote
use Rattle.market_objects.specs.Fixings as fixing
use Rattle.market_file.specs.declared.fault.Section.{Section}
use Rattle.market_file.specs.declared.fault.Section.TheVariants as section
use Rattle.market_file.specs.declared.top.TopTable.{TopTable}
use Rattle.market_file.specs.Fault.{Fault, at_entry, in_section}
use Rattle.market_file.specs.Document.{document_of}
use Rattle.market_file.specs.Top.{top_of}
use Rattle.text_limits.specs.declared.limit.TheConstants.{MOST_BYTES}

abbrev pub items_or_none : Option Items → Items
items_or_none None = no_items
items_or_none (Some ds) = ds

abbrev pub items_of : Option Data → Items
items_of None = no_items
items_of (Some d) = items_or_none (as_array d)

-- the tables at a key of the top table, or none
abbrev pub tables_at : List ℕ → Members → Items
tables_at word document = items_of (get_member word document)

-- a file of a section, up to 8 MiB
abbrev pub sized : Section → List ℕ → Result (List ℕ) Fault
sized s file = if nat_lt MOST_BYTES (length file) then Err (s, 0, fault.TooLong) else Ok file

-- the same of a table beside the market, where the market names it
abbrev pub table_sized : Section → Bool → List ℕ → Result (List ℕ) Fault
table_sized s named file = if named then sized s file else Ok file

-- the objects with the quotes of a file that is named
abbrev pub quotes_onto : Bool → List ℕ → Earlier → Result Earlier Fault
quotes_onto named text s =
    if named
    then in_section section.Quotes (behind_records quote.is_header quote.behind s 0 (records default_config (strip_bom text)))
    else Ok s

-- the objects with those of the tables
abbrev pub objects_onto : Members → Earlier → Result Earlier Fault
objects_onto document s = in_section section.Objects (entries_from object.behind s 1 (tables_at (codes "object") document))

-- the objects with the fixings of a file that is named
abbrev pub fixings_onto : Bool → List ℕ → Earlier → Result Earlier Fault
fixings_onto named text s =
    if named
    then in_section section.Fixings (behind_records fixing.is_header fixing.behind s 0 (records default_config (strip_bom text)))
    else Ok s

-- THE READING ORDER: the lengths of the tables beside the market, the calendars, the quotes, the objects, the fixings
abbrev pub objects_of : Members → TopTable → List ℕ → List ℕ → Result Earlier Fault
objects_of document top quotes fixings =
    table_sized section.Quotes (is_some top.quotes) quotes >>= (λ _.
    table_sized section.Fixings (is_some top.fixings) fixings >>= (λ _.
    in_section section.Calendars (calendars_in (tables_at (codes "calendar") document)) >>= (λ calendars.
    quotes_onto (is_some top.quotes) quotes (started top.version calendars) >>= (λ with_quotes.
    objects_onto document with_quotes >>= (λ with_objects.
    fixings_onto (is_some top.fixings) fixings with_objects)))))

-- the evaluation date and the objects of a market's text and its tables
abbrev pub board_of : List ℕ → List ℕ → List ℕ → Result (ℤ × Earlier) Fault
board_of text quotes fixings =
    sized section.Top text >>= (λ _.
    at_entry section.Top 0 (document_of text) >>= (λ document.
    at_entry section.Top 0 (top_of document) >>= (λ top.
    objects_of document top quotes fixings >>= (λ board. Ok (top.today, board)))))

-- the evaluation date, the objects but `today` with their names' numbers, and the names, `today` first
pub record Market : Type 0 where
  pub today : ℤ
  pub made : List (ℕ × Terms)
  pub names : List (List ℕ)

-- the market of a text and of the tables that it names, or its first fault: its section, its entry and its kind
abbrev pub read_market : List ℕ → List ℕ → List ℕ → Result Market Fault
read_market text quotes fixings =
    board_of text quotes fixings >>= (λ m. Ok (record { today = m.0; made = m.1.made; names = m.1.names }))
