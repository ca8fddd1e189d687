-- The document of a market's text, by the grammar of the library `toml`.
use Rattle.std.specs.Prelude.{ℕ, if◌then◌else◌, List, Option, Some, None, Result, Ok, Err}
use Rattle.std.specs.Str.{is_utf8}
use Rattle.toml.specs.Data.{Members}
use Rattle.toml.specs.Parse.{parse_document}
use Rattle.market_tables.specs.declared.fault.MarketKind.{MarketKind}
use Rattle.market_tables.specs.declared.fault.MarketKind.TheVariants as fault

abbrev pub or_toml : Option Members → Result Members MarketKind
or_toml None = Err fault.Toml
or_toml (Some document) = Ok document

-- the document of a text that is UTF-8 and TOML
abbrev pub document_of : List ℕ → Result Members MarketKind
document_of text = if is_utf8 text then or_toml (parse_document text) else Err fault.Toml
