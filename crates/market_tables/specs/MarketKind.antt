-- The words of the faults of a market (this project's profile).
use Rattle.std.specs.Prelude.{ℕ, List, codes}
use Rattle.market_tables.specs.declared.fault.MarketKind.{MarketKind}
use Rattle.market_tables.specs.declared.fault.MarketKind.TheVariants as fault

-- the word that a fault prints as
abbrev pub kind_text : MarketKind → List ℕ
kind_text fault.TooLong = codes "toolong"
kind_text fault.Toml = codes "toml"
kind_text fault.Key = codes "key"
kind_text fault.Name = codes "name"
kind_text fault.Taken = codes "taken"
kind_text fault.Unknown = codes "unknown"
kind_text fault.Kind = codes "kind"
kind_text fault.Number = codes "number"
kind_text fault.Date = codes "date"
kind_text fault.Choice = codes "choice"
kind_text fault.Weekend = codes "weekend"
kind_text fault.Parts = codes "parts"
kind_text fault.Plan = codes "plan"
kind_text fault.Range = codes "range"
kind_text fault.Flows = codes "flows"
kind_text fault.Exists = codes "exists"
kind_text fault.Header = codes "header"
kind_text fault.Record = codes "record"
kind_text fault.Limit = codes "limit"
