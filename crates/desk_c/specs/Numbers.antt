-- Numbers that are handed to C (this project's profile).
use Rattle.std.specs.Prelude.{ℕ, ℤ, pos, ◌+◌, ◌*◌, ◌/◌, ◌%◌, unsigned_abs}
use Rattle.day_number.specs.Day.{date_of, IsCivil, civil_number}
use Rattle.desk_terms.specs.declared.asked.Mark.{Mark}
use Rattle.desk_terms.specs.declared.asked.Mark.TheVariants as mark
use Rattle.market_file.specs.declared.fault.Section.{Section}
use Rattle.market_file.specs.declared.fault.Section.TheVariants as section
use Rattle.market_tables.specs.declared.fault.MarketKind.{MarketKind}
use Rattle.market_tables.specs.declared.fault.MarketKind.TheVariants as market
use Rattle.session_commands.specs.declared.script_kind.ScriptKind.{ScriptKind}
use Rattle.session_commands.specs.declared.script_kind.ScriptKind.TheVariants as script

abbrev pub mark_number : Mark → ℕ
mark_number mark.Fresh = 0
mark_number mark.Frozen = 1
mark_number mark.Late = 2
mark_number mark.Held = 3
mark_number mark.Recalc = 4

-- the sections of a market; a script is none of them, and has 0
abbrev pub section_number : Section → ℕ
section_number section.Top = 1
section_number section.Calendars = 2
section_number section.Quotes = 3
section_number section.Objects = 4
section_number section.Fixings = 5

-- the faults of a market
abbrev pub market_number : MarketKind → ℕ
market_number market.TooLong = 1
market_number market.Toml = 2
market_number market.Key = 3
market_number market.Name = 4
market_number market.Taken = 5
market_number market.Unknown = 6
market_number market.Kind = 7
market_number market.Number = 8
market_number market.Date = 9
market_number market.Choice = 10
market_number market.Weekend = 11
market_number market.Parts = 12
market_number market.Plan = 13
market_number market.Range = 14
market_number market.Flows = 15
market_number market.Exists = 16
market_number market.Header = 17
market_number market.Record = 18
market_number market.Limit = 19

-- the faults of a script
abbrev pub script_number : ScriptKind → ℕ
script_number script.TooLong = 1
script_number script.Byte = 2
script_number script.Word = 3
script_number script.Count = 4
script_number script.Nested = 5
script_number script.End = 6
script_number script.Name = 7
script_number script.Twice = 8
script_number script.Number = 9
script_number script.Date = 10
script_number script.Choice = 11
script_number script.Names = 12
script_number script.Unclosed = 13
script_number script.NoAction = 14

-- a day as the number YYYYMMDD
abbrev pub day_code : ℤ → ℕ
day_code number = let date = date_of number in unsigned_abs date.year * 10000 + date.month * 100 + date.day

-- the number YYYYMMDD is that of a day in range
abbrev pub IsDay : ℕ → Type 0
IsDay code = IsCivil (pos (code / 10000)) (code / 100 % 100) (code % 100)

-- the day of such a number
abbrev pub day_of : ℕ → ℤ
day_of code = civil_number (pos (code / 10000)) (code / 100 % 100) (code % 100)
