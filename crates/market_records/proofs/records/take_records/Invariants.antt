use Rattle.std.proofs.Common.{◌≡◌, ◌<◌, ℕ, List, Some}
use Rattle.csv.specs.Reading.{AreRecords, Ready, default_config, records, source_of, strip_bom}
use Rattle.csv.specs.declared.reader.Trim.TheVariants as trim
use Rattle.market_records.specs.Records.{behind_records}
use Rattle.market_records.proofs.records.take_records.Given as goal

-- what the records that are left leave is what all of them leave
abbrev pub invariant-loop-row : goal.invariant-loop-row
invariant-loop-row g l = (l.row-iterator.rdr.trim ≡ trim.None) × Ready l.row-iterator.rdr × (0 < l.row-iterator.left) × (l.row-iterator.rdr.config ≡ default_config)
    × (y : List ℕ) × (source_of (λ s. Some s.now) l.row-iterator.rdr ≡ Some y)
    × (rest : List (List (List ℕ))) × AreRecords default_config l.row-iterator.rdr.state y rest
    × (behind_records g.T.TakesRecords.header g.T.TakesRecords.behind l.taker l.number rest ≡ behind_records g.T.TakesRecords.header g.T.TakesRecords.behind l.fn.taker 0 (records default_config (strip_bom l.fn.text)))
