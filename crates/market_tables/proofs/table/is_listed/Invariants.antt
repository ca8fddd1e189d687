use Rattle.std.proofs.Common.{◌≡◌, drop, map}
use Rattle.market_tables.specs.Table.{listed, is_listed}
use Rattle.market_tables.proofs.table.is_listed.Given as goal

abbrev pub invariant-loop-listed : goal.invariant-loop-listed
invariant-loop-listed g l = is_listed (map listed (drop l.listed-index l.keys)) l.word ≡ is_listed (map listed l.keys) l.word
