use Rattle.std.proofs.Common.{◌≡◌, drop}
use Rattle.toml.specs.View.{items_view}
use Rattle.market_tables.specs.Entries.{entries_from}
use Rattle.market_tables.proofs.entries.take_tables.Given as goal

-- what the tables that are left leave is what all of them leave
abbrev pub invariant-loop-item : goal.invariant-loop-item
invariant-loop-item g l = entries_from g.T.TakesTables.behind l.taker l.number (items_view (drop l.item-index l.items)) ≡ entries_from g.T.TakesTables.behind l.fn.taker 1 (items_view l.items)
