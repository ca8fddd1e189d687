use Rattle.std.proofs.Common.{◌≡◌, ◌++◌, drop}
use Rattle.desk_model.specs.Uses.{input_at, helper_entries}
use Rattle.ask_walk.specs.Reads.{Remembers}
use Rattle.object_store.specs.Market.{market_in}
use Rattle.ask_walk.proofs.uses.helper_entries.Given as goal

abbrev pub invariant-loop-at : goal.invariant-loop-at
invariant-loop-at l = (l.entries.items ++ helper_entries (input_at (market_in l.market)) (drop l.at l.helpers) ≡ helper_entries (input_at (market_in l.market)) l.helpers)
    × Remembers (market_in l.market) l.scratch.entries
