use Rattle.std.proofs.Common.{◌+◌, ◌*◌, ◌-◌, length}
use Rattle.ask_walk.proofs.Remembered.{Works, unread_of}
use Rattle.object_store.specs.Market.{market_in}
use Rattle.ask_walk.proofs.reader.read_through.Given as goal

abbrev pub invariant-loop-top : goal.invariant-loop-top
invariant-loop-top l = Works (market_in l.market) l.fn.object l.stack.items l.scratch.entries

abbrev pub decreases-loop-top : goal.decreases-loop-top
decreases-loop-top l = unread_of l.scratch.entries * (length l.market.objects + 3) + (length l.market.objects + 2 - length l.stack.items)
