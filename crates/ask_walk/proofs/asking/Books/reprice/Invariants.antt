use Rattle.std.proofs.Common.{◌≡◌}
use Rattle.object_store.specs.Market.{market_in, state_in}
use Rattle.object_store.specs.Store.{registry_of}
use Rattle.ask_walk.specs.Reads.{Remembers}
use Rattle.ask_walk.specs.Begun.{IsBegun}
use Rattle.ask_walk.proofs.Loop.{open_of}
use Rattle.ask_walk.proofs.Settling.{Settling}
use Rattle.ask_walk.proofs.asking.Books.reprice.Given as goal

abbrev pub invariant-loop-cause : goal.invariant-loop-cause
invariant-loop-cause g l = (g.B.Bench.calc l.bench ≡ g.B.Bench.calc l.initial.bench)
    × Settling (g.B.Bench.calc l.initial.bench) (state_in l.market l.initial.self.store) l.fn.object (g.B.Bench.count l.initial.bench) (g.B.Bench.log l.initial.bench) l.self.store.kept l.runs (g.B.Bench.count l.bench) (g.B.Bench.log l.bench)
    × Remembers (market_in l.market) l.self.scratch.entries
    × IsBegun (market_in l.market) l.self.store.kept l.top
    × (l.self.store.shape ≡ l.initial.self.store.shape)
    × (registry_of l.self.store ≡ registry_of l.initial.self.store)
    × (l.top.object ≡ l.fn.object)

abbrev pub decreases-loop-cause : goal.decreases-loop-cause
decreases-loop-cause g l = open_of l.self.store.kept
