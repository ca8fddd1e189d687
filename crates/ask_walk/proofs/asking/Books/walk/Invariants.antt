use Rattle.std.proofs.Common.{◌≡◌, ◌++◌, ◌∷◌, [], ◌+◌, ◌*◌, ◌-◌, length}
use Rattle.object_store.specs.Market.{market_in, state_in}
use Rattle.object_store.specs.Store.{registry_of}
use Rattle.ask_walk.specs.Reads.{Remembers}
use Rattle.ask_walk.specs.Begun.{IsBegun, AreBegun, Keeps, objects_of}
use Rattle.ask_walk.proofs.Loop.{Asking, open_of}
use Rattle.ask_walk.proofs.asking.Books.walk.Given as goal

abbrev pub invariant-loop-waiting : goal.invariant-loop-waiting
invariant-loop-waiting g l = (g.B.Bench.calc l.bench ≡ g.B.Bench.calc l.initial.bench)
    × Asking (g.B.Bench.calc l.initial.bench) (state_in l.market l.initial.self.store) l.fn.object (g.B.Bench.count l.initial.bench) (g.B.Bench.log l.initial.bench) (objects_of l.waiting.items ++ l.top.object ∷ []) l.self.store.kept l.runs (g.B.Bench.count l.bench) (g.B.Bench.log l.bench)
    × Remembers (market_in l.market) l.self.scratch.entries
    × (IsBegun (market_in l.market) l.self.store.kept l.top × AreBegun (market_in l.market) l.self.store.kept l.waiting.items)
    × (l.self.store.shape ≡ l.initial.self.store.shape)
    × (registry_of l.self.store ≡ registry_of l.initial.self.store)
    × Keeps l.initial.self.store.kept l.self.store.kept

abbrev pub decreases-loop-waiting : goal.decreases-loop-waiting
decreases-loop-waiting g l = open_of l.self.store.kept * (length l.market.objects + 3) + (length l.market.objects + 2 - (length l.waiting.items + 1))
