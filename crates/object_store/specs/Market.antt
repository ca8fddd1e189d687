-- The market and the state that the parts of a desk stand for.
use Rattle.desk_model.specs.Market.{Market}
use Rattle.desk_model.specs.State.{State}
use Rattle.object_store.specs.declared.market.Market as parts
use Rattle.object_store.specs.Slots.{market_of, state_of}
use Rattle.object_store.specs.Store.{StoreView, registry_of}

-- THE MARKET of a desk, as its prices read it
abbrev pub market_in : parts.Market → Market
market_in market = market_of market.today market.objects

-- THE STATE of a desk: its market, and what is stored of each object
abbrev pub state_in : parts.Market → StoreView → State
state_in market store = state_of market.today market.objects store.kept (registry_of store)

-- the same state, but for what is kept of each object, which is that of another store
abbrev pub state_after : parts.Market → StoreView → StoreView → State
state_after market old new = record (state_in market old) { kept = new.kept }
