-- What holds of a desk between two calls.
use Rattle.std.specs.Prelude.{◌≤◌, ◌^◌, length}
use Rattle.desk_model.specs.State.{State}
use Rattle.desk_model.specs.Links.{IsWhole, IsKinded, AreRanged}
use Rattle.desk_model.specs.Sound.{HasNoSourceWhereOff}
use Rattle.object_store.specs.Scratch.{ScratchView, IsEmpty}

-- THE INVARIANT of a desk: its state is whole, no notice is held back where deferral is off, each object names others of
-- the right kinds, its terms are in range, at most 65,536 numbers are given, and nothing is remembered between asks.
pub record Stands (state : State) (scratch : ScratchView) : Type 0 where
  pub whole : IsWhole state
  pub sources : HasNoSourceWhereOff state
  pub kinds : IsKinded state.market
  pub ranged : AreRanged state.market
  pub limit : length state.market.objects ≤ 2 ^ 16
  pub empty : IsEmpty (length state.market.objects) scratch
