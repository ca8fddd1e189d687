-- What holds of the session of a script of blocks.
use Rattle.std.specs.Prelude.{◌≡◌, false, List, [], ◌++◌}
use Rattle.desk_terms.specs.Reading.{Calc}
use Rattle.desk_model.specs.Sound.{IsSound}
use Rattle.desk_model.specs.Unheld.{HoldsNothing}
use Rattle.watch_rounds.specs.declared.picker.Order.{Order}
use Rattle.session_model.specs.Course.{Running}

-- it goes on, it is sound, nothing in it is held back, and it has no action
pub record IsGoing (calc : Calc) (r : Running Order) : Type 0 where
  pub running : r.standing.stopped ≡ false
  pub sound : IsSound calc r.standing.state
  pub unheld : HoldsNothing r.standing.state
  pub actions : r.standing.actions ≡ []

-- a list has grown, or is as it was
pub record Extends {A : Type 0} (old new : List A) : Type 0 where
  pub more : List A
  pub whole : new ≡ old ++ more
