use Rattle.std.proofs.Common.{◌≡◌}
use Rattle.std.specs.Vec.Iter.{into_iter_items}
use Rattle.desk_terms.specs.Reading.{Calc}
use Rattle.desk_model.specs.Sound.{IsSound}
use Rattle.session_model.specs.Standing.{with_objects}
use Rattle.market_session.proofs.Taking.{MayTake}
use Rattle.market_session.proofs.making.session_of.Given as goal

-- the objects that are left leave the session that all of them leave, and they may be taken
abbrev pub invariant-loop-name : goal.invariant-loop-name
invariant-loop-name l = record {
  left : with_objects (into_iter_items l.name-iterator) l.session
      ≡ with_objects (into_iter_items l.initial.name-iterator) l.initial.session;
  may : MayTake l.session (into_iter_items l.name-iterator);
  sound : (calc : Calc) → IsSound calc l.session.state;
}
