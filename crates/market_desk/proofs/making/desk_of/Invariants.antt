use Rattle.std.proofs.Common.{◌≡◌}
use Rattle.std.specs.Vec.Iter.{into_iter_items}
use Rattle.desk_terms.specs.Reading.{Calc}
use Rattle.desk_model.specs.Sound.{IsSound}
use Rattle.desk_model.specs.Unheld.{HoldsNothing}
use Rattle.market_desk.specs.Making.{with_made}
use Rattle.market_desk.proofs.Taking.{MayTake}
use Rattle.market_desk.proofs.making.desk_of.Given as goal

-- the objects that are left leave the desk that all of them leave, and they may be taken
abbrev pub invariant-loop-terms : goal.invariant-loop-terms
invariant-loop-terms l = record {
  left : with_made (into_iter_items l.terms-iterator) l.desk
      ≡ with_made (into_iter_items l.initial.terms-iterator) l.initial.desk;
  may : MayTake l.desk (into_iter_items l.terms-iterator);
  sound : (calc : Calc) → IsSound calc l.desk;
  unheld : HoldsNothing l.desk;
}
