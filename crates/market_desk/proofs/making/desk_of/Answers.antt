use Rattle.std.proofs.Common.{refl, sym, ◌∙◌, arith}
use Rattle.market_desk.proofs.Taking.{left_more, left_none, left_all, next_ranged, next_of_kind, next_room, may_more, made_unheld, start_holds, may_begin}
use Rattle.market_desk.proofs.making.desk_of.Goals as goal

pub loop-terms-init : goal.loop-terms-init
loop-terms-init c = record {
  left = refl;
  may = may_begin _ _ _ _ c.requires.order c.requires.room c.in_ok-desk.ensures.start
      c.into_iter-terms-iterator.ensures.into_iter_gives.0;
  sound = c.in_ok-desk.ensures.sound;
  unheld = start_holds _ _ c.in_ok-desk.ensures.start;
}

pub add-requires-clause-kinds : goal.add-requires-clause-kinds
add-requires-clause-kinds c = next_of_kind _ _ _ _ c.in-Some.ensures.steps.0 c.loop-terms.invariant.may

pub add-requires-clause-room : goal.add-requires-clause-room
add-requires-clause-room c = next_room _ _ _ _ c.in-Some.ensures.steps.0 c.loop-terms.invariant.may

pub add-requires-clause-ranged : goal.add-requires-clause-ranged
add-requires-clause-ranged c = next_ranged _ _ _ _ c.in-Some.ensures.steps.0 c.loop-terms.invariant.may

pub loop-terms-preserved : goal.loop-terms-preserved
loop-terms-preserved c =
    let steps = c.in-Some.ensures.steps.0 in record {
      left = left_more _ _ _ _ _ steps c.in_ok-add.ensures.added ∙ c.loop-terms.invariant.left;
      may = may_more _ _ _ _ _ steps c.in_ok-add.ensures.added c.loop-terms.invariant.may;
      sound = λ calc. c.add.ensures.sound calc (c.loop-terms.invariant.sound calc);
      unheld = made_unheld _ _ _ c.in_ok-add.ensures.added c.loop-terms.invariant.unheld;
    }

pub returns-clause-desk : goal.returns-clause-desk
returns-clause-desk c =
    sym (left_none _ _ (omega (arith, c.in-None.ensures.steps.0, c.loop-terms.terms-iterator.rest.ok.0)))
    ∙ c.loop-terms.invariant.left
    ∙ left_all _ _ _ _ c.into_iter-terms-iterator.ensures.into_iter_gives.0 c.in_ok-desk.ensures.start
