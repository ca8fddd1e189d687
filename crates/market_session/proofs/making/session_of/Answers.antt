use Rattle.std.proofs.Common.{refl, sym, ◌∙◌, arith}
use Rattle.std.specs.Prelude.{codes}
use Rattle.desk_names.proofs.NameLaws.{has_text-at}
use Rattle.market_session.proofs.Taking.{left_more, left_none, left_all, may_name, is_free, has_room, in_range, are_of_kind, may_more, may_begin}
use Rattle.market_session.proofs.making.session_of.Goals as goal

pub new-requires : goal.new-requires
new-requires c = has_text-at c.args.names (codes "today") 0 c.requires.ready.first

pub loop-name-init : goal.loop-name-init
loop-name-init c = record {
  left = refl;
  may = may_begin _ _ _ _ _ _ c.requires.ready c.in_ok-session.ensures.start
      c.into_iter-name-iterator.ensures.into_iter_gives.0;
  sound = c.in_ok-session.ensures.sound;
}

pub make_next-requires : goal.make_next-requires
make_next-requires c =
    let may = c.loop-name.invariant.may in
    let steps = c.in-Some.ensures.steps.0 in record {
      running = may.running;
      named = may_name _ _ _ _ _ steps may;
      free = is_free _ _ _ _ _ steps may;
      room = has_room _ _ _ _ _ steps may;
      ranged = in_range _ _ _ _ _ steps may;
      inputs = are_of_kind _ _ _ _ _ steps may;
    }

pub loop-name-preserved : goal.loop-name-preserved
loop-name-preserved c =
    let steps = c.in-Some.ensures.steps.0 in record {
      left = left_more _ _ _ _ _ _ steps c.in_ok-make_next.ensures.made ∙ c.loop-name.invariant.left;
      may = may_more _ _ _ _ _ _ steps c.in_ok-make_next.ensures.made c.loop-name.invariant.may;
      sound = λ calc. c.make_next.ensures.sound calc (c.loop-name.invariant.sound calc);
    }

pub returns-clause-start : goal.returns-clause-start
returns-clause-start c =
    sym (left_none _ _ (omega (arith, c.in-None.ensures.steps.0, c.loop-name.name-iterator.rest.ok.0)))
    ∙ c.loop-name.invariant.left
    ∙ left_all _ _ _ _ c.into_iter-name-iterator.ensures.into_iter_gives.0 c.in_ok-session.ensures.start
