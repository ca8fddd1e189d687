use Rattle.std.proofs.Common.{List, refl, sym, ◌∙◌, ap}
use Rattle.std.proofs.Math.ListN.{drop_of_length-le}
use Rattle.bump_model.specs.declared.moves.Quoted.{Quoted}
use Rattle.bump_model.specs.Moves.{moved, all_set}
use Rattle.bump_ladder.proofs.Siding.{next_quoted, first_quote, others_live, set_step, within_first, within_rest}
use Rattle.bump_ladder.proofs.sides.move_all.Goals as goal

pub loop-quoted-init : goal.loop-quoted-init
loop-quoted-init c = record {
  left = refl;
  live = c.requires.live;
  within = c.requires.within;
  sound = λ calc sound. sound;
}

pub moved-requires : goal.moved-requires
moved-requires c =
    let steps = next_quoted c.args.group.now c.loop-quoted.quoted-index c.quoted-item.result c.loop-quoted-test.true c.quoted-item.is in
    within_first _ _ _ steps c.args.shift c.loop-quoted.invariant.within

pub set_quote-requires : goal.set_quote-requires
set_quote-requires c =
    let steps = next_quoted c.args.group.now c.loop-quoted.quoted-index c.quoted-item.result c.loop-quoted-test.true c.quoted-item.is in
    first_quote _ _ _ steps c.loop-quoted.desk.market c.loop-quoted.invariant.live

pub loop-quoted-preserved : goal.loop-quoted-preserved
loop-quoted-preserved c =
    let steps = next_quoted c.args.group.now c.loop-quoted.quoted-index c.quoted-item.result c.loop-quoted-test.true c.quoted-item.is in
    record {
      left = set_step _ _ _ steps (moved c.args.shift) c.loop-quoted.desk c.set_quote.new.self _ c.moved.ensures c.set_quote.ensures.set
          ∙ c.loop-quoted.invariant.left;
      live = others_live _ _ _ steps c.loop-quoted.desk c.set_quote.new.self _ c.set_quote.ensures.set c.loop-quoted.invariant.live;
      within = within_rest _ _ _ steps c.args.shift c.loop-quoted.invariant.within;
      sound = λ calc sound. c.set_quote.ensures.sound calc (c.loop-quoted.invariant.sound calc sound);
    }

pub returns-clause-moved : goal.returns-clause-moved
unfolding all_set
returns-clause-moved c =
    ap (λ (l : List Quoted). all_set (moved c.args.shift) l c.loop-quoted.desk) (sym (drop_of_length-le c.args.group.now c.loop-quoted-test.false))
    ∙ c.loop-quoted.invariant.left
