use Rattle.bump_model.proofs.Moving.{differ_none, quoted_live, set_differ, set_back}
use Rattle.bump_model.specs.Moves.{all_set}
use Rattle.bump_model.proofs.Asking.{rung_leaves, ladder_leaves}
use Rattle.bump_model.proofs.laws.a_ladder_leaves_the_market.Goals as goal

pub returns-clause-back : goal.returns-clause-back
returns-clause-back c = λ s group are change.
    set_back group s.market (all_set change group s) are
    (set_differ change group s.market s (quoted_live s.market group are) (differ_none group s.market))

pub returns-clause-rung : goal.returns-clause-rung
returns-clause-rung c = rung_leaves

pub returns-clause-ladder : goal.returns-clause-ladder
returns-clause-ladder c = ladder_leaves
