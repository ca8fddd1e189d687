use Rattle.std.proofs.Common.{List, [], ◌∷◌, ℕ, refl}
use Rattle.curve_terms.specs.declared.terms.Helper.{Helper}
use Rattle.curve_drawing.proofs.Appending.{parts_more, parts_end}
use Rattle.curve_run.specs.Quoted.{helper_quotes}
use Rattle.curve_run.proofs.quoted.push_quotes.Goals as goal

abbrev one : Helper → List ℕ
one helper = helper.quote ∷ []

pub loop-helper-preserved : goal.loop-helper-preserved
loop-helper-preserved c =
    parts_more one helper_quotes (λ x xs. refl) c.args.helpers.now c.loop-helper.helper-index
    c.helper-item.result _ _ _ c.loop-helper-test.true c.helper-item.is c.in_ok-push.ensures.items
    c.loop-helper.invariant

pub returns : goal.returns
returns c =
    parts_end helper_quotes refl c.args.helpers.now c.loop-helper.helper-index _ _ c.loop-helper-test.false
    c.loop-helper.invariant
