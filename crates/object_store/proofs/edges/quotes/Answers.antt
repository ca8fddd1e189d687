use Rattle.std.proofs.Common.{◌≡◌, ◌++◌, ◌∷◌, ◌∙◌, ℕ, List, refl, ap}
use Rattle.std.specs.Prelude.{if◌then◌else◌}
use Rattle.curve_terms.specs.declared.terms.CurveStart.{CurveStart}
use Rattle.curve_terms.specs.declared.terms.CurveStart.TheVariants.{Moving, Fixed}
use Rattle.desk_terms.specs.Terms.{moves, helper_references}
use Rattle.desk_model.specs.Market.{named}
use Rattle.object_store.specs.Shape.{moved_by}
use Rattle.object_store.proofs.edges.quotes.Goals as goal

begun_by : (start : CurveStart) (quotes : List ℕ) → moved_by start ++ quotes ≡ (if moves start then 0 ∷ quotes else quotes)
begun_by (Moving settlement) quotes = refl
begun_by (Fixed day) quotes = refl

pub loop-helper-init : goal.loop-helper-init
loop-helper-init c =
    ap (λ (objects : List ℕ). objects ++ named (helper_references c.args.helpers.now)) c.in_ok-quotes.ensures
    ∙ begun_by c.args.start (named (helper_references c.args.helpers.now))
