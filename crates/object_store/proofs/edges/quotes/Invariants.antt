use Rattle.std.proofs.Common.{◌≡◌, ◌++◌, ◌∷◌, drop}
use Rattle.std.specs.Prelude.{if◌then◌else◌}
use Rattle.desk_terms.specs.Terms.{moves, helper_references}
use Rattle.desk_model.specs.Market.{named}
use Rattle.object_store.proofs.edges.quotes.Given as goal

abbrev pub invariant-loop-helper : goal.invariant-loop-helper
invariant-loop-helper l =
    l.quotes.items ++ named (helper_references (drop l.helper-index l.helpers))
    ≡ (if moves l.fn.start then 0 ∷ named (helper_references l.helpers) else named (helper_references l.helpers))
