use Rattle.std.proofs.Common.{◌↔◌, drop}
use Rattle.desk_terms.specs.Terms.{helper_references}
use Rattle.desk_model.specs.Links.{Serve}
use Rattle.pricing_session.proofs.serving.are_quoted.Given as goal

abbrev pub invariant-loop-helper : goal.invariant-loop-helper
invariant-loop-helper l =
    Serve l.desk.market (helper_references (drop l.helper-index l.helpers))
    ↔ Serve l.desk.market (helper_references l.helpers)
