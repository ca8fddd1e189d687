use Rattle.std.proofs.Common.{◌↔◌, drop}
use Rattle.desk_terms.specs.Terms.{part_references}
use Rattle.desk_model.specs.Links.{Serve}
use Rattle.pricing_session.proofs.serving.are_members.Given as goal

abbrev pub invariant-loop-part : goal.invariant-loop-part
invariant-loop-part l =
    Serve l.desk.market (part_references (drop l.part-index l.parts)) ↔ Serve l.desk.market (part_references l.parts)
