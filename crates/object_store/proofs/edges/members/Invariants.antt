use Rattle.std.proofs.Common.{◌≡◌, ◌++◌, drop}
use Rattle.desk_terms.specs.Terms.{part_references}
use Rattle.desk_model.specs.Market.{named}
use Rattle.object_store.proofs.edges.members.Given as goal

abbrev pub invariant-loop-part : goal.invariant-loop-part
invariant-loop-part l = l.members.items ++ named (part_references (drop l.part-index l.parts)) ≡ named (part_references l.parts)
