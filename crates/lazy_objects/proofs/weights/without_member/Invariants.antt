use Rattle.std.proofs.Common.{◌≡◌, ◌++◌, drop}
use Rattle.desk_model.specs.Changeable.{without_member}
use Rattle.lazy_objects.proofs.weights.without_member.Given as goal

abbrev pub invariant-loop-part : goal.invariant-loop-part
invariant-loop-part l = l.rest ++ without_member (drop l.part-index l.parts) l.member ≡ without_member l.parts l.member
