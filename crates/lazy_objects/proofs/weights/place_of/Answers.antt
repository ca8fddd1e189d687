use Rattle.std.proofs.Common.{sym, ◌∙◌}
use Rattle.lazy_objects.proofs.Places.{placeless}
use Rattle.lazy_objects.proofs.weights.place_of.Goals as goal

pub returns-then-not-is_member : goal.returns-then-not-is_member
returns-then-not-is_member c = sym (placeless c.args.parts.now c.args.member (sym c.requires ∙ c.if-not-is_member.true))
