use Rattle.std.proofs.Common.{rules}
use Rattle.curve_points.proofs.SegmentLemmas.{between_within}
use Rattle.curve_points.proofs.segments.factor_between.Goals as goal

pub returns-clause-value : goal.returns-clause-value
returns-clause-value c = search rules

pub returns-clause-high : goal.returns-clause-high
returns-clause-high c = rw (returns-clause-value c) (between_within c.args.from c.args.to c.args.day c.args.first c.args.last 0 4000000000000 c.requires.after c.requires.within c.requires.first c.requires.last c.requires.first_high c.requires.last_high).1

pub returns-clause-positive : goal.returns-clause-positive
returns-clause-positive c h k = rw (returns-clause-value c) (between_within c.args.from c.args.to c.args.day c.args.first c.args.last 1 4000000000000 c.requires.after c.requires.within h k c.requires.first_high c.requires.last_high).0
