use Rattle.std.specs.Prelude.{map}
use Rattle.std.specs.String.{string_bytes}
use Rattle.curve_run.proofs.Served.{are_served}
use Rattle.curve_run.proofs.finding.all_named.Goals as goal

pub returns-then-is_empty-clause-curves : goal.returns-then-is_empty-clause-curves
returns-then-is_empty-clause-curves c =
    are_served c.args.desk.now.market c.args.names.now (map string_bytes c.args.texts.now) _ c.in_ok-found.ensures.curves
