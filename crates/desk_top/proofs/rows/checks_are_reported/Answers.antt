use Rattle.std.proofs.Common.{refl}
use Rattle.std.specs.Fmt.{digits}
use Rattle.desk_top.proofs.rows.checks_are_reported.Goals as goal

pub returns : goal.returns
unfolding digits
returns c = record {
  nothing = refl;
  some = refl;
}
