use Rattle.std.proofs.Common.{refl}
use Rattle.std.specs.Fmt.{digits}
use Rattle.desk_top.proofs.rows.loads_are_summed_up.Goals as goal

pub returns : goal.returns
unfolding digits
returns c = record {
  nothing = refl;
  two = refl;
  begun = refl;
}
