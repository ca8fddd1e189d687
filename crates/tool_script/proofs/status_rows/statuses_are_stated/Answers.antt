use Rattle.std.proofs.Common.{refl}
use Rattle.std.specs.Fmt.{digits}
use Rattle.tool_script.proofs.status_rows.statuses_are_stated.Goals as goal

pub returns : goal.returns
unfolding digits
returns c = record {
  done = record { code = refl; line = refl };
  usage = record { code = refl; line = refl };
  market = record { code = refl; line = refl };
  script = record { code = refl; line = refl };
  read = record { code = refl; line = refl };
  write = record { code = refl; line = refl };
  memory = record { code = refl; line = refl };
  absent_market = record { code = refl; line = refl };
  absent_quotes = record { code = refl; line = refl };
  absent_fixings = record { code = refl; line = refl };
  absent_script = record { code = refl; line = refl };
}
