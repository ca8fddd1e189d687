use Rattle.std.proofs.Common.{sym, ap, ◌∙◌}
use Rattle.std.specs.Prelude.{slice_get}
use Rattle.desk_names.proofs.NameLaws.{slice_get-place_of}
use Rattle.session_lang.proofs.met.Met.number_of.Goals as goal

pub returns-clause-at : goal.returns-clause-at
returns-clause-at c =
    ap (slice_get c.args.names.now) c.in_ok-name.ensures.place
    ∙ slice_get-place_of c.args.names.now c.args.text.now (sym c.in_ok-name.ensures.found)
