use Rattle.std.proofs.Common.{◌∙◌}
use Rattle.desk_names.proofs.NameLaws.{new_goes_last}
use Rattle.live_session.proofs.learning.add_new.Goals as goal

pub returns-in-Ok-clause-ok : goal.returns-in-Ok-clause-ok
returns-in-Ok-clause-ok c = c.in-Ok.ensures.kept ∙ new_goes_last c.args.names.now c.args.text.now c.requires.new
