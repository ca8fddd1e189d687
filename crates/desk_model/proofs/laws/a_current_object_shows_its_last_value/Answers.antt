use Rattle.desk_model.proofs.Shown.{holds_fit, shows_last}
use Rattle.desk_model.proofs.Watchers.{thawed_forwarder}
use Rattle.desk_model.proofs.Asked.{asked_last}
use Rattle.desk_model.proofs.laws.a_current_object_shows_its_last_value.Goals as goal

pub returns-clause-current : goal.returns-clause-current
returns-clause-current c = λ calc s whole sound o current free. shows_last calc s whole.links (holds_fit s whole.links (thawed_forwarder s whole)) sound.current o current free

pub returns-clause-after : goal.returns-clause-after
returns-clause-after c = λ calc s o value whole sound free is. asked_last calc s o value whole (holds_fit s whole.links (thawed_forwarder s whole)) sound.current free is
