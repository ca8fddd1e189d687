use Rattle.std.proofs.Common.{[], ◌∙◌, refl, ap}
use Rattle.desk_model.specs.State.{State}
use Rattle.session_rounds.proofs.session.drain.Goals as goal

pub loop-watcher-init : goal.loop-watcher-init
loop-watcher-init c = record { same = refl; sound = λ calc is. is }

pub loop-watcher-preserved : goal.loop-watcher-preserved
loop-watcher-preserved c = record {
  same = ap (λ (s : State). let z : State = record s { noticed = [] } in z) c.in-Some.ensures.some.1 ∙ c.loop-watcher.invariant.same;
  sound = λ calc is. c.next_told.ensures.sound calc (c.loop-watcher.invariant.sound calc is);
}

pub returns-clause-sound : goal.returns-clause-sound
returns-clause-sound c = λ calc is. c.next_told.ensures.sound calc (c.loop-watcher.invariant.sound calc is)
