use Rattle.std.proofs.Common.{◌≡◌, ◌-◌, length, drop}
use Rattle.script_words.specs.Given.{Grows}
use Rattle.live_model.specs.Live.{learnt}
use Rattle.live_session.specs.Saying.{HasLearnt}
use Rattle.live_session.proofs.learning.learn.Given as goal

abbrev pub invariant-loop-session : goal.invariant-loop-session
invariant-loop-session g l = record {
  grows : Grows l.session.standing.names l.names;
  left : learnt (drop (length l.session.standing.names) l.names) l.session
      ≡ learnt (drop (length l.initial.session.standing.names) l.names) l.initial.session;
  some : HasLearnt g.row.P.Denot (drop (length l.initial.session.standing.names) l.names) l.initial.session l.session;
}

abbrev pub decreases-loop-session : goal.decreases-loop-session
decreases-loop-session g l = length l.names - length l.session.standing.names
