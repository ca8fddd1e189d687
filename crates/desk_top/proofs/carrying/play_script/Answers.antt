use Rattle.std.proofs.Common.{inl, refl}
use Rattle.desk_top.proofs.Progress.{halted_before}
use Rattle.desk_top.proofs.carrying.play_script.Goals as goal

pub returns-in_err-session-clause-halted : goal.returns-in_err-session-clause-halted
returns-in_err-session-clause-halted g c = λ _. halted_before _ _

pub play-played-requires-clause-sound : goal.play-played-requires-clause-sound
play-played-requires-clause-sound g c = c.in_ok-session.ensures.sound (g.B.Bench.calc c.args.bench.now)

pub returns-in_err-session-clause-told : goal.returns-in_err-session-clause-told
returns-in_err-session-clause-told g c = λ _. inl (inl refl)
