use Rattle.std.proofs.Common.{◌≡◌, ◌⊎◌, ℕ, ◌+◌, drop, Err, refl, ◌∙◌, ap, subst, arith}
use Rattle.std.proofs.lemmas.Result.{err_from_is_err_and}
use Rattle.desk_edge.specs.Count.{raised}
use Rattle.desk_terms.specs.Reading.{Calc}
use Rattle.desk_model.specs.Sound.{IsSound}
use Rattle.session_model.specs.Course.{Meaning, round_of}
use Rattle.session_model.specs.Moments.{moments, moments_of_round}
use Rattle.desk_top.specs.Early.{outside, IsToldSoFar}
use Rattle.desk_top.specs.Round.{IsPlayed, RoundEnds}
use Rattle.desk_top.proofs.Progress.{progress_none, progress_more, progress_next, progress_last, progress_bytes, progress_count, progress_log, progress_sounds, ends_written, ends_cut, ends_halted, same_status}
use Rattle.desk_top.proofs.Ahead.{ahead_none, ahead_more, ahead_ends, ahead_next}
use Rattle.desk_top.proofs.play.play.Goals as goal

pub loop-command-init : goal.loop-command-init
loop-command-init g c =
    let m : Meaning g.row.P.Denot = record { calc = g.B.Bench.calc c.args.bench.now; at = g.P.Picker.at; after = g.P.Picker.after } in
    let start = (outside (g.K.Sink.bytes c.args.out.now) (g.B.Bench.count c.args.bench.now) (g.B.Bench.log c.args.bench.now)) in
    record {
      same = refl;
      progress = progress_none m c.args.session.now c.args.commands.now start c.requires.running
          c.requires.sound;
      ahead = ahead_none m.calc (moments m c.args.session.now c.args.commands.now) start;
      faults = refl;
    }

pub returns-in_err-play_round-clause-written : goal.returns-in_err-play_round-clause-written
returns-in_err-play_round-clause-written g c =
    let m : Meaning g.row.P.Denot = record { calc = g.B.Bench.calc c.args.bench.now; at = g.P.Picker.at; after = g.P.Picker.after } in
    let from = c.from_residual in
    let p = err_from_is_err_and from.result from.ensures.1 in
    let start = (outside (g.K.Sink.bytes c.args.out.now) (g.B.Bench.count c.args.bench.now) (g.B.Bench.log c.args.bench.now)) in
    let now = (outside (g.K.Sink.bytes c.loop-command.out) (g.B.Bench.count c.loop-command.bench) (g.B.Bench.log c.loop-command.bench)) in
    let new = (outside (g.K.Sink.bytes c.play_round.new.out) (g.B.Bench.count c.play_round.new.bench) (g.B.Bench.log c.play_round.new.bench)) in
    let next = progress_next m c.args.session.now c.args.commands.now start c.loop-command.command-index c.command-item.result c.loop-command.session now c.loop-command-test.true c.command-item.is c.loop-command.invariant.progress in
    let ends = subst (λ (k : Calc). RoundEnds {A = Unit {0}} (round_of (record m { calc = k }) c.loop-command.session c.command-item.result) (Err c.in_err-play_round.field-0.0) now new) c.loop-command.invariant.same c.in_err-play_round.ensures.ends in
    rw (p.1, p.2) (ends_written m c.args.session.now c.args.commands.now start c.command-item.result (drop (c.loop-command.command-index + 1) c.args.commands.now) c.loop-command.session now new next c.in_err-play_round.field-0.0 ends)

pub returns-in_err-play_round-clause-cut : goal.returns-in_err-play_round-clause-cut
returns-in_err-play_round-clause-cut g c =
    let m : Meaning g.row.P.Denot = record { calc = g.B.Bench.calc c.args.bench.now; at = g.P.Picker.at; after = g.P.Picker.after } in
    let from = c.from_residual in
    let p = err_from_is_err_and from.result from.ensures.1 in
    let start = (outside (g.K.Sink.bytes c.args.out.now) (g.B.Bench.count c.args.bench.now) (g.B.Bench.log c.args.bench.now)) in
    let now = (outside (g.K.Sink.bytes c.loop-command.out) (g.B.Bench.count c.loop-command.bench) (g.B.Bench.log c.loop-command.bench)) in
    let new = (outside (g.K.Sink.bytes c.play_round.new.out) (g.B.Bench.count c.play_round.new.bench) (g.B.Bench.log c.play_round.new.bench)) in
    let next = progress_next m c.args.session.now c.args.commands.now start c.loop-command.command-index c.command-item.result c.loop-command.session now c.loop-command-test.true c.command-item.is c.loop-command.invariant.progress in
    let ends = subst (λ (k : Calc). RoundEnds {A = Unit {0}} (round_of (record m { calc = k }) c.loop-command.session c.command-item.result) (Err c.in_err-play_round.field-0.0) now new) c.loop-command.invariant.same c.in_err-play_round.ensures.ends in
    rw (p.1, p.2) (λ is. ends_cut m c.args.session.now c.args.commands.now start c.command-item.result (drop (c.loop-command.command-index + 1) c.args.commands.now) c.loop-command.session now new next c.in_err-play_round.field-0.0 ends (same_status _ _ _ refl is))

pub returns-in_err-play_round-clause-halted : goal.returns-in_err-play_round-clause-halted
returns-in_err-play_round-clause-halted g c =
    let m : Meaning g.row.P.Denot = record { calc = g.B.Bench.calc c.args.bench.now; at = g.P.Picker.at; after = g.P.Picker.after } in
    let from = c.from_residual in
    let p = err_from_is_err_and from.result from.ensures.1 in
    let start = (outside (g.K.Sink.bytes c.args.out.now) (g.B.Bench.count c.args.bench.now) (g.B.Bench.log c.args.bench.now)) in
    let now = (outside (g.K.Sink.bytes c.loop-command.out) (g.B.Bench.count c.loop-command.bench) (g.B.Bench.log c.loop-command.bench)) in
    let new = (outside (g.K.Sink.bytes c.play_round.new.out) (g.B.Bench.count c.play_round.new.bench) (g.B.Bench.log c.play_round.new.bench)) in
    let next = progress_next m c.args.session.now c.args.commands.now start c.loop-command.command-index c.command-item.result c.loop-command.session now c.loop-command-test.true c.command-item.is c.loop-command.invariant.progress in
    let ends = subst (λ (k : Calc). RoundEnds {A = Unit {0}} (round_of (record m { calc = k }) c.loop-command.session c.command-item.result) (Err c.in_err-play_round.field-0.0) now new) c.loop-command.invariant.same c.in_err-play_round.ensures.ends in
    rw (p.1, p.2) (λ is. ends_halted m c.args.session.now c.args.commands.now start c.command-item.result (drop (c.loop-command.command-index + 1) c.args.commands.now) c.loop-command.session now new next c.in_err-play_round.field-0.0 ends (same_status _ _ _ refl is))

pub loop-command-preserved : goal.loop-command-preserved
loop-command-preserved g c =
    let m : Meaning g.row.P.Denot = record { calc = g.B.Bench.calc c.args.bench.now; at = g.P.Picker.at; after = g.P.Picker.after } in
    let start = (outside (g.K.Sink.bytes c.args.out.now) (g.B.Bench.count c.args.bench.now) (g.B.Bench.log c.args.bench.now)) in
    let now = (outside (g.K.Sink.bytes c.loop-command.out) (g.B.Bench.count c.loop-command.bench) (g.B.Bench.log c.loop-command.bench)) in
    let new = (outside (g.K.Sink.bytes c.play_round.new.out) (g.B.Bench.count c.play_round.new.bench) (g.B.Bench.log c.play_round.new.bench)) in
    let same = c.loop-command.invariant.same in
    let round = c.in_ok-play_round.ensures in
    record {
      same = c.play_round.ensures.same ∙ same;
      progress = progress_more m c.args.session.now c.args.commands.now start c.command-item.result (drop (c.loop-command.command-index + 1) c.args.commands.now) c.loop-command.session c.play_round.new.session now new
          (progress_next m c.args.session.now c.args.commands.now start c.loop-command.command-index c.command-item.result c.loop-command.session now c.loop-command-test.true c.command-item.is c.loop-command.invariant.progress)
          (subst (λ (k : Calc). IsPlayed (round_of (record m { calc = k }) c.loop-command.session c.command-item.result) now new) same round.ends)
          (round.next ∙ ap (λ (k : Calc). (round_of (record m { calc = k }) c.loop-command.session c.command-item.result).next) same)
          round.names round.actions round.running (subst (λ (k : Calc). IsSound k c.play_round.new.session.standing.state) same c.play_round.ensures.sound);
      ahead = ahead_more m (moments m c.args.session.now c.args.commands.now) start now new c.loop-command.session c.command-item.result
          (drop (c.loop-command.command-index + 1) c.args.commands.now) c.play_round.new.session
          (ahead_next m c.args.commands.now (moments m c.args.session.now c.args.commands.now) start now c.loop-command.command-index
          c.command-item.result c.loop-command.session c.loop-command-test.true c.command-item.is c.loop-command.invariant.ahead)
          (subst (λ (k : Calc). IsPlayed (round_of (record m { calc = k }) c.loop-command.session c.command-item.result) now new) same round.ends)
          (round.next ∙ ap (λ (k : Calc). (round_of (record m { calc = k }) c.loop-command.session c.command-item.result).next) same);
      faults = round.clean ∙ c.loop-command.invariant.faults;
    }

pub returns-clause-written : goal.returns-clause-written
returns-clause-written g c =
    let m : Meaning g.row.P.Denot = record { calc = g.B.Bench.calc c.args.bench.now; at = g.P.Picker.at; after = g.P.Picker.after } in
    let start = (outside (g.K.Sink.bytes c.args.out.now) (g.B.Bench.count c.args.bench.now) (g.B.Bench.log c.args.bench.now)) in
    let now = (outside (g.K.Sink.bytes c.loop-command.out) (g.B.Bench.count c.loop-command.bench) (g.B.Bench.log c.loop-command.bench)) in
    progress_bytes m c.args.session.now c.args.commands.now start c.loop-command.session now
    (progress_last m c.args.session.now c.args.commands.now start c.loop-command.command-index c.loop-command.session now c.loop-command-test.false c.loop-command.invariant.progress)

pub returns-clause-count : goal.returns-clause-count
returns-clause-count g c =
    let m : Meaning g.row.P.Denot = record { calc = g.B.Bench.calc c.args.bench.now; at = g.P.Picker.at; after = g.P.Picker.after } in
    let start = (outside (g.K.Sink.bytes c.args.out.now) (g.B.Bench.count c.args.bench.now) (g.B.Bench.log c.args.bench.now)) in
    let now = (outside (g.K.Sink.bytes c.loop-command.out) (g.B.Bench.count c.loop-command.bench) (g.B.Bench.log c.loop-command.bench)) in
    progress_count m c.args.session.now c.args.commands.now start c.loop-command.session now
    (progress_last m c.args.session.now c.args.commands.now start c.loop-command.command-index c.loop-command.session now c.loop-command-test.false c.loop-command.invariant.progress)

pub returns-clause-log : goal.returns-clause-log
returns-clause-log g c =
    let m : Meaning g.row.P.Denot = record { calc = g.B.Bench.calc c.args.bench.now; at = g.P.Picker.at; after = g.P.Picker.after } in
    let start = (outside (g.K.Sink.bytes c.args.out.now) (g.B.Bench.count c.args.bench.now) (g.B.Bench.log c.args.bench.now)) in
    let now = (outside (g.K.Sink.bytes c.loop-command.out) (g.B.Bench.count c.loop-command.bench) (g.B.Bench.log c.loop-command.bench)) in
    progress_log m c.args.session.now c.args.commands.now start c.loop-command.session now
    (progress_last m c.args.session.now c.args.commands.now start c.loop-command.command-index c.loop-command.session now c.loop-command-test.false c.loop-command.invariant.progress)

pub returns-clause-sound : goal.returns-clause-sound
returns-clause-sound g c =
    let m : Meaning g.row.P.Denot = record { calc = g.B.Bench.calc c.args.bench.now; at = g.P.Picker.at; after = g.P.Picker.after } in
    let start = (outside (g.K.Sink.bytes c.args.out.now) (g.B.Bench.count c.args.bench.now) (g.B.Bench.log c.args.bench.now)) in
    let now = (outside (g.K.Sink.bytes c.loop-command.out) (g.B.Bench.count c.loop-command.bench) (g.B.Bench.log c.loop-command.bench)) in
    progress_sounds m c.args.session.now c.args.commands.now start c.loop-command.session now
    (progress_last m c.args.session.now c.args.commands.now start c.loop-command.command-index c.loop-command.session now c.loop-command-test.false c.loop-command.invariant.progress)

pub returns-in_err-play_round-clause-late : goal.returns-in_err-play_round-clause-late
returns-in_err-play_round-clause-late g c =
    let m : Meaning g.row.P.Denot = record { calc = g.B.Bench.calc c.args.bench.now; at = g.P.Picker.at; after = g.P.Picker.after } in
    let from = c.from_residual in
    let p = err_from_is_err_and from.result from.ensures.1 in
    rw (p.1, p.2) c.in_err-play_round.ensures.late

pub returns-in_err-play_round-clause-told : goal.returns-in_err-play_round-clause-told
returns-in_err-play_round-clause-told g c =
    let m : Meaning g.row.P.Denot = record { calc = g.B.Bench.calc c.args.bench.now; at = g.P.Picker.at; after = g.P.Picker.after } in
    let from = c.from_residual in
    let p = err_from_is_err_and from.result from.ensures.1 in
    let start = (outside (g.K.Sink.bytes c.args.out.now) (g.B.Bench.count c.args.bench.now) (g.B.Bench.log c.args.bench.now)) in
    let now = (outside (g.K.Sink.bytes c.loop-command.out) (g.B.Bench.count c.loop-command.bench) (g.B.Bench.log c.loop-command.bench)) in
    let new = (outside (g.K.Sink.bytes c.play_round.new.out) (g.B.Bench.count c.play_round.new.bench) (g.B.Bench.log c.play_round.new.bench)) in
    let ahead = ahead_next m c.args.commands.now (moments m c.args.session.now c.args.commands.now) start now c.loop-command.command-index
    c.command-item.result c.loop-command.session c.loop-command-test.true c.command-item.is c.loop-command.invariant.ahead in
    rw (p.1, p.2) (λ is. ahead_ends m (moments m c.args.session.now c.args.commands.now) start now new c.loop-command.session
    c.command-item.result (drop (c.loop-command.command-index + 1) c.args.commands.now) (g.K.Sink.faults c.play_round.new.out)
    (raised (g.K.Sink.faults c.args.out.now)) ahead
    (subst (λ (f : ℕ). IsToldSoFar m.calc (moments_of_round m c.loop-command.session c.command-item.result) now new
    ⊎ (g.K.Sink.faults c.play_round.new.out ≡ raised f)) c.loop-command.invariant.faults
    (subst (λ (k : Calc). IsToldSoFar k (moments_of_round (record m { calc = k }) c.loop-command.session c.command-item.result) now new
    ⊎ (g.K.Sink.faults c.play_round.new.out ≡ raised (g.K.Sink.faults c.loop-command.out))) c.loop-command.invariant.same
    (c.in_err-play_round.ensures.told is))))
