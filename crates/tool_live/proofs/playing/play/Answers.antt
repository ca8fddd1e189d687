use Rattle.std.proofs.Common.{◌+◌, drop, length, refl, ◌∙◌, ap, sym, subst}
use Rattle.std.proofs.lemmas.Result.{err_from_is_err_and}
use Rattle.desk_terms.specs.Reading.{Calc}
use Rattle.desk_terms.specs.Bench.{counted, logged}
use Rattle.desk_edge.specs.Sink.{appended}
use Rattle.desk_model.specs.Sound.{IsSound}
use Rattle.session_model.specs.Course.{Meaning, round_of}
use Rattle.tool_live.specs.Answers.{PutsFront}
use Rattle.tool_live.specs.Ends.{outside}
use Rattle.tool_live.proofs.Played.{none_done, one_done, next_one, all_done, told_all, counted_all, logged_all, played_all, cut_in, known_on, known_next}
use Rattle.tool_live.proofs.playing.play.Goals as goal

pub loop-command-init : goal.loop-command-init
loop-command-init g c =
    let m : Meaning g.row.P.Denot = record { calc = g.B.Bench.calc c.args.bench.now; at = g.P.Picker.at; after = g.P.Picker.after } in
    let start = outside (g.K.Sink.bytes c.args.out.now) (g.K.Sink.sent c.args.out.now) (g.B.Bench.count c.args.bench.now) (g.B.Bench.log c.args.bench.now) in
    record {
      same = refl;
      progress = none_done m c.args.session.now c.args.commands.now start;
      names = refl;
      actions = refl;
      known = c.requires.known;
      sound = c.requires.sound;
      running = c.requires.running;
      faults = refl;
    }

pub play_round-requires-clause-running : goal.play_round-requires-clause-running
play_round-requires-clause-running g c = c.loop-command.invariant.running

pub play_round-requires-clause-known : goal.play_round-requires-clause-known
play_round-requires-clause-known g c =
    let i = c.loop-command in
    (known_next i.session.standing c.args.commands.now i.command-index c.command-item.result c.loop-command-test.true c.command-item.is i.invariant.known).0

pub play_round-requires-clause-sound : goal.play_round-requires-clause-sound
play_round-requires-clause-sound g c =
    let i = c.loop-command in
    subst (λ (k : Calc). IsSound k i.session.standing.state) (sym i.invariant.same) i.invariant.sound

pub returns-in_err-play_round-clause-front : goal.returns-in_err-play_round-clause-front
returns-in_err-play_round-clause-front g c =
    let m : Meaning g.row.P.Denot = record { calc = g.B.Bench.calc c.args.bench.now; at = g.P.Picker.at; after = g.P.Picker.after } in
    let i = c.loop-command in
    let from = c.from_residual in
    let p = err_from_is_err_and from.result from.ensures.1 in
    let start = outside (g.K.Sink.bytes c.args.out.now) (g.K.Sink.sent c.args.out.now) (g.B.Bench.count c.args.bench.now) (g.B.Bench.log c.args.bench.now) in
    let now = outside (g.K.Sink.bytes i.out) (g.K.Sink.sent i.out) (g.B.Bench.count i.bench) (g.B.Bench.log i.bench) in
    let new = outside (g.K.Sink.bytes c.play_round.new.out) (g.K.Sink.sent c.play_round.new.out) (g.B.Bench.count c.play_round.new.bench) (g.B.Bench.log c.play_round.new.bench) in
    let next = next_one m c.args.session.now c.args.commands.now start i.command-index c.command-item.result i.session now c.loop-command-test.true c.command-item.is i.invariant.progress in
    rw p.1 (cut_in m c.args.session.now c.args.commands.now start c.command-item.result (drop (i.command-index + 1) c.args.commands.now) i.session now new next
    (subst (λ (k : Calc). PutsFront (round_of (record m { calc = k }) i.session c.command-item.result).lines now.bytes new.bytes) i.invariant.same
    c.in_err-play_round.ensures.front))

pub loop-command-preserved : goal.loop-command-preserved
loop-command-preserved g c =
    let m : Meaning g.row.P.Denot = record { calc = g.B.Bench.calc c.args.bench.now; at = g.P.Picker.at; after = g.P.Picker.after } in
    let i = c.loop-command in
    let start = outside (g.K.Sink.bytes c.args.out.now) (g.K.Sink.sent c.args.out.now) (g.B.Bench.count c.args.bench.now) (g.B.Bench.log c.args.bench.now) in
    let now = outside (g.K.Sink.bytes i.out) (g.K.Sink.sent i.out) (g.B.Bench.count i.bench) (g.B.Bench.log i.bench) in
    let new = outside (g.K.Sink.bytes c.play_round.new.out) (g.K.Sink.sent c.play_round.new.out) (g.B.Bench.count c.play_round.new.bench) (g.B.Bench.log c.play_round.new.bench) in
    let same = i.invariant.same in
    let round = c.in_ok-play_round.ensures in
    let item = c.command-item.result in
    let known = known_next i.session.standing c.args.commands.now i.command-index item c.loop-command-test.true c.command-item.is i.invariant.known in
    let next = next_one m c.args.session.now c.args.commands.now start i.command-index item i.session now c.loop-command-test.true c.command-item.is i.invariant.progress in
    record {
      same = c.play_round.ensures.same ∙ same;
      progress = one_done m c.args.session.now c.args.commands.now start item (drop (i.command-index + 1) c.args.commands.now) i.session c.play_round.new.session now new next
          (round.next ∙ ap (λ (k : Calc). (round_of (record m { calc = k }) i.session item).next) same)
          (round.written ∙ ap (λ (k : Calc). appended (round_of (record m { calc = k }) i.session item).lines now.bytes) same)
          (round.count ∙ ap (λ (k : Calc). counted now.count (length (round_of (record m { calc = k }) i.session item).calls)) same)
          (round.log ∙ ap (λ (k : Calc). logged now.log (round_of (record m { calc = k }) i.session item).calls) same);
      names = c.play_round.ensures.names ∙ i.invariant.names;
      actions = c.play_round.ensures.actions ∙ i.invariant.actions;
      known = known_on i.session.standing c.play_round.new.session.standing (drop (i.command-index + 1) c.args.commands.now)
          c.play_round.ensures.names c.play_round.ensures.actions known.1;
      sound = subst (λ (k : Calc). IsSound k c.play_round.new.session.standing.state) same c.play_round.ensures.sound;
      running = round.running;
      faults = round.clean ∙ i.invariant.faults;
    }

pub returns-clause-written : goal.returns-clause-written
returns-clause-written g c =
    let m : Meaning g.row.P.Denot = record { calc = g.B.Bench.calc c.args.bench.now; at = g.P.Picker.at; after = g.P.Picker.after } in
    let i = c.loop-command in
    let start = outside (g.K.Sink.bytes c.args.out.now) (g.K.Sink.sent c.args.out.now) (g.B.Bench.count c.args.bench.now) (g.B.Bench.log c.args.bench.now) in
    let now = outside (g.K.Sink.bytes i.out) (g.K.Sink.sent i.out) (g.B.Bench.count i.bench) (g.B.Bench.log i.bench) in
    told_all m c.args.session.now c.args.commands.now start i.session now
    (all_done m c.args.session.now c.args.commands.now start i.command-index i.session now c.loop-command-test.false i.invariant.progress)

pub returns-clause-count : goal.returns-clause-count
returns-clause-count g c =
    let m : Meaning g.row.P.Denot = record { calc = g.B.Bench.calc c.args.bench.now; at = g.P.Picker.at; after = g.P.Picker.after } in
    let i = c.loop-command in
    let start = outside (g.K.Sink.bytes c.args.out.now) (g.K.Sink.sent c.args.out.now) (g.B.Bench.count c.args.bench.now) (g.B.Bench.log c.args.bench.now) in
    let now = outside (g.K.Sink.bytes i.out) (g.K.Sink.sent i.out) (g.B.Bench.count i.bench) (g.B.Bench.log i.bench) in
    counted_all m c.args.session.now c.args.commands.now start i.session now
    (all_done m c.args.session.now c.args.commands.now start i.command-index i.session now c.loop-command-test.false i.invariant.progress)

pub returns-clause-log : goal.returns-clause-log
returns-clause-log g c =
    let m : Meaning g.row.P.Denot = record { calc = g.B.Bench.calc c.args.bench.now; at = g.P.Picker.at; after = g.P.Picker.after } in
    let i = c.loop-command in
    let start = outside (g.K.Sink.bytes c.args.out.now) (g.K.Sink.sent c.args.out.now) (g.B.Bench.count c.args.bench.now) (g.B.Bench.log c.args.bench.now) in
    let now = outside (g.K.Sink.bytes i.out) (g.K.Sink.sent i.out) (g.B.Bench.count i.bench) (g.B.Bench.log i.bench) in
    logged_all m c.args.session.now c.args.commands.now start i.session now
    (all_done m c.args.session.now c.args.commands.now start i.command-index i.session now c.loop-command-test.false i.invariant.progress)

pub returns-clause-next : goal.returns-clause-next
returns-clause-next g c =
    let m : Meaning g.row.P.Denot = record { calc = g.B.Bench.calc c.args.bench.now; at = g.P.Picker.at; after = g.P.Picker.after } in
    let i = c.loop-command in
    let start = outside (g.K.Sink.bytes c.args.out.now) (g.K.Sink.sent c.args.out.now) (g.B.Bench.count c.args.bench.now) (g.B.Bench.log c.args.bench.now) in
    let now = outside (g.K.Sink.bytes i.out) (g.K.Sink.sent i.out) (g.B.Bench.count i.bench) (g.B.Bench.log i.bench) in
    played_all m c.args.session.now c.args.commands.now start i.session now
    (all_done m c.args.session.now c.args.commands.now start i.command-index i.session now c.loop-command-test.false i.invariant.progress)
