use Rattle.std.proofs.Common.{◌∙◌, ◌+◌, drop, refl, ap, subst, arith}
use Rattle.std.proofs.lemmas.Result.{err_from_is_err_and}
use Rattle.desk_terms.specs.Reading.{Calc}
use Rattle.session_model.specs.Course.{Meaning, round_of}
use Rattle.session_rounds.specs.Goes.{Stays}
use Rattle.desk_top.specs.Summary.{Tally}
use Rattle.desk_top.specs.Early.{outside}
use Rattle.desk_top.specs.Round.{IsCounted, StopsWithin}
use Rattle.std.specs.Prelude.{None}
use Rattle.desk_top.proofs.Summed.{summed_none, summed_next, summed_more, summed_halted, summed_tally, summed_count, summed_log}
use Rattle.desk_top.proofs.summing.tallied.Goals as goal

pub loop-command-init : goal.loop-command-init
loop-command-init g c =
    let m : Meaning g.row.P.Denot = record { calc = g.B.Bench.calc c.args.bench.now; at = g.P.Picker.at; after = g.P.Picker.after } in
    record {
      same = refl;
      summed = summed_none m c.args.session.now c.args.commands.now (g.B.Bench.count c.args.bench.now) (g.B.Bench.log c.args.bench.now) c.new-tally.result c.new-tally.ensures c.requires.running c.requires.sound;
      bound = omega (arith, ap (λ (t : Tally). t.bytes) c.new-tally.ensures);
    }

pub returns-in_err-count_round-clause-stops : goal.returns-in_err-count_round-clause-stops
returns-in_err-count_round-clause-stops g c =
    let m : Meaning g.row.P.Denot = record { calc = g.B.Bench.calc c.args.bench.now; at = g.P.Picker.at; after = g.P.Picker.after } in
    let next = summed_next m c.args.session.now c.args.commands.now (g.B.Bench.count c.args.bench.now) (g.B.Bench.log c.args.bench.now) c.loop-command.command-index c.command-item.result c.loop-command.session c.loop-command.tally (g.B.Bench.count c.loop-command.bench) (g.B.Bench.log c.loop-command.bench) c.loop-command-test.true c.command-item.is c.loop-command.invariant.summed in
    let stops = subst (λ (k : Calc). StopsWithin (round_of (record m { calc = k }) c.loop-command.session c.command-item.result).calls (outside None (g.B.Bench.count c.loop-command.bench) (g.B.Bench.log c.loop-command.bench)) (outside None (g.B.Bench.count c.count_round.new.bench) (g.B.Bench.log c.count_round.new.bench))) c.loop-command.invariant.same c.in_err-count_round.ensures.stops in
    let e = err_from_is_err_and c.from_residual.result c.from_residual.ensures.1 in
    rw e.1 (summed_halted m c.args.session.now c.args.commands.now (g.B.Bench.count c.args.bench.now) (g.B.Bench.log c.args.bench.now) c.command-item.result (drop (c.loop-command.command-index + 1) c.args.commands.now) c.loop-command.session c.loop-command.tally (g.B.Bench.count c.loop-command.bench) (g.B.Bench.log c.loop-command.bench) next (g.B.Bench.count c.count_round.new.bench) (g.B.Bench.log c.count_round.new.bench) stops)

pub loop-command-preserved : goal.loop-command-preserved
loop-command-preserved g c =
    let m : Meaning g.row.P.Denot = record { calc = g.B.Bench.calc c.args.bench.now; at = g.P.Picker.at; after = g.P.Picker.after } in
    let next = summed_next m c.args.session.now c.args.commands.now (g.B.Bench.count c.args.bench.now) (g.B.Bench.log c.args.bench.now) c.loop-command.command-index c.command-item.result c.loop-command.session c.loop-command.tally (g.B.Bench.count c.loop-command.bench) (g.B.Bench.log c.loop-command.bench) c.loop-command-test.true c.command-item.is c.loop-command.invariant.summed in
    let round = c.in_ok-count_round.ensures in
    let done = subst (λ (k : Calc). IsCounted (round_of (record m { calc = k }) c.loop-command.session c.command-item.result) c.count_round.new.session c.loop-command.tally c.count_round.new.tally (outside None (g.B.Bench.count c.loop-command.bench) (g.B.Bench.log c.loop-command.bench)) (outside None (g.B.Bench.count c.count_round.new.bench) (g.B.Bench.log c.count_round.new.bench))) c.loop-command.invariant.same round.done in
    let stays = subst (λ (k : Calc). Stays k c.loop-command.session.standing c.count_round.new.session.standing) c.loop-command.invariant.same round.stays in
    record {
      same = c.count_round.ensures.same ∙ c.loop-command.invariant.same;
      summed = summed_more m c.args.session.now c.args.commands.now (g.B.Bench.count c.args.bench.now) (g.B.Bench.log c.args.bench.now) c.command-item.result (drop (c.loop-command.command-index + 1) c.args.commands.now) c.loop-command.session c.loop-command.tally (g.B.Bench.count c.loop-command.bench) (g.B.Bench.log c.loop-command.bench) next (g.B.Bench.count c.count_round.new.bench) (g.B.Bench.log c.count_round.new.bench) c.count_round.new.session c.count_round.new.tally done stays round.running;
      bound = omega (arith, round.more, c.loop-command.invariant.bound);
    }

pub returns-clause-tally : goal.returns-clause-tally
returns-clause-tally g c =
    let m : Meaning g.row.P.Denot = record { calc = g.B.Bench.calc c.args.bench.now; at = g.P.Picker.at; after = g.P.Picker.after } in
    summed_tally m c.args.session.now c.args.commands.now (g.B.Bench.count c.args.bench.now) (g.B.Bench.log c.args.bench.now) c.loop-command.command-index c.loop-command.session c.loop-command.tally
    (g.B.Bench.count c.loop-command.bench) (g.B.Bench.log c.loop-command.bench) c.loop-command-test.false c.loop-command.invariant.summed

pub returns-clause-count : goal.returns-clause-count
returns-clause-count g c =
    let m : Meaning g.row.P.Denot = record { calc = g.B.Bench.calc c.args.bench.now; at = g.P.Picker.at; after = g.P.Picker.after } in
    summed_count m c.args.session.now c.args.commands.now (g.B.Bench.count c.args.bench.now) (g.B.Bench.log c.args.bench.now) c.loop-command.command-index c.loop-command.session c.loop-command.tally
    (g.B.Bench.count c.loop-command.bench) (g.B.Bench.log c.loop-command.bench) c.loop-command-test.false c.loop-command.invariant.summed

pub returns-clause-log : goal.returns-clause-log
returns-clause-log g c =
    let m : Meaning g.row.P.Denot = record { calc = g.B.Bench.calc c.args.bench.now; at = g.P.Picker.at; after = g.P.Picker.after } in
    summed_log m c.args.session.now c.args.commands.now (g.B.Bench.count c.args.bench.now) (g.B.Bench.log c.args.bench.now) c.loop-command.command-index c.loop-command.session c.loop-command.tally
    (g.B.Bench.count c.loop-command.bench) (g.B.Bench.log c.loop-command.bench) c.loop-command-test.false c.loop-command.invariant.summed
