use Rattle.std.proofs.Common.{inl, refl, []}
use Rattle.desk_top.specs.Report.{check_line}
use Rattle.desk_top.specs.Output.{as_round}
use Rattle.session_rounds.proofs.Going.{logged_none}
use Rattle.desk_top.proofs.Reported.{report_writes, report_cut, report_halted}
use Rattle.desk_top.proofs.carrying.carry_out.Goals as goal

pub returns-in-Run-clause-written : goal.returns-in-Run-clause-written
returns-in-Run-clause-written g c = rw c.in-Run.is c.play_script.ensures.written

pub returns-in-Load-clause-written : goal.returns-in-Load-clause-written
returns-in-Load-clause-written g c = rw c.in-Load.is c.sum_up.ensures.written

pub returns-in-Check-clause-written : goal.returns-in-Check-clause-written
returns-in-Check-clause-written g c =
    let wrote = c.report.ensures in
    rw c.in-Check.is (report_writes (g.K.Sink.bytes c.args.out.now) (g.K.Sink.bytes c.report.new.out)
    (check_line c.in-Check.objects c.in-Check.fixings) c.report.result wrote.written wrote.front wrote.nothing wrote.late)

pub returns-in-Check-clause-cut : goal.returns-in-Check-clause-cut
returns-in-Check-clause-cut g c =
    rw c.in-Check.is (λ e. let front = c.report.ensures.front e in
    report_cut (as_round (check_line c.in-Check.objects c.in-Check.fixings) []) (g.K.Sink.bytes c.args.out.now)
    (g.K.Sink.bytes c.report.new.out) (g.B.Bench.count c.args.bench.now) (g.B.Bench.count c.args.bench.now)
    (g.B.Bench.log c.args.bench.now) (g.B.Bench.log c.args.bench.now) front.0 refl (logged_none _) front.1 front.2)

pub returns-in-Check-clause-halted : goal.returns-in-Check-clause-halted
returns-in-Check-clause-halted g c =
    λ e. report_halted _ (g.K.Sink.bytes c.args.out.now) (g.K.Sink.bytes c.report.new.out)
    (g.B.Bench.count c.args.bench.now) (g.B.Bench.log c.args.bench.now) (c.report.ensures.nothing e)

pub returns-in-Run-clause-told : goal.returns-in-Run-clause-told
returns-in-Run-clause-told g c = rw c.in-Run.is c.play_script.ensures.told

pub returns-in-Load-clause-told : goal.returns-in-Load-clause-told
returns-in-Load-clause-told g c = rw c.in-Load.is (λ _. inl tt)

pub returns-in-Check-clause-told : goal.returns-in-Check-clause-told
returns-in-Check-clause-told g c = rw c.in-Check.is (λ _. inl tt)
