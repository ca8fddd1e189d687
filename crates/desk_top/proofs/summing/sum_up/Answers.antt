use Rattle.std.proofs.Common.{ap, sym, ◌∙◌, List, ℕ}
use Rattle.std.proofs.lemmas.Result.{err_from_is_err_and}
use Rattle.desk_edge.specs.Sink.{appended}
use Rattle.desk_edge.proofs.SinkLemmas.{appended-nil}
use Rattle.tool_script.specs.Found.{run_in}
use Rattle.desk_top.proofs.Loaded.{load_text, load_stopped, load_ran, load_cut}
use Rattle.desk_top.proofs.Progress.{halted_before}
use Rattle.desk_top.proofs.summing.sum_up.Goals as goal

pub returns-in_err-session-clause-halted : goal.returns-in_err-session-clause-halted
returns-in_err-session-clause-halted g c = λ _. halted_before _ _

pub tallied-counted-requires-clause-sound : goal.tallied-counted-requires-clause-sound
tallied-counted-requires-clause-sound g c = c.in_ok-session.ensures.sound (g.B.Bench.calc c.args.bench.now)

pub returns-in_err-tally-clause-written : goal.returns-in_err-tally-clause-written
returns-in_err-tally-clause-written g c =
    let p = err_from_is_err_and c.from_residual-in_err-tally.result c.from_residual-in_err-tally.ensures.1 in
    rw (p.1, p.2) (0, sym (appended-nil (g.K.Sink.bytes c.args.out.now)))

pub returns-in_err-tally-clause-halted : goal.returns-in_err-tally-clause-halted
returns-in_err-tally-clause-halted g c =
    let is = c.in_ok-session.ensures.session in
    let are = c.items.ensures ∙ c.in_ok-session.ensures.commands in
    λ _. load_stopped (g.B.Bench.calc c.args.bench.now) c.args.size (run_in c.args.run) c.in_ok-session.session c.items.result.now is are (g.K.Sink.bytes c.args.out.now) (g.K.Sink.bytes c.args.out.now) (g.B.Bench.count c.args.bench.now) (g.B.Bench.count c.tallied-counted.new.bench) (g.B.Bench.log c.args.bench.now) (g.B.Bench.log c.tallied-counted.new.bench) c.in_err-tally.ensures.stops

pub returns-in_err-summary-clause-written : goal.returns-in_err-summary-clause-written
returns-in_err-summary-clause-written g c =
    let p = err_from_is_err_and c.from_residual-in_err-summary.result c.from_residual-in_err-summary.ensures.1 in
    rw (p.1, p.2) (0, sym (appended-nil (g.K.Sink.bytes c.args.out.now)))

pub returns-in_err-summary-clause-halted : goal.returns-in_err-summary-clause-halted
returns-in_err-summary-clause-halted g c =
    let is = c.in_ok-session.ensures.session in
    let are = c.items.ensures ∙ c.in_ok-session.ensures.commands in
    λ _. load_ran (g.B.Bench.calc c.args.bench.now) c.args.size (run_in c.args.run) c.in_ok-session.session c.items.result.now is are (g.K.Sink.bytes c.args.out.now) (g.K.Sink.bytes c.args.out.now) (g.B.Bench.count c.args.bench.now) (g.B.Bench.count c.tallied-counted.new.bench) (g.B.Bench.log c.args.bench.now) (g.B.Bench.log c.tallied-counted.new.bench) c.in_ok-tally.ensures.count c.in_ok-tally.ensures.log

pub returns-in-Ok-clause-written : goal.returns-in-Ok-clause-written
returns-in-Ok-clause-written g c =
    let is = c.in_ok-session.ensures.session in
    let are = c.items.ensures ∙ c.in_ok-session.ensures.commands in
    let says = load_text (g.B.Bench.calc c.args.bench.now) c.args.size (run_in c.args.run) c.in_ok-session.session c.items.result.now is are c.in_ok-summary.summary.items c.in_ok-tally.tally c.in_ok-summary.ensures c.in_ok-tally.ensures.tally in
    c.in-Ok.ensures.written ∙ ap (λ (l : List ℕ). appended l (g.K.Sink.bytes c.args.out.now)) (c.deref.ensures.value ∙ says)

pub returns-clause-cut : goal.returns-clause-cut
returns-clause-cut g c =
    let is = c.in_ok-session.ensures.session in
    let are = c.items.ensures ∙ c.in_ok-session.ensures.commands in
    let says = load_text (g.B.Bench.calc c.args.bench.now) c.args.size (run_in c.args.run) c.in_ok-session.session c.items.result.now is are c.in_ok-summary.summary.items c.in_ok-tally.tally c.in_ok-summary.ensures c.in_ok-tally.ensures.tally in
    let front = rw c.deref.ensures.value at c.in-Err.ensures.front in
    λ _. load_cut (g.B.Bench.calc c.args.bench.now) c.args.size (run_in c.args.run) c.in_ok-session.session c.items.result.now is are (g.K.Sink.bytes c.args.out.now) (g.K.Sink.bytes c.write_whole.new.sink) (g.B.Bench.count c.args.bench.now)
    (g.B.Bench.count c.tallied-counted.new.bench) (g.B.Bench.log c.args.bench.now) (g.B.Bench.log c.tallied-counted.new.bench)
    c.in_ok-tally.ensures.count c.in_ok-tally.ensures.log c.in_ok-summary.summary.items says front
