use Rattle.std.proofs.Common.{◌∙◌, ℕ, List, ap, subst, arith}
use Rattle.std.proofs.lemmas.Result.{err_from_is_err_and}
use Rattle.session_model.specs.Course.{Meaning, round_of}
use Rattle.session_rounds.specs.Goes.{Output, Does, Halts}
use Rattle.desk_top.specs.Summary.{Tally}
use Rattle.desk_top.proofs.Tallies.{bytes_long}
use Rattle.desk_top.proofs.Summed.{counted_done, counted_halts, counted_all}
use Rattle.desk_top.proofs.summing.count_round.Goals as goal

pub returns-in_err-step-clause-stops : goal.returns-in_err-step-clause-stops
returns-in_err-step-clause-stops g c =
    let m : Meaning g.row.P.Denot = record { calc = g.B.Bench.calc c.args.bench.now; at = g.P.Picker.at; after = g.P.Picker.after } in
    let t = round_of m c.args.session.now c.args.command.now in
    let out : Output = record { lines = c.step.new.lines.items; count = g.B.Bench.count c.step.new.bench; log = g.B.Bench.log c.step.new.bench } in
    let halts = subst (λ (l : List ℕ). Halts g.row.P.Denot t (record { lines = l; count = g.B.Bench.count c.args.bench.now; log = g.B.Bench.log c.args.bench.now }) out) c.clear.ensures.items c.in_err-step.ensures.halts in
    let e = err_from_is_err_and c.from_residual.result c.from_residual.ensures.1 in
    rw e.1 (counted_halts t (g.B.Bench.count c.args.bench.now) (g.B.Bench.log c.args.bench.now) out halts)

pub returns-in_err-add-clause-stops : goal.returns-in_err-add-clause-stops
returns-in_err-add-clause-stops g c =
    let m : Meaning g.row.P.Denot = record { calc = g.B.Bench.calc c.args.bench.now; at = g.P.Picker.at; after = g.P.Picker.after } in
    let t = round_of m c.args.session.now c.args.command.now in
    let out : Output = record { lines = c.step.new.lines.items; count = g.B.Bench.count c.step.new.bench; log = g.B.Bench.log c.step.new.bench } in
    let does = subst (λ (l : List ℕ). Does g.row.P.Denot t c.step.new.self (record { lines = l; count = g.B.Bench.count c.args.bench.now; log = g.B.Bench.log c.args.bench.now }) out) c.clear.ensures.items c.in_ok-step.ensures.plays in
    let e = err_from_is_err_and c.from_residual-in_err-add.result c.from_residual-in_err-add.ensures.1 in
    rw e.1 (counted_all t (g.B.Bench.count c.args.bench.now) (g.B.Bench.log c.args.bench.now) out c.step.new.self does)

pub returns-clause-done : goal.returns-clause-done
returns-clause-done g c =
    let m : Meaning g.row.P.Denot = record { calc = g.B.Bench.calc c.args.bench.now; at = g.P.Picker.at; after = g.P.Picker.after } in
    let t = round_of m c.args.session.now c.args.command.now in
    let out : Output = record { lines = c.step.new.lines.items; count = g.B.Bench.count c.step.new.bench; log = g.B.Bench.log c.step.new.bench } in
    let does = subst (λ (l : List ℕ). Does g.row.P.Denot t c.step.new.self (record { lines = l; count = g.B.Bench.count c.args.bench.now; log = g.B.Bench.log c.args.bench.now }) out) c.clear.ensures.items c.in_ok-step.ensures.plays in
    let adds = rw c.deref.ensures.value at c.in_ok-add.ensures in
    counted_done t (g.B.Bench.count c.args.bench.now) (g.B.Bench.log c.args.bench.now) out c.step.new.self c.args.tally.now c.add.new.self does adds

pub returns-clause-more : goal.returns-clause-more
returns-clause-more g c =
    let adds = rw c.deref.ensures.value at c.in_ok-add.ensures in
    let long = ap (λ (t : Tally). t.bytes) adds ∙ bytes_long c.args.tally.now c.step.new.lines.items in
    omega (arith, long, c.deref.ensures.value)
