use Rattle.std.proofs.Common.{◌≡◌, ◌++◌, ℕ, length, take, ◌∙◌, ap, arith}
use Rattle.session_rounds.specs.Goes.{Output}
use Rattle.tool_script.specs.Scenario.{first_of}
use Rattle.tool_script.specs.Basis.{basis_in}
use Rattle.tool_script.proofs.Courses.{course_begins}
use Rattle.scenario_grid.proofs.Scenarios.{halts_cut, extends_cut}
use Rattle.scenario_grid.proofs.scenario.one_scenario.Goals as goal

pub returns-in-Ok-clause-lines : goal.returns-in-Ok-clause-lines
returns-in-Ok-clause-lines g c =
    let out = rw (c.items.ensures, c.items-2.ensures) at c.in-Ok.ensures.out in
    ap (λ (o : Output). o.lines) out

pub returns-in-Ok-clause-count : goal.returns-in-Ok-clause-count
returns-in-Ok-clause-count g c =
    let out = rw (c.items.ensures, c.items-2.ensures) at c.in-Ok.ensures.out in
    ap (λ (o : Output). o.count) out

pub returns-in-Ok-clause-log : goal.returns-in-Ok-clause-log
returns-in-Ok-clause-log g c =
    let out = rw (c.items.ensures, c.items-2.ensures) at c.in-Ok.ensures.out in
    ap (λ (o : Output). o.log) out

pub returns-in-Err-clause-begins : goal.returns-in-Err-clause-begins
returns-in-Err-clause-begins g c =
    let halts = rw (c.items.ensures, c.items-2.ensures) at c.in-Err.ensures.halts in
    course_begins (g.B.Bench.calc c.args.bench.now) (c.args.moves.now ++ c.args.asks.now)
    (first_of (basis_in c.args.market.now c.args.names.now)) c.args.lines.now.items c.played.new.lines.items
    (g.B.Bench.count c.args.bench.now) (g.B.Bench.count c.played.new.bench) (g.B.Bench.log c.args.bench.now)
    (g.B.Bench.log c.played.new.bench) halts

pub returns-in-Err-clause-no_lines : goal.returns-in-Err-clause-no_lines
returns-in-Err-clause-no_lines g c =
    let halts = rw (c.items.ensures, c.items-2.ensures) at c.in-Err.ensures.halts in
    let long : c.len-lines_before.result ≡ length c.args.lines.now.items =
    omega (arith, c.len-lines_before.ensures, c.args.lines.now.ok.0) in
    c.truncate.ensures.items
    ∙ ap (λ (n : ℕ). take n c.played.new.lines.items) long
    ∙ halts_cut (g.B.Bench.calc c.args.bench.now) c.args.moves.now c.args.asks.now
    (first_of (basis_in c.args.market.now c.args.names.now)) c.args.lines.now.items c.played.new.lines.items
    (g.B.Bench.count c.args.bench.now) (g.B.Bench.count c.played.new.bench) (g.B.Bench.log c.args.bench.now)
    (g.B.Bench.log c.played.new.bench) halts

pub returns-in-Err-clause-no_values : goal.returns-in-Err-clause-no_values
returns-in-Err-clause-no_values g c =
    c.truncate-in-Err.ensures
    ∙ ap (λ (n : ℕ). take n c.played.new.values) c.len-values_before.ensures
    ∙ extends_cut c.args.values.now c.played.new.values c.played.ensures.kept
