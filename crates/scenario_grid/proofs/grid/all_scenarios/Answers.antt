use Rattle.std.proofs.Common.{◌≡◌, ◌<◌, ◌≤◌, true, length, List, sym, ◌∙◌, subst, arith, All}
use Rattle.std.proofs.lemmas.Result.{err_from_is_err_and}
use Rattle.std.proofs.lemmas.List.Elements.{All-nil}
use Rattle.session_commands.specs.declared.command.Command.{Command}
use Rattle.session_commands.specs.Whole.{IsCommand}
use Rattle.tool_script.specs.Kinds.{is_move}
use Rattle.tool_script.specs.Shown.{rows_in}
use Rattle.tool_script.specs.Basis.{basis_in}
use Rattle.tool_script.proofs.Named.{all_moves_named, all_asks_named}
use Rattle.tool_script.proofs.Past.{past_lines, past_rows, past_makes}
use Rattle.tool_script.proofs.Steps.{item_of}
use Rattle.scenario_grid.proofs.Grids.{first_past, first_begins, next_past, next_begins, last_past}
use Rattle.scenario_grid.proofs.grid.all_scenarios.Goals as goal

pub add_scenario-requires : goal.add_scenario-requires
add_scenario-requires g c = record {
  ready = c.requires.ready;
  moves = subst (λ (l : List Command). All (λ (d : Command). is_move d ≡ true) l) (sym c.new-none.ensures)
      (All-nil (λ (d : Command). is_move d ≡ true));
  asks = c.requires.taken.asks;
  known = subst (λ (l : List Command). All (IsCommand (length c.args.names.now) 0) l) (sym c.new-none.ensures)
      (All-nil (IsCommand (length c.args.names.now) 0));
  named = all_asks_named (length c.args.names.now) (length c.args.script.now.actions) c.args.script.now.commands
      c.requires.taken.asks c.requires.whole.commands;
}

pub returns-in_err-add_scenario-clause-calls : goal.returns-in_err-add_scenario-clause-calls
returns-in_err-add_scenario-clause-calls g c =
    let from = c.from_residual in
    let p = err_from_is_err_and from.result from.ensures.1 in
    rw p.1 (first_begins (g.B.Bench.calc c.args.bench.now) (basis_in c.args.market.now c.args.names.now) c.args.script.now
    c.args.lines.now.items (g.B.Bench.count c.args.bench.now) (g.B.Bench.log c.args.bench.now) c.new-none.result c.new-none.ensures
    (g.B.Bench.count c.add_scenario.new.bench) (g.B.Bench.log c.add_scenario.new.bench) c.in_err-add_scenario.ensures.calls)

pub loop-at-init : goal.loop-at-init
loop-at-init g c = record {
  same = c.add_scenario.ensures.same;
  past = first_past (g.B.Bench.calc c.args.bench.now) (basis_in c.args.market.now c.args.names.now) c.args.script.now
      c.args.lines.now.items (g.B.Bench.count c.args.bench.now) (g.B.Bench.log c.args.bench.now) c.new-none.result c.new-rows.result
      c.new-none.ensures c.new-rows.ensures c.add_scenario.new.lines.items (rows_in c.add_scenario.new.rows)
      (g.B.Bench.count c.add_scenario.new.bench) (g.B.Bench.log c.add_scenario.new.bench) c.in_ok-add_scenario.ensures.lines
      c.in_ok-add_scenario.ensures.rows c.in_ok-add_scenario.ensures.calls;
}

pub add_scenario-requires-in-loop-at-clause-known : goal.add_scenario-requires-in-loop-at-clause-known
add_scenario-requires-in-loop-at-clause-known g c =
    let script = c.args.script.now in
    let n = length c.args.names.now in
    let within : c.loop-at.at < length script.actions = omega (arith, c.loop-at-test.true, c.len.ensures) in
    let moves = c.index-items-at-in-loop-at.result in
    let are = rw c.items-in-loop-at.ensures at c.index-items-at-in-loop-at.is in
    all_moves_named n (length script.actions) moves
    (item_of (λ (block : List Command). All (λ (d : Command). is_move d ≡ true) block) script.actions c.loop-at.at moves within are
    c.requires.taken.moves)
    (item_of (λ (block : List Command). All (IsCommand n (length script.actions)) block) script.actions c.loop-at.at moves within are
    c.requires.whole.actions)

pub add_scenario-requires-in-loop-at-clause-named : goal.add_scenario-requires-in-loop-at-clause-named
add_scenario-requires-in-loop-at-clause-named g c =
    all_asks_named (length c.args.names.now) (length c.args.script.now.actions) c.args.script.now.commands
    c.requires.taken.asks c.requires.whole.commands

pub returns-in_err-add_scenario-2-clause-calls : goal.returns-in_err-add_scenario-2-clause-calls
returns-in_err-add_scenario-2-clause-calls g c =
    let script = c.args.script.now in
    let within : c.loop-at.at < length script.actions = omega (arith, c.loop-at-test.true, c.len.ensures) in
    let named : c.loop-at.at < length script.action_names = omega (arith, within, c.requires.whole.paired) in
    let is = rw c.items.ensures at c.index-items-at.is in
    let are = rw c.items-in-loop-at.ensures at c.index-items-at-in-loop-at.is in
    let calls = rw c.loop-at.invariant.same at c.in_err-add_scenario-2.ensures.calls in
    let from = c.from_residual-in_err-add_scenario-2 in
    let p = err_from_is_err_and from.result from.ensures.1 in
    rw p.1 (next_begins (g.B.Bench.calc c.args.bench.now) (basis_in c.args.market.now c.args.names.now) script
    c.args.lines.now.items (g.B.Bench.count c.args.bench.now) (g.B.Bench.log c.args.bench.now) c.loop-at.at c.index-items-at.result
    c.index-items-at-in-loop-at.result within named is are c.loop-at.lines.items (rows_in c.loop-at.rows)
    (g.B.Bench.count c.loop-at.bench) (g.B.Bench.log c.loop-at.bench) c.loop-at.invariant.past
    (g.B.Bench.count c.add_scenario-in-loop-at.new.bench) (g.B.Bench.log c.add_scenario-in-loop-at.new.bench) calls)

pub loop-at-preserved : goal.loop-at-preserved
loop-at-preserved g c =
    let script = c.args.script.now in
    let within : c.loop-at.at < length script.actions = omega (arith, c.loop-at-test.true, c.len.ensures) in
    let named : c.loop-at.at < length script.action_names = omega (arith, within, c.requires.whole.paired) in
    let is = rw c.items.ensures at c.index-items-at.is in
    let are = rw c.items-in-loop-at.ensures at c.index-items-at-in-loop-at.is in
    let same = c.loop-at.invariant.same in
    record {
      same = c.add_scenario-in-loop-at.ensures.same ∙ same;
      past = next_past (g.B.Bench.calc c.args.bench.now) (basis_in c.args.market.now c.args.names.now) script
          c.args.lines.now.items (g.B.Bench.count c.args.bench.now) (g.B.Bench.log c.args.bench.now) c.loop-at.at
          c.index-items-at.result c.index-items-at-in-loop-at.result within named is are c.loop-at.lines.items
          (rows_in c.loop-at.rows) (g.B.Bench.count c.loop-at.bench) (g.B.Bench.log c.loop-at.bench) c.loop-at.invariant.past
          c.add_scenario-in-loop-at.new.lines.items (rows_in c.add_scenario-in-loop-at.new.rows)
          (g.B.Bench.count c.add_scenario-in-loop-at.new.bench) (g.B.Bench.log c.add_scenario-in-loop-at.new.bench)
          (rw same at c.in_ok-add_scenario-2.ensures.lines) (rw same at c.in_ok-add_scenario-2.ensures.rows)
          (rw same at c.in_ok-add_scenario-2.ensures.calls);
    }

pub returns-clause-lines : goal.returns-clause-lines
returns-clause-lines g c =
    let calc = g.B.Bench.calc c.args.bench.now in
    let basis = basis_in c.args.market.now c.args.names.now in
    let script = c.args.script.now in
    let past : length script.actions ≤ c.loop-at.at = omega (arith, c.loop-at-test.false, c.len.ensures) in
    past_lines _ _ _ (g.B.Bench.count c.args.bench.now) (g.B.Bench.log c.args.bench.now) c.loop-at.lines.items (rows_in c.loop-at.rows)
    (g.B.Bench.count c.loop-at.bench) (g.B.Bench.log c.loop-at.bench)
    (last_past calc basis script c.args.lines.now.items (g.B.Bench.count c.args.bench.now) (g.B.Bench.log c.args.bench.now)
    c.loop-at.at c.loop-at.lines.items (rows_in c.loop-at.rows) (g.B.Bench.count c.loop-at.bench) (g.B.Bench.log c.loop-at.bench)
    past c.loop-at.invariant.past)

pub returns-clause-rows : goal.returns-clause-rows
returns-clause-rows g c =
    let calc = g.B.Bench.calc c.args.bench.now in
    let basis = basis_in c.args.market.now c.args.names.now in
    let script = c.args.script.now in
    let past : length script.actions ≤ c.loop-at.at = omega (arith, c.loop-at-test.false, c.len.ensures) in
    past_rows _ _ _ (g.B.Bench.count c.args.bench.now) (g.B.Bench.log c.args.bench.now) c.loop-at.lines.items (rows_in c.loop-at.rows)
    (g.B.Bench.count c.loop-at.bench) (g.B.Bench.log c.loop-at.bench)
    (last_past calc basis script c.args.lines.now.items (g.B.Bench.count c.args.bench.now) (g.B.Bench.log c.args.bench.now)
    c.loop-at.at c.loop-at.lines.items (rows_in c.loop-at.rows) (g.B.Bench.count c.loop-at.bench) (g.B.Bench.log c.loop-at.bench)
    past c.loop-at.invariant.past)

pub returns-clause-calls : goal.returns-clause-calls
returns-clause-calls g c =
    let calc = g.B.Bench.calc c.args.bench.now in
    let basis = basis_in c.args.market.now c.args.names.now in
    let script = c.args.script.now in
    let past : length script.actions ≤ c.loop-at.at = omega (arith, c.loop-at-test.false, c.len.ensures) in
    past_makes _ _ _ (g.B.Bench.count c.args.bench.now) (g.B.Bench.log c.args.bench.now) c.loop-at.lines.items (rows_in c.loop-at.rows)
    (g.B.Bench.count c.loop-at.bench) (g.B.Bench.log c.loop-at.bench)
    (last_past calc basis script c.args.lines.now.items (g.B.Bench.count c.args.bench.now) (g.B.Bench.log c.args.bench.now)
    c.loop-at.at c.loop-at.lines.items (rows_in c.loop-at.rows) (g.B.Bench.count c.loop-at.bench) (g.B.Bench.log c.loop-at.bench)
    past c.loop-at.invariant.past)
