use Rattle.std.proofs.Common.{◌≡◌, ◌<◌, ◌≤◌, true, length, List, sym, ◌∙◌, subst, arith, All}
use Rattle.std.proofs.lemmas.Result.{err_from_is_err_and}
use Rattle.std.proofs.lemmas.List.Elements.{All-nil}
use Rattle.desk_terms.specs.Reading.{Calc}
use Rattle.session_commands.specs.declared.command.Command.{Command}
use Rattle.session_commands.specs.Whole.{IsCommand}
use Rattle.session_model.specs.Standing.{IsKnown}
use Rattle.tool_script.specs.Kinds.{is_move, is_ask}
use Rattle.tool_script.specs.Shown.{rows_in}
use Rattle.tool_script.specs.Going.{IsGoing}
use Rattle.tool_script.proofs.Named.{all_moves_named, all_asks_named}
use Rattle.tool_script.proofs.Past.{past_lines, past_rows, past_makes}
use Rattle.tool_script.proofs.Steps.{item_of}
use Rattle.tool_runs.proofs.Going.{known_of, first_past, first_begins, next_past, next_begins, last_past}
use Rattle.tool_runs.proofs.explain_steps.all_steps.Goals as goal

pub add_step-requires : goal.add_step-requires
add_step-requires g c =
    let names = c.args.names.now in
    let p = c.args.session.now.standing in
    let none = c.items.ensures ∙ c.new-none.ensures in
    let asks = sym c.items-asks.ensures in
    record {
      going = c.requires.going;
      known = subst (λ (l : List Command). All (IsKnown p) l) (sym none) (All-nil (IsKnown p));
      named = subst (λ (l : List Command). All (IsKnown p) l) asks
          (known_of p names c.args.script.now.commands c.requires.named c.requires.going.actions
          (all_asks_named (length names) (length c.args.script.now.actions) c.args.script.now.commands c.requires.taken.asks
          c.requires.whole.commands));
      moves = subst (λ (l : List Command). All (λ (d : Command). is_move d ≡ true) l) (sym none) (All-nil (λ (d : Command). is_move d ≡ true));
      asks = subst (λ (l : List Command). All (λ (d : Command). is_ask d ≡ true) l) asks c.requires.taken.asks;
    }

pub returns-in_err-add_step-clause-calls : goal.returns-in_err-add_step-clause-calls
returns-in_err-add_step-clause-calls g c =
    let asks = c.items-asks.ensures in
    let none = c.items.ensures ∙ c.new-none.ensures in
    let calls = rw asks at c.in_err-add_step.ensures.calls in
    let from = c.from_residual in
    let p = err_from_is_err_and from.result from.ensures.1 in
    rw p.1 (first_begins (g.B.Bench.calc c.args.bench.now) c.args.names.now c.args.script.now c.args.session.now
    c.args.lines.now.items (g.B.Bench.count c.args.bench.now) (g.B.Bench.log c.args.bench.now) c.items.result.now none
    (g.B.Bench.count c.add_step.new.bench) (g.B.Bench.log c.add_step.new.bench) calls)

pub loop-at-init : goal.loop-at-init
loop-at-init g c =
    let asks = c.items-asks.ensures in
    let none = c.items.ensures ∙ c.new-none.ensures in
    record {
      same = c.add_step.ensures.same;
      going = c.in_ok-add_step.ensures.going;
      named = c.in_ok-add_step.ensures.names ∙ c.requires.named;
      past = first_past (g.B.Bench.calc c.args.bench.now) c.args.names.now c.args.script.now c.args.session.now
          c.args.lines.now.items (g.B.Bench.count c.args.bench.now) (g.B.Bench.log c.args.bench.now) c.items.result.now
          c.new-rows.result none c.new-rows.ensures c.add_step.new.session c.add_step.new.lines.items (rows_in c.add_step.new.rows)
          (g.B.Bench.count c.add_step.new.bench) (g.B.Bench.log c.add_step.new.bench) (rw asks at c.in_ok-add_step.ensures.next)
          (rw asks at c.in_ok-add_step.ensures.lines) (rw asks at c.in_ok-add_step.ensures.rows)
          (rw asks at c.in_ok-add_step.ensures.calls);
    }

pub add_step-requires-in-loop-at : goal.add_step-requires-in-loop-at
add_step-requires-in-loop-at g c =
    let script = c.args.script.now in
    let names = c.args.names.now in
    let n = length names in
    let within : c.loop-at.at < length script.actions = omega (arith, c.loop-at-test.true, c.len.ensures) in
    let block = c.index-items-at-in-loop-at.result in
    let are = rw c.items-in-loop-at-2.ensures at c.index-items-at-in-loop-at.is in
    let going = c.loop-at.invariant.going in
    let moving = item_of (λ (l : List Command). All (λ (d : Command). is_move d ≡ true) l) script.actions c.loop-at.at block within are
    c.requires.taken.moves in
    let asks = sym c.items-asks.ensures in
    let moves = sym c.items-moves.ensures in
    let p = c.loop-at.session.standing in
    record {
      going = subst (λ (k : Calc). IsGoing k c.loop-at.session) (sym c.loop-at.invariant.same) going;
      known = subst (λ (l : List Command). All (IsKnown p) l) moves
          (known_of p names block c.loop-at.invariant.named going.actions
          (all_moves_named n (length script.actions) block moving
          (item_of (λ (l : List Command). All (IsCommand n (length script.actions)) l) script.actions c.loop-at.at block within are
          c.requires.whole.actions)));
      named = subst (λ (l : List Command). All (IsKnown p) l) asks
          (known_of p names script.commands c.loop-at.invariant.named going.actions
          (all_asks_named n (length script.actions) script.commands c.requires.taken.asks c.requires.whole.commands));
      moves = subst (λ (l : List Command). All (λ (d : Command). is_move d ≡ true) l) moves moving;
      asks = subst (λ (l : List Command). All (λ (d : Command). is_ask d ≡ true) l) asks c.requires.taken.asks;
    }

pub returns-in_err-add_step-2-clause-calls : goal.returns-in_err-add_step-2-clause-calls
returns-in_err-add_step-2-clause-calls g c =
    let script = c.args.script.now in
    let within : c.loop-at.at < length script.actions = omega (arith, c.loop-at-test.true, c.len.ensures) in
    let named : c.loop-at.at < length script.action_names = omega (arith, within, c.requires.whole.paired) in
    let is = rw c.items-in-loop-at.ensures at c.index-items-at.is in
    let are = rw c.items-in-loop-at-2.ensures at c.index-items-at-in-loop-at.is in
    let calls = rw (c.items-asks.ensures, c.items-moves.ensures, c.loop-at.invariant.same) at c.in_err-add_step-2.ensures.calls in
    let from = c.from_residual-in_err-add_step-2 in
    let p = err_from_is_err_and from.result from.ensures.1 in
    rw p.1 (next_begins (g.B.Bench.calc c.args.bench.now) c.args.names.now script c.args.session.now c.args.lines.now.items
    (g.B.Bench.count c.args.bench.now) (g.B.Bench.log c.args.bench.now) c.loop-at.at c.index-items-at.result
    c.index-items-at-in-loop-at.result within named is are c.loop-at.session c.loop-at.lines.items (rows_in c.loop-at.rows)
    (g.B.Bench.count c.loop-at.bench) (g.B.Bench.log c.loop-at.bench) c.loop-at.invariant.past
    (g.B.Bench.count c.add_step-in-loop-at.new.bench) (g.B.Bench.log c.add_step-in-loop-at.new.bench) calls)

pub loop-at-preserved : goal.loop-at-preserved
loop-at-preserved g c =
    let script = c.args.script.now in
    let within : c.loop-at.at < length script.actions = omega (arith, c.loop-at-test.true, c.len.ensures) in
    let named : c.loop-at.at < length script.action_names = omega (arith, within, c.requires.whole.paired) in
    let is = rw c.items-in-loop-at.ensures at c.index-items-at.is in
    let are = rw c.items-in-loop-at-2.ensures at c.index-items-at-in-loop-at.is in
    let same = c.loop-at.invariant.same in
    let asks = c.items-asks.ensures in
    let moves = c.items-moves.ensures in
    record {
      same = c.add_step-in-loop-at.ensures.same ∙ same;
      going = rw same at c.in_ok-add_step-2.ensures.going;
      named = c.in_ok-add_step-2.ensures.names ∙ c.loop-at.invariant.named;
      past = next_past (g.B.Bench.calc c.args.bench.now) c.args.names.now script c.args.session.now c.args.lines.now.items
          (g.B.Bench.count c.args.bench.now) (g.B.Bench.log c.args.bench.now) c.loop-at.at c.index-items-at.result
          c.index-items-at-in-loop-at.result within named is are c.loop-at.session c.loop-at.lines.items (rows_in c.loop-at.rows)
          (g.B.Bench.count c.loop-at.bench) (g.B.Bench.log c.loop-at.bench) c.loop-at.invariant.past c.add_step-in-loop-at.new.session
          c.add_step-in-loop-at.new.lines.items (rows_in c.add_step-in-loop-at.new.rows)
          (g.B.Bench.count c.add_step-in-loop-at.new.bench) (g.B.Bench.log c.add_step-in-loop-at.new.bench)
          (rw (asks, moves, same) at c.in_ok-add_step-2.ensures.next) (rw (asks, moves, same) at c.in_ok-add_step-2.ensures.lines)
          (rw (asks, moves, same) at c.in_ok-add_step-2.ensures.rows) (rw (asks, moves, same) at c.in_ok-add_step-2.ensures.calls);
    }

pub returns-clause-lines : goal.returns-clause-lines
returns-clause-lines g c =
    let past : length c.args.script.now.actions ≤ c.loop-at.at = omega (arith, c.loop-at-test.false, c.len.ensures) in
    past_lines _ _ _ (g.B.Bench.count c.args.bench.now) (g.B.Bench.log c.args.bench.now) c.loop-at.lines.items (rows_in c.loop-at.rows)
    (g.B.Bench.count c.loop-at.bench) (g.B.Bench.log c.loop-at.bench)
    (last_past (g.B.Bench.calc c.args.bench.now) c.args.names.now c.args.script.now c.args.session.now c.args.lines.now.items
    (g.B.Bench.count c.args.bench.now) (g.B.Bench.log c.args.bench.now) c.loop-at.at c.loop-at.session c.loop-at.lines.items
    (rows_in c.loop-at.rows) (g.B.Bench.count c.loop-at.bench) (g.B.Bench.log c.loop-at.bench) past c.loop-at.invariant.past)

pub returns-clause-rows : goal.returns-clause-rows
returns-clause-rows g c =
    let past : length c.args.script.now.actions ≤ c.loop-at.at = omega (arith, c.loop-at-test.false, c.len.ensures) in
    past_rows _ _ _ (g.B.Bench.count c.args.bench.now) (g.B.Bench.log c.args.bench.now) c.loop-at.lines.items (rows_in c.loop-at.rows)
    (g.B.Bench.count c.loop-at.bench) (g.B.Bench.log c.loop-at.bench)
    (last_past (g.B.Bench.calc c.args.bench.now) c.args.names.now c.args.script.now c.args.session.now c.args.lines.now.items
    (g.B.Bench.count c.args.bench.now) (g.B.Bench.log c.args.bench.now) c.loop-at.at c.loop-at.session c.loop-at.lines.items
    (rows_in c.loop-at.rows) (g.B.Bench.count c.loop-at.bench) (g.B.Bench.log c.loop-at.bench) past c.loop-at.invariant.past)

pub returns-clause-calls : goal.returns-clause-calls
returns-clause-calls g c =
    let past : length c.args.script.now.actions ≤ c.loop-at.at = omega (arith, c.loop-at-test.false, c.len.ensures) in
    past_makes _ _ _ (g.B.Bench.count c.args.bench.now) (g.B.Bench.log c.args.bench.now) c.loop-at.lines.items (rows_in c.loop-at.rows)
    (g.B.Bench.count c.loop-at.bench) (g.B.Bench.log c.loop-at.bench)
    (last_past (g.B.Bench.calc c.args.bench.now) c.args.names.now c.args.script.now c.args.session.now c.args.lines.now.items
    (g.B.Bench.count c.args.bench.now) (g.B.Bench.log c.args.bench.now) c.loop-at.at c.loop-at.session c.loop-at.lines.items
    (rows_in c.loop-at.rows) (g.B.Bench.count c.loop-at.bench) (g.B.Bench.log c.loop-at.bench) past c.loop-at.invariant.past)
