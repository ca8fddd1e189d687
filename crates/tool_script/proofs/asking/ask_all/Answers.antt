use Rattle.std.proofs.Common.{◌≡◌, true, refl, ◌∙◌, subst}
use Rattle.std.proofs.lemmas.Result.{err_from_is_err_and}
use Rattle.desk_terms.specs.Reading.{Calc}
use Rattle.session_commands.specs.declared.command.Command.{Command}
use Rattle.session_model.specs.Standing.{IsKnown}
use Rattle.session_rounds.specs.Goes.{Stays}
use Rattle.tool_script.specs.Kinds.{is_ask}
use Rattle.tool_script.proofs.Moved.{ask_holds}
use Rattle.tool_script.specs.Course.{output}
use Rattle.tool_script.proofs.Steps.{progress_none, progress_next, progress_last, progress_more, progress_halts, progress_done, progress_known, going_more, values_none, values_next, values_more, values_done, values_kept, item_of, does_of, halts_of, going_of, shown_of}
use Rattle.tool_script.proofs.asking.ask_all.Goals as goal

pub loop-ask-init : goal.loop-ask-init
loop-ask-init g c = record {
  same = refl;
  progress = progress_none (g.B.Bench.calc c.args.bench.now) c.args.asks.now c.args.session.now
      (output c.args.lines.now.items (g.B.Bench.count c.args.bench.now) (g.B.Bench.log c.args.bench.now)) c.requires.going.running
      c.requires.going.sound;
  going = c.requires.going;
  values = values_none (g.B.Bench.calc c.args.bench.now) c.args.asks.now c.args.session.now c.args.values.now;
}

pub ask_next-requires : goal.ask_next-requires
ask_next-requires g c =
    let calc = g.B.Bench.calc c.args.bench.now in
    let start = output c.args.lines.now.items (g.B.Bench.count c.args.bench.now) (g.B.Bench.log c.args.bench.now) in
    let now = output c.loop-ask.lines.items (g.B.Bench.count c.loop-ask.bench) (g.B.Bench.log c.loop-ask.bench) in
    record {
      going = going_of calc _ c.loop-ask.session c.loop-ask.invariant.same c.loop-ask.invariant.going;
      known = progress_known calc c.args.asks.now c.args.session.now start _ c.ask-item.result c.loop-ask.session now
          c.loop-ask.invariant.progress
          (item_of (IsKnown c.args.session.now.standing) c.args.asks.now c.loop-ask.ask-index c.ask-item.result
          c.loop-ask-test.true c.ask-item.is c.requires.known);
      ask = item_of (λ (d : Command). is_ask d ≡ true) c.args.asks.now c.loop-ask.ask-index c.ask-item.result c.loop-ask-test.true
          c.ask-item.is c.requires.asks;
    }

pub loop-ask-preserved : goal.loop-ask-preserved
loop-ask-preserved g c =
    let calc = g.B.Bench.calc c.args.bench.now in
    let start = output c.args.lines.now.items (g.B.Bench.count c.args.bench.now) (g.B.Bench.log c.args.bench.now) in
    let now = output c.loop-ask.lines.items (g.B.Bench.count c.loop-ask.bench) (g.B.Bench.log c.loop-ask.bench) in
    let new = output c.ask_next.new.lines.items (g.B.Bench.count c.ask_next.new.bench) (g.B.Bench.log c.ask_next.new.bench) in
    let same = c.loop-ask.invariant.same in
    let does = does_of calc _ c.loop-ask.session c.ask_next.new.session c.ask-item.result now new same c.in_ok-ask_next.ensures.does in
    let stays = subst (λ (k : Calc). Stays k c.loop-ask.session.standing c.ask_next.new.session.standing) same c.ask_next.ensures.stays in
    record {
      same = c.ask_next.ensures.same ∙ same;
      progress = progress_more calc c.args.asks.now c.args.session.now start c.ask-item.result _ c.loop-ask.session
          c.ask_next.new.session now new
          (progress_next calc c.args.asks.now c.args.session.now start c.loop-ask.ask-index c.ask-item.result
          c.loop-ask.session now c.loop-ask-test.true c.ask-item.is c.loop-ask.invariant.progress)
          does stays c.in_ok-ask_next.ensures.running;
      going = going_more calc c.loop-ask.session c.ask_next.new.session c.ask-item.result now new
          (ask_holds c.ask-item.result (item_of (λ (d : Command). is_ask d ≡ true) c.args.asks.now c.loop-ask.ask-index
          c.ask-item.result c.loop-ask-test.true c.ask-item.is c.requires.asks))
          c.loop-ask.invariant.going does stays c.in_ok-ask_next.ensures.running;
      values = values_more calc c.args.asks.now c.args.session.now c.args.values.now c.ask-item.result _ c.loop-ask.session
          c.ask_next.new.session c.loop-ask.values c.ask_next.new.values
          (values_next calc c.args.asks.now c.args.session.now c.args.values.now c.loop-ask.ask-index c.ask-item.result
          c.loop-ask.session c.loop-ask.values c.loop-ask-test.true c.ask-item.is c.loop-ask.invariant.values)
          does.next
          (shown_of calc _ c.loop-ask.session.standing c.ask-item.result c.loop-ask.values c.ask_next.new.values same c.in_ok-ask_next.ensures.values);
    }

pub returns-in_err-ask_next-clause-halts : goal.returns-in_err-ask_next-clause-halts
returns-in_err-ask_next-clause-halts g c =
    let calc = g.B.Bench.calc c.args.bench.now in
    let start = output c.args.lines.now.items (g.B.Bench.count c.args.bench.now) (g.B.Bench.log c.args.bench.now) in
    let now = output c.loop-ask.lines.items (g.B.Bench.count c.loop-ask.bench) (g.B.Bench.log c.loop-ask.bench) in
    let new = output c.ask_next.new.lines.items (g.B.Bench.count c.ask_next.new.bench) (g.B.Bench.log c.ask_next.new.bench) in
    let from = c.from_residual in
    let p = err_from_is_err_and from.result from.ensures.1 in
    rw p.1 (progress_halts calc c.args.asks.now c.args.session.now start c.ask-item.result _ c.loop-ask.session now new
    (progress_next calc c.args.asks.now c.args.session.now start c.loop-ask.ask-index c.ask-item.result
    c.loop-ask.session now c.loop-ask-test.true c.ask-item.is c.loop-ask.invariant.progress)
    (halts_of calc _ c.loop-ask.session c.ask-item.result now new c.loop-ask.invariant.same c.in_err-ask_next.ensures.halts))

pub returns-in_err-ask_next-clause-kept : goal.returns-in_err-ask_next-clause-kept
returns-in_err-ask_next-clause-kept g c =
    let v = values_kept _ _ _ _ _ _ _ c.loop-ask.invariant.values in
    record { more = v.more; whole = c.in_err-ask_next.ensures.kept ∙ v.whole }

pub returns-clause-does : goal.returns-clause-does
returns-clause-does g c =
    let calc = g.B.Bench.calc c.args.bench.now in
    let start = output c.args.lines.now.items (g.B.Bench.count c.args.bench.now) (g.B.Bench.log c.args.bench.now) in
    let now = output c.loop-ask.lines.items (g.B.Bench.count c.loop-ask.bench) (g.B.Bench.log c.loop-ask.bench) in
    progress_done calc c.args.asks.now c.args.session.now start c.loop-ask.session now
    (progress_last calc c.args.asks.now c.args.session.now start c.loop-ask.ask-index c.loop-ask.session now
    c.loop-ask-test.false c.loop-ask.invariant.progress)

pub returns-clause-values : goal.returns-clause-values
returns-clause-values g c =
    values_done (g.B.Bench.calc c.args.bench.now) c.args.asks.now c.args.session.now c.args.values.now c.loop-ask.ask-index
    c.loop-ask.session c.loop-ask.values c.loop-ask-test.false c.loop-ask.invariant.values

pub returns-clause-kept : goal.returns-clause-kept
returns-clause-kept g c = values_kept _ _ _ _ _ _ _ c.loop-ask.invariant.values

pub returns-clause-going : goal.returns-clause-going
returns-clause-going g c = c.loop-ask.invariant.going

pub returns-clause-names : goal.returns-clause-names
returns-clause-names g c = c.loop-ask.invariant.progress.names
