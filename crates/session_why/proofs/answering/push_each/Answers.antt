use Rattle.std.proofs.Common.{◌≡◌, ◌+◌, ◌++◌, ◌∙◌, get_or, drop, ap, subst}
use Rattle.std.proofs.lemmas.List.{drop_more, drop_all}
use Rattle.std.proofs.lemmas.Result.{err_from_is_err_and}
use Rattle.desk_terms.specs.Reading.{Calc}
use Rattle.desk_model.specs.Sound.{IsSound}
use Rattle.session_model.specs.Standing.{Standing}
use Rattle.bump_model.specs.Asking.{Made, MadeFront}
use Rattle.why_model.specs.Answer.{object_lines}
use Rattle.session_why.specs.Computed.{ask_if, ask_each}
use Rattle.session_why.proofs.Answered.{stays_more, standing_stays, lines_step, lines_all}
use Rattle.session_why.proofs.Counted.{asks_failed, come_more, come_front, come_all}
use Rattle.session_why.proofs.answering.push_each.Goals as goal

pub returns-in_err-push_object-clause-asks : goal.returns-in_err-push_object-clause-asks
returns-in_err-push_object-clause-asks g c =
    let calc : Calc = g.B.Bench.calc c.args.bench.now in
    let list = c.args.list.now in
    let at = c.loop-number.number-index in
    let s = c.loop-number.session.standing.state in
    let p = err_from_is_err_and c.from_residual.result c.from_residual.ensures.1 in
    asks_failed (ask_each calc list c.args.session.now.standing.state) c.from_residual.result
    c.push_object.new.session.standing.state
    (g.B.Bench.count c.args.bench.now) (g.B.Bench.count c.push_object.new.bench)
    (g.B.Bench.log c.args.bench.now) (g.B.Bench.log c.push_object.new.bench) p.0 p.1
    (come_front calc (get_or list at 0) (drop at list) (drop (at + 1) list)
    (ask_each calc list c.args.session.now.standing.state) s
    (g.B.Bench.count c.args.bench.now) (g.B.Bench.count c.loop-number.bench) (g.B.Bench.count c.push_object.new.bench)
    (g.B.Bench.log c.args.bench.now) (g.B.Bench.log c.loop-number.bench) (g.B.Bench.log c.push_object.new.bench)
    (drop_more list at 0 c.loop-number-test.true) c.loop-number.invariant.come
    (subst (λ (k : Calc). MadeFront (ask_if k (get_or list at 0) s).calls (g.B.Bench.count c.loop-number.bench)
    (g.B.Bench.count c.push_object.new.bench) (g.B.Bench.log c.loop-number.bench)
    (g.B.Bench.log c.push_object.new.bench))
    c.loop-number.invariant.same c.in_err-push_object.ensures.asks))

pub loop-number-preserved : goal.loop-number-preserved
loop-number-preserved g c =
    let calc : Calc = g.B.Bench.calc c.args.bench.now in
    let list = c.args.list.now in
    let at = c.loop-number.number-index in
    let x = get_or list at 0 in
    let p : Standing = c.loop-number.session.standing in
    let q : Standing = c.push_object.new.session.standing in
    let steps = drop_more list at 0 c.loop-number-test.true in
    let next : q.state ≡ (ask_if calc x p.state).next =
    c.in_ok-push_object.ensures.asks.0 ∙ ap (λ (k : Calc). (ask_if k x p.state).next) c.loop-number.invariant.same in
    record {
      same = c.push_object.ensures.same ∙ c.loop-number.invariant.same;
      come =
          come_more calc x (drop at list) (drop (at + 1) list) (ask_each calc list c.args.session.now.standing.state)
          p.state q.state
          (g.B.Bench.count c.args.bench.now) (g.B.Bench.count c.loop-number.bench)
          (g.B.Bench.count c.push_object.new.bench)
          (g.B.Bench.log c.args.bench.now) (g.B.Bench.log c.loop-number.bench) (g.B.Bench.log c.push_object.new.bench)
          steps c.loop-number.invariant.come next
          (subst (λ (k : Calc). Made (ask_if k x p.state).calls (g.B.Bench.count c.loop-number.bench)
          (g.B.Bench.count c.push_object.new.bench) (g.B.Bench.log c.loop-number.bench)
          (g.B.Bench.log c.push_object.new.bench))
          c.loop-number.invariant.same c.in_ok-push_object.ensures.asks.1);
      text =
          lines_step calc p q x (drop at list) (drop (at + 1) list) steps c.loop-number.out.items
          c.push_object.new.out.items _
          c.push_object.ensures.whole
          (standing_stays c.loop-number.session c.push_object.new.session c.push_object.ensures.stays) next
          (c.in_ok-push_object.ensures.text
          ∙ ap (λ (k : Calc). c.loop-number.out.items ++ object_lines k p x) c.loop-number.invariant.same)
          c.loop-number.invariant.text;
      stays =
          stays_more c.args.session.now c.loop-number.session c.push_object.new.session c.loop-number.invariant.stays
          c.push_object.ensures.stays;
      market = c.push_object.ensures.market ∙ c.loop-number.invariant.market;
      sound = subst (λ (k : Calc). IsSound k q.state) c.loop-number.invariant.same c.push_object.ensures.sound;
    }

pub returns-clause-text : goal.returns-clause-text
returns-clause-text g c =
    lines_all (g.B.Bench.calc c.args.bench.now) c.loop-number.session.standing
    (drop c.loop-number.number-index c.args.list.now)
    c.loop-number.out.items _ (drop_all c.loop-number.number-index c.args.list.now c.loop-number-test.false)
    c.loop-number.invariant.text

pub returns-clause-asks : goal.returns-clause-asks
returns-clause-asks g c =
    let calc : Calc = g.B.Bench.calc c.args.bench.now in
    come_all calc (ask_each calc c.args.list.now c.args.session.now.standing.state)
    (drop c.loop-number.number-index c.args.list.now) c.loop-number.session.standing.state
    (g.B.Bench.count c.args.bench.now) (g.B.Bench.count c.loop-number.bench)
    (g.B.Bench.log c.args.bench.now) (g.B.Bench.log c.loop-number.bench)
    (drop_all c.loop-number.number-index c.args.list.now c.loop-number-test.false) c.loop-number.invariant.come
