use Rattle.std.proofs.Common.{◌∙◌, sym, arith}
use Rattle.bond_spread.proofs.Flows.{keeps_none, keeps_more, fault_on, all_kept}
use Rattle.bond_spread.proofs.spreads.discounted.Goals as goal

pub loop-flow-init : goal.loop-flow-init
loop-flow-init c = keeps_none c.args.curve.now c.args.settle c.args.base c.args.flows.now c.new-list.result c.new-list.ensures

pub loop-flow-preserved : goal.loop-flow-preserved
loop-flow-preserved c =
    keeps_more c.args.curve.now c.args.settle c.args.base c.args.flows.now c.loop-flow.flow-index c.flow-item.result c.in-Ok.flow c.loop-flow.list c.push.new.self
    c.loop-flow.invariant c.loop-flow-test.true c.flow-item.is (sym c.discounted_flow.ensures.value ∙ c.in-Ok.is) c.in-Ok.ensures.known c.in_ok-push-in-Ok.ensures.ok

pub returns-in-Err-clause-value : goal.returns-in-Err-clause-value
returns-in-Err-clause-value c =
    sym (c.loop-flow.invariant.value ∙ fault_on c.args.curve.now c.args.settle c.args.base c.args.flows.now c.loop-flow.flow-index c.flow-item.result c.loop-flow.list
    c.in-Err.fault c.loop-flow-test.true c.flow-item.is (sym c.discounted_flow.ensures.value ∙ c.in-Err.is))

pub returns-clause-value : goal.returns-clause-value
returns-clause-value c =
    sym (c.loop-flow.invariant.value ∙ all_kept c.args.curve.now c.args.settle c.args.base c.args.flows.now c.loop-flow.flow-index c.loop-flow.list c.loop-flow-test.false)

pub returns-clause-known : goal.returns-clause-known
returns-clause-known c = c.loop-flow.invariant.known

pub returns-clause-count : goal.returns-clause-count
returns-clause-count c = omega (arith, c.loop-flow.invariant.count, c.loop-flow.invariant.within, c.loop-flow-test.false)
