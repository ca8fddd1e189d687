use Rattle.std.proofs.Common.{◌∙◌, ◌+◌, sym, ap, ℤ, drop}
use Rattle.bond_yield.specs.Fixed.{rise_from}
use Rattle.bond_yield.proofs.FlowLemmas.{from_first, rise_on, rise_not, rise_end, before_not, not_before, some_there}
use Rattle.bond_yield.proofs.fixed.are_in_order.Goals as goal

pub loop-flow-init : goal.loop-flow-init
loop-flow-init c =
    from_first c.args.flows.now c.in-Some.first.now (some_there _ c.in-Some.ensures.item.0) c.in-Some.ensures.item.1
    ∙ ap (λ (day : ℤ). rise_from day c.args.flows.now) (sym c.paid-last.ensures)

pub returns-then-lt : goal.returns-then-lt
returns-then-lt c =
    sym (c.loop-flow.invariant ∙ rise_not c.args.flows.now c.loop-flow.flow-index c.flow-item.result c.loop-flow.last c.loop-flow-test.true c.flow-item.is
    (rw (← c.paid-paid.ensures) (before_not c.paid-paid.result c.loop-flow.last (sym c.lt.ensures ∙ c.if-lt.true))))

pub loop-flow-preserved : goal.loop-flow-preserved
loop-flow-preserved c =
    c.loop-flow.invariant ∙ (rise_on c.args.flows.now c.loop-flow.flow-index c.flow-item.result c.loop-flow.last c.loop-flow-test.true c.flow-item.is
    (rw (← c.paid-paid.ensures) (not_before c.paid-paid.result c.loop-flow.last (sym c.lt.ensures ∙ c.if-lt.false)))
    ∙ ap (λ (day : ℤ). rise_from day (drop (c.loop-flow.flow-index + 1) c.args.flows.now)) (sym c.paid-paid.ensures))

pub returns : goal.returns
returns c = sym (c.loop-flow.invariant ∙ rise_end c.args.flows.now c.loop-flow.flow-index _ c.loop-flow-test.false)
