use Rattle.std.proofs.Common.{◌≡◌, ◌↔◌, ◌∙◌, sym, ap, subst, ℤ, ◌+ℤ◌, List, Option, Some, Err, IfOk}
use Rattle.flow_terms.specs.declared.flows.FlowTerm.{FlowTerm}
use Rattle.bond_yield.specs.declared.bonds.YieldFault.{YieldFault}
use Rattle.bond_yield.specs.Yield.{asked_price, price_fault, fault_of, IsYield}
use Rattle.bond_yield.proofs.YieldLemmas.{fault_at, answer_is}
use Rattle.bond_yield.proofs.bonds.bond_yield.Goals as goal
use Rattle.bond_yield.proofs.bonds.bond_yield.Goals.{After-yield_at}

price_is : (c : After-yield_at) → c.sum.result ≡ asked_price c.args.flows.now.flows c.args.settle c.args.clean
price_is c = c.sum.ensures ∙ ap (λ (interest : ℤ). c.args.clean +ℤ interest) c.accrued.ensures.value

fault_is : (c : After-yield_at) → (fault : YieldFault) → (c.yield_at.result ≡ Err fault) ↔ (fault_of c.args.flows.now.flows c.args.settle c.args.clean ≡ Some fault)
fault_is c =
    let is = fault_at c.args.flows.now.flows c.args.settle c.args.clean c.sum.result (sym c.is_fixed.ensures ∙ c.if-not-is_fixed.false) (sym c.expired.ensures ∙ c.if-expired.false) (price_is c) in
    let at = subst (λ (flows : List FlowTerm). (fault : YieldFault) → (c.yield_at.result ≡ Err fault) ↔ (price_fault flows c.args.settle c.sum.result ≡ Some fault)) c.items.ensures c.yield_at.ensures.fault in
    subst (λ (found : Option YieldFault). (fault : YieldFault) → (c.yield_at.result ≡ Err fault) ↔ (found ≡ Some fault)) (sym is) at

least_at : (c : After-yield_at) → IfOk c.yield_at.result (IsYield c.args.flows.now.flows c.args.settle (asked_price c.args.flows.now.flows c.args.settle c.args.clean))
least_at c =
    subst (λ (price : ℤ). IfOk c.yield_at.result (IsYield c.args.flows.now.flows c.args.settle price)) (price_is c)
    (subst (λ (flows : List FlowTerm). IfOk c.yield_at.result (IsYield flows c.args.settle c.sum.result)) c.items.ensures c.yield_at.ensures.least)

pub returns-clause-answer : goal.returns-clause-answer
returns-clause-answer c = answer_is c.args.flows.now.flows c.args.settle c.args.clean c.yield_at.result (fault_is c) (least_at c)

pub returns-clause-fault : goal.returns-clause-fault
returns-clause-fault c = fault_is c

pub returns-clause-least : goal.returns-clause-least
returns-clause-least c = least_at c
