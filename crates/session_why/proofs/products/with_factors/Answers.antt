use Rattle.std.proofs.Common.{◌≡◌, ◌<◌, ◌≤◌, ◌+◌, ℤ, List, length, get_or, sym, ◌∙◌, ap, subst}
use Rattle.flow_terms.specs.declared.flows.FlowTerm.{FlowTerm}
use Rattle.cash_flow_legs.specs.declared.live_flows.Flow.{Flow}
use Rattle.cash_flow_legs.specs.Live.{is_live}
use Rattle.session_why.specs.Over.{product_over}
use Rattle.session_why.proofs.Stepping.{IsStepped, all_done, step_refused, stepped_next, stepped_past, stepped_none}
use Rattle.session_why.proofs.products.with_factors.Goals as goal
use Rattle.session_why.proofs.products.with_factors.Goals.{then-at-list+then-is_live+in-Ok+in_ok-push-in-Ok}
use Rattle.session_why.proofs.products.with_factors.Goals.{else-at-list, else-at-list-via-then-at-list+else-is_live}
use Rattle.session_why.proofs.products.with_factors.Goals.{else-at-list-via-else-at-list}

pub returns-in-Err-clause-products : goal.returns-in-Err-clause-products
returns-in-Err-clause-products c =
    let over = c.args.over.now in
    let same = c.items-term-items.ensures in
    let within = subst (λ (l : List FlowTerm). c.loop-term.term-index < length l) same c.loop-term-test.true in
    let is =
    subst (λ (l : List FlowTerm). c.term-item.result ≡ get_or l c.loop-term.term-index c.term-item.result) same
    c.term-item.is in
    let live =
    sym (c.is_live.ensures ∙ ap (λ (d : ℤ). is_live over.today d c.term-item.result) c.reference.ensures)
    ∙ c.if-is_live.true in
    step_refused over over.terms.now.flows c.loop-term.term-index c.args.list.now c.loop-term.at
    c.loop-term.products.items
    c.loop-term.invariant.worked c.term-item.result within is c.index-list-at.result c.if-at-list.true
    c.index-list-at.is live c.in-Err.field-0
    (c.in-Err.ensures ∙ ap (λ (f : Flow). product_over over c.term-item.result f.amount) (sym c.index-list-at.is))

pub loop-term-preserved : goal.loop-term-preserved
loop-term-preserved c =
    let over = c.args.over.now in
    let same = c.items-term-items.ensures in
    let within = subst (λ (l : List FlowTerm). c.loop-term.term-index < length l) same c.loop-term-test.true in
    let is =
    subst (λ (l : List FlowTerm). c.term-item.result ≡ get_or l c.loop-term.term-index c.term-item.result) same
    c.term-item.is in
    let so_far : IsStepped over c.args.list.now c.loop-term.term-index c.loop-term.at c.loop-term.products.items =
    record { worked = c.loop-term.invariant.worked; count = c.loop-term.invariant.count; at = c.loop-term.invariant.at }
    in
    elim c.if-at-list.branch [
      | then-at-list+then-is_live+in-Ok+in_ok-push-in-Ok w ↦
          let live =
          sym (w.is_live.ensures ∙ ap (λ (d : ℤ). is_live over.today d c.term-item.result) w.reference.ensures)
          ∙ w.if-is_live.true in
          let n =
          stepped_next over c.args.list.now c.loop-term.term-index c.loop-term.at c.loop-term.products.items so_far
          c.term-item.result
          within is w.index-list-at.result w.if-at-list.true w.index-list-at.is live w.in-Ok.product
          (w.in-Ok.ensures ∙ ap (λ (f : Flow). product_over over c.term-item.result f.amount) (sym w.index-list-at.is))
          w.push.new.self.items w.in_ok-push-in-Ok.ensures.items in
          rw (w.products-is, w.at-is) record { worked = n.worked; count = n.count; at = n.at }
      | else-at-list w ↦
          let n : IsStepped over c.args.list.now (c.loop-term.term-index + 1) c.loop-term.at c.loop-term.products.items
          =
          elim w.else-at-list.branch [
            | else-at-list-via-then-at-list+else-is_live v ↦
                stepped_past over c.args.list.now c.loop-term.term-index c.loop-term.at c.loop-term.products.items
                so_far c.term-item.result
                within is (sym (v.is_live.ensures ∙ ap (λ (d : ℤ). is_live over.today d c.term-item.result)
                v.reference.ensures)
                ∙ v.if-is_live.false)
            | else-at-list-via-else-at-list v ↦
                stepped_none over c.args.list.now c.loop-term.term-index c.loop-term.at c.loop-term.products.items
                so_far c.term-item.result
                within is v.if-at-list.false
          ] in
          rw (w.products-is, w.at-is) record { worked = n.worked; count = n.count; at = n.at }
    ]

pub returns-clause-products : goal.returns-clause-products
returns-clause-products c =
    let over = c.args.over.now in
    all_done over over.terms.now.flows c.loop-term.term-index c.args.list.now c.loop-term.at c.loop-term.products.items
    c.loop-term.invariant.worked
    (subst (λ (l : List FlowTerm). length l ≤ c.loop-term.term-index) c.items-term-items.ensures c.loop-term-test.false)
