use Rattle.std.proofs.Common.{ℤ, sym, ap, ◌∙◌, Option}
use Rattle.std.specs.Prelude.{option_copied}
use Rattle.flow_terms.specs.declared.indexes.IndexUse.{IndexUse}
use Rattle.cash_flow_legs.specs.Amount.{views_of}
use Rattle.cash_flow_legs.specs.Live.{live_flows}
use Rattle.session_why.proofs.Found.{given_cause, products_refused}
use Rattle.session_why.proofs.products.products_of.Goals as goal

pub returns-in-Err-Refused-clause-products : goal.returns-in-Err-Refused-clause-products
returns-in-Err-Refused-clause-products c =
    sym (products_refused c.args.over.now c.in-Err-Refused.field-0-0
    (sym (ap (λ (i : Option IndexUse). live_flows (views_of i) c.args.over.now.today
    c.args.over.now.discount.now.reference
    (option_copied c.args.over.now.forecast) c.args.over.now.object c.args.over.now.terms.now.flows)
    c.as_ref.ensures.value)
    ∙ sym (ap (λ (d : ℤ). live_flows (views_of (option_copied c.as_ref.result)) c.args.over.now.today d
    (option_copied c.args.over.now.forecast) c.args.over.now.object c.args.over.now.terms.now.flows)
    c.reference.ensures)
    ∙ given_cause _ c.in-Err-Refused.field-0 c.in-Err-Refused.field-0-0 c.in-Err-Refused.field-0-is
    c.in-Err-Refused.ensures.given))
