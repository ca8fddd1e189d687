use Rattle.std.proofs.Common.{List, ℕ, ◌++◌, OnOk, ◌≡◌, ◌∙◌, sym, subst}
use Rattle.tool_frame.specs.Market.{market_in}
use Rattle.tool_bond.proofs.Placed.{object_text, nothing_text}
use Rattle.tool_bond.proofs.lines.push_name.Goals as goal

pub returns-in-Some : goal.returns-in-Some
returns-in-Some g c =
    subst (λ (text : List ℕ). OnOk c.push_terms.result (c.push_terms.new.out.items ≡ c.args.out.now.items ++ text))
    (object_text g.T.BondTool.wording (market_in c.args.market.now) c.args.name.now c.args.settle c.args.clean c.in-Object.place c.deref.result.now c.deref.ensures.value
    (sym c.place_named.ensures ∙ c.in-Object.is) c.in-Some.field-0.now c.in-Some.ensures.lookup.0 c.in-Some.ensures.lookup.1)
    c.push_terms.ensures

pub returns-in-None : goal.returns-in-None
returns-in-None g c =
    subst (λ (text : List ℕ). OnOk c.push_unnamed-in-None.result (c.push_unnamed-in-None.new.out.items ≡ c.args.out.now.items ++ text))
    (nothing_text g.T.BondTool.wording (market_in c.args.market.now) c.args.name.now c.args.settle c.args.clean c.in-Object.place c.deref.result.now c.deref.ensures.value
    (sym c.place_named.ensures ∙ c.in-Object.is) c.in-None.ensures.lookup.0)
    c.push_unnamed-in-None.ensures
