use Rattle.std.proofs.Common.{◌++◌, ℕ, List, sym, ◌∙◌, ap, arith}
use Rattle.desk_model.specs.Market.{kind_at}
use Rattle.bump_model.specs.Quotes.{quote_by}
use Rattle.bump_ladder.proofs.Quoting.{quotes_next, quotes_none, are_found, few_found}
use Rattle.bump_ladder.proofs.quotes.quotes_of.Goals as goal

pub loop-number-init : goal.loop-number-init
loop-number-init c = c.new-quotes.ensures ∙ sym (quotes_none c.args.desk.now.market)

pub loop-number-preserved : goal.loop-number-preserved
loop-number-preserved c =
    let market = c.args.desk.now.market in
    let o = c.loop-number.number in
    rw (c.kind.ensures, c.deref.ensures) at c.in_ok-push_quote.ensures
    ∙ ap (λ (l : List ℕ). l ++ quote_by o (kind_at market o)) c.loop-number.invariant ∙ sym (quotes_next market o)

pub returns-clause-quotes : goal.returns-clause-quotes
returns-clause-quotes c = are_found c.args.desk.now.market _ _ c.loop-number.invariant

pub returns-clause-few : goal.returns-clause-few
returns-clause-few c =
    let end = c.loop-number.auto.number-end in let limit = c.numbers-number-end.ensures.limit in
    few_found c.args.desk.now.market _ _ c.loop-number.invariant (omega (arith, end, limit))
