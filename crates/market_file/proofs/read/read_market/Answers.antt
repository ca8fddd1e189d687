use Rattle.std.proofs.Common.{List, ℕ, refl, sym, subst}
use Rattle.std.proofs.lemmas.Result.{err_from_is_err_and}
use Rattle.desk_terms.specs.declared.terms.Terms.{Terms}
use Rattle.market_objects.specs.Board.{HaveFlowsInRange}
use Rattle.market_file.specs.Standing.{IsReady}
use Rattle.market_file.proofs.Built.{ready, ranged, limited}
use Rattle.market_file.proofs.FirstFault.{told_first}
use Rattle.market_file.proofs.read.read_market.Goals as goal

pub returns-clause-ready : goal.returns-clause-ready
returns-clause-ready c =
    let found = c.into_parts-found.ensures in
    let flows : HaveFlowsInRange c.in_ok-today.board.made = subst HaveFlowsInRange found.made found.range in
    subst (λ (names : List (List ℕ)). IsReady names c.into_parts-found.result.1.items) (sym c.into_parts-found.ensures.names)
    (subst (λ (made : List (ℕ × Terms)). IsReady c.in_ok-today.board.names made) (sym c.into_parts-found.ensures.made)
    (ready c.args.text.now c.args.quotes.now c.args.fixings.now c.in_ok-today.today c.in_ok-today.board c.in_ok-today.ensures.board flows))

pub returns-clause-ranged : goal.returns-clause-ranged
returns-clause-ranged c = ranged _ _ (returns-clause-ready c).order

pub returns-clause-limited : goal.returns-clause-limited
returns-clause-limited c = limited _ _ (returns-clause-ready c).order

pub returns-in_err-today-clause-first : goal.returns-in_err-today-clause-first
returns-in_err-today-clause-first c =
    let p = err_from_is_err_and c.from_residual.result c.from_residual.ensures.1 in
    told_first _ _ _ _ c.in_err-today.field-0.0 (rw (p.1, p.2) refl) c.in_err-today.ensures.board
