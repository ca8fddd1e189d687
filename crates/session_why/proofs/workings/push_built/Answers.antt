use Rattle.std.proofs.Common.{◌∙◌, ◌<◌, ℕ, List, length, sym, ap, subst}
use Rattle.std.specs.List.{All}
use Rattle.desk_model.specs.Market.{terms_at}
use Rattle.desk_model.specs.Uses.{input_at}
use Rattle.desk_model.specs.State.{State, kept_at}
use Rattle.desk_model.specs.Links.{IsWhole}
use Rattle.session_model.specs.Standing.{Standing}
use Rattle.why_model.specs.Answer.{named, node_rates_text}
use Rattle.session_why.specs.Lasts.{quotes_in, rates_by, nodes_in, nodes_with}
use Rattle.session_why.proofs.Alike.{lent}
use Rattle.session_why.proofs.Lined.{text_as}
use Rattle.session_why.proofs.Building.{quotes_within, nodes_worked}
use Rattle.session_why.proofs.workings.push_built.Goals as goal

pub rates_of-requires : goal.rates_of-requires
rates_of-requires c =
    let p : Standing = c.args.session.now in
    let o = c.args.object in
    let are = c.as_slice.ensures.value ∙ c.in_ok-quotes.ensures ∙ ap (λ (t : State). quotes_in (terms_at t.market o)) c.desk.ensures in
    let within = subst (λ (l : List ℕ). All (λ quote. quote < length p.state.market.objects) l) (sym are)
    (quotes_within p.state.market o (subst IsWhole c.deref.ensures c.shape.ensures.whole).links c.requires.kind) in
    record { within = subst (λ (q : Standing). All (λ quote. quote < length q.state.market.objects) c.as_slice.result.now) (sym c.session.view_is) within }

pub returns-clause-text : goal.returns-clause-text
returns-clause-text c =
    let p : Standing = c.args.session.now in
    let o = c.args.object in
    let nodes = c.nodes_of-nodes.result.now in
    let quotes = c.as_slice-2.result.now in
    let rates = c.as_slice-3.result.now in
    let then = lent c.rates_of.new.desk _ p c.session.view_is c.rates_of.ensures.same in
    text_as c.push_node_rates.result _ _ _ _ c.push_node_rates.ensures
    (ap (λ (q : Standing). node_rates_text q (named q o) (nodes_with nodes quotes rates)) then
    ∙ nodes_worked p o c.requires.kind c.requires.can nodes quotes rates
    (c.nodes_of-nodes.ensures ∙ ap (λ (t : State). nodes_in (kept_at t o).last) c.desk-2.ensures
    ∙ ap (λ (q : Standing). nodes_in (kept_at q.state o).last) then)
    (c.as_slice-2.ensures.value ∙ c.in_ok-quotes.ensures ∙ ap (λ (t : State). quotes_in (terms_at t.market o)) c.desk.ensures)
    (c.as_slice-3.ensures.value ∙ c.in_ok-rates.ensures.rates
    ∙ ap (λ (q : Standing). rates_by (input_at q.state.market) c.as_slice.result.now) c.session.view_is
    ∙ ap (rates_by (input_at p.state.market)) (c.as_slice.ensures.value ∙ sym c.as_slice-2.ensures.value)))
