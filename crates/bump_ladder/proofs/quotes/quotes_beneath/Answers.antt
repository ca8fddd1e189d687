use Rattle.std.proofs.Common.{◌+◌, ◌++◌, ◌∷◌, ℕ, Bool, List, drop, refl, sym, ◌∙◌, ap}
use Rattle.std.specs.Prelude.{cond}
use Rattle.std.proofs.Math.ListN.{drop_of_length-le}
use Rattle.std.proofs.lemmas.List.{append-nil}
use Rattle.desk_model.specs.State.{State}
use Rattle.bump_model.specs.Quotes.{stands_on, beneath}
use Rattle.bump_ladder.proofs.Climbing.{next_item}
use Rattle.bump_ladder.proofs.quotes.quotes_beneath.Goals as goal

pub loop-quote-init : goal.loop-quote-init
loop-quote-init c = record {
  found = ap (λ (l : List ℕ). l ++ beneath c.args.desk.now.market c.args.object c.args.quotes.now) c.new-found.ensures;
  same = refl;
}

pub loop-quote-preserved : goal.loop-quote-preserved
loop-quote-preserved c =
    let m = c.args.desk.now.market in
    let o = c.args.object in
    let q = c.quote-item.result in
    let rest = beneath m o (drop (c.loop-quote.quote-index + 1) c.args.quotes.now) in
    let steps = next_item c.args.quotes.now c.loop-quote.quote-index q c.loop-quote-test.true c.quote-item.is in
    record {
      found = c.in_ok-push_where.ensures rest
          ∙ ap (λ (b : Bool). c.loop-quote.found ++ cond b (q ∷ rest) rest)
          (c.reaches.ensures.answer ∙ ap (λ (s : State). stands_on s.market o q) c.loop-quote.invariant.same)
          ∙ ap (λ (l : List ℕ). c.loop-quote.found ++ beneath m o l) (sym steps)
          ∙ c.loop-quote.invariant.found;
      same = c.reaches.ensures.same ∙ c.loop-quote.invariant.same;
    }

pub returns-clause-found : goal.returns-clause-found
returns-clause-found c =
    sym (append-nil c.loop-quote.found)
    ∙ ap (λ (l : List ℕ). c.loop-quote.found ++ beneath c.args.desk.now.market c.args.object l) (sym (drop_of_length-le c.args.quotes.now c.loop-quote-test.false))
    ∙ c.loop-quote.invariant.found
