use Rattle.std.proofs.Common.{◌+◌, ◌++◌, List, drop, sym, ◌∙◌, ap}
use Rattle.std.proofs.Math.ListN.{drop_of_length-le}
use Rattle.std.proofs.lemmas.List.{append-nil}
use Rattle.bump_model.specs.declared.moves.Quoted.{Quoted}
use Rattle.bump_model.specs.Moves.{quoted_in}
use Rattle.bump_ladder.proofs.Siding.{quoted_value}
use Rattle.bump_ladder.proofs.Climbing.{next_item, quote_first, quotes_rest, quoted_step}
use Rattle.bump_ladder.proofs.rungs.quoted_in.Goals as goal

pub loop-quote-init : goal.loop-quote-init
loop-quote-init c = record {
  quoted = ap (λ (l : List Quoted). l ++ quoted_in c.args.desk.now.market c.args.quotes.now) c.new-quoted.ensures.items;
  quotes = c.requires.quotes;
}

pub quote-requires : goal.quote-requires
quote-requires c =
    let steps = next_item c.args.quotes.now c.loop-quote.quote-index c.quote-item.result c.loop-quote-test.true c.quote-item.is in
    rw c.deref.ensures (quote_first _ _ _ steps c.args.desk.now.market c.loop-quote.invariant.quotes)

pub loop-quote-preserved : goal.loop-quote-preserved
loop-quote-preserved c =
    let steps = next_item c.args.quotes.now c.loop-quote.quote-index c.quote-item.result c.loop-quote-test.true c.quote-item.is in
    let m = c.args.desk.now.market in
    record {
      quoted = c.in_ok-quote_any.ensures (quoted_in m (drop (c.loop-quote.quote-index + 1) c.args.quotes.now))
          ∙ ap (λ (l : List Quoted). c.loop-quote.quoted.items ++ l)
          (sym (quoted_step _ _ _ steps m c.quote.result (quoted_value m c.quote-item.result c.quote.result (rw c.deref.ensures at c.quote.ensures))))
          ∙ c.loop-quote.invariant.quoted;
      quotes = quotes_rest _ _ _ steps m c.loop-quote.invariant.quotes;
    }

pub returns : goal.returns
returns c =
    sym (append-nil c.loop-quote.quoted.items)
    ∙ ap (λ l. c.loop-quote.quoted.items ++ quoted_in c.args.desk.now.market l) (sym (drop_of_length-le c.args.quotes.now c.loop-quote-test.false))
    ∙ c.loop-quote.invariant.quoted
