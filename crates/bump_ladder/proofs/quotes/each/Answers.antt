use Rattle.std.proofs.Common.{◌+◌, ◌++◌, ◌∷◌, [], ℕ, List, drop, sym, ◌∙◌, ap}
use Rattle.std.specs.Prelude.{map}
use Rattle.std.proofs.Math.ListN.{drop_of_length-le}
use Rattle.std.proofs.lemmas.List.{append-nil, append_assoc}
use Rattle.bump_model.specs.declared.ladder.Bump.{Bump}
use Rattle.bump_model.specs.declared.ladder.Bump.TheVariants.{One}
use Rattle.bump_ladder.proofs.Climbing.{next_item}
use Rattle.bump_ladder.proofs.quotes.each.Goals as goal

pub loop-quote-init : goal.loop-quote-init
loop-quote-init c = ap (λ (l : List Bump). l ++ map One c.args.quotes.now) c.new-bumps.ensures.items

pub loop-quote-preserved : goal.loop-quote-preserved
loop-quote-preserved c =
    let q = c.quote-item.result in
    let rest = drop (c.loop-quote.quote-index + 1) c.args.quotes.now in
    let steps = next_item c.args.quotes.now c.loop-quote.quote-index q c.loop-quote-test.true c.quote-item.is in
    ap (λ (l : List Bump). l ++ map One rest) c.in_ok-push.ensures.items
    ∙ append_assoc c.loop-quote.bumps.items (One q ∷ []) (map One rest)
    ∙ ap (λ (l : List ℕ). c.loop-quote.bumps.items ++ map One l) (sym steps)
    ∙ c.loop-quote.invariant

pub returns : goal.returns
returns c =
    sym (append-nil c.loop-quote.bumps.items)
    ∙ ap (λ (l : List ℕ). c.loop-quote.bumps.items ++ map One l) (sym (drop_of_length-le c.args.quotes.now c.loop-quote-test.false))
    ∙ c.loop-quote.invariant
