use Rattle.std.proofs.Common.{◌≡◌, ◌∙◌, ◌<◌, ℕ, zero, suc, true, List, [], ◌∷◌, length, sym, arith}
use Rattle.std.proofs.lemmas.Bool.{false≢true}
use Rattle.observer_graph.specs.Noticed.{is_at}
use Rattle.observer_graph.proofs.Numbers.{taken_out, not_there}
use Rattle.observer_graph.proofs.rising.take_out.Goals as goal

within : (numbers : List ℕ) (at number : ℕ) → is_at numbers at number ≡ true → at < length numbers
within [] zero number there = absurd (cc)
within [] (suc at) number there = absurd (cc)
within (first ∷ rest) zero number there = omega arith
within (first ∷ rest) (suc at) number there = let low = within rest at number there in omega arith

pub returns-in-Some-clause-items : goal.returns-in-Some-clause-items
returns-in-Some-clause-items c = c.in-Some.ensures.items ∙ taken_out c.args.node c.args.nodes.now.items c.place_of-at.result c.requires.rising
    c.place_of-at.ensures (sym c.is_at.ensures ∙ c.if-is_at.true)

pub unreachable-requires : goal.unreachable-requires
unreachable-requires c =
    let low = within c.args.nodes.now.items c.place_of-at.result c.args.node (sym c.is_at.ensures ∙ c.if-is_at.true) in
    let len = c.args.nodes.now.ok.0 in
    false≢true (c.in-None.ensures.variant.1 (omega (arith, low, len)))

pub returns-else-is_at-clause-items : goal.returns-else-is_at-clause-items
returns-else-is_at-clause-items c = not_there c.args.node c.args.nodes.now.items c.place_of-at.result c.requires.rising
    c.place_of-at.ensures (sym c.is_at.ensures ∙ c.if-is_at.false)
