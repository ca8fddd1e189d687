use Rattle.std.proofs.Common.{◌≡◌, [], ◌∷◌, ◌++◌}
use Rattle.std.proofs.lemmas.List.Elements.{All-push}
use Rattle.flow_terms.specs.Ranges.{IsFlow}
use Rattle.cash_flow_legs.proofs.singles.forward_flow.Goals as goal

pub returns-clause-range : goal.returns-clause-range
returns-clause-range c = λ were.
    let pushed : c.push.new.self ≡ c.args.out.now ++ c.in-Some.flow ∷ [] = c.in_ok-push.ensures.ok in
    rw pushed (All-push IsFlow c.args.out.now c.in-Some.flow were c.in-Some.ensures.range)
