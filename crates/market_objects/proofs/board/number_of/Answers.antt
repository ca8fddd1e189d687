use Rattle.std.proofs.Common.{◌≤◌, ◌+◌, List, ℕ, length, subst, sym}
use Rattle.market_objects.proofs.Naming.{one_more_at_most}
use Rattle.market_objects.proofs.board.number_of.Goals as goal

pub returns-in-Ok-clause-count : goal.returns-in-Ok-clause-count
returns-in-Ok-clause-count c =
    subst (λ (names : List (List ℕ)). length names ≤ length c.args.names.now + 1) (sym c.in-Ok.ensures.kept) (one_more_at_most c.args.names.now c.args.text.now)
