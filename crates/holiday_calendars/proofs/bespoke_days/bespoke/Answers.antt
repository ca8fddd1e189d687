use Rattle.std.proofs.Common.{ap, ◌∙◌, List, ℤ}
use Rattle.holiday_calendars.specs.declared.bases.Base.TheVariants.{Bespoke}
use Rattle.holiday_calendars.specs.Closed.{Closed, in_order}
use Rattle.holiday_calendars.proofs.ListedLemmas.{in_order-permutation}
use Rattle.holiday_calendars.proofs.bespoke_days.bespoke.Goals as goal

pub returns-clause-ok : goal.returns-clause-ok
returns-clause-ok c =
    let given = c.in_ok-days.ensures.items_if_clones_equal (λ x y e. e) ∙ c.items.ensures in
    let same = in_order-permutation _ _ c.sort_unstable.ensures.permutation ∙ ap in_order given in
    ap (λ (days : List ℤ). let closed : Closed = record { weekend = c.args.weekend; days = days } in Bespoke closed) same
