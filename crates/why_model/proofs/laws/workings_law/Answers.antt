use Rattle.std.proofs.Common.{inl, inr, ℕ, true, refl}
use Rattle.std.specs.Prelude.{◌==◌}
use Rattle.walks.specs.Walk.{Below}
use Rattle.walks.proofs.Ranks.{meets_on}
use Rattle.std.proofs.Common.{subst}
use Rattle.desk_model.specs.State.{State}
use Rattle.why_model.specs.Laws.{RestsOn, NeedsAreListed}
use Rattle.why_model.specs.Listing.{rests_on}
use Rattle.why_model.proofs.Shown.{shown_worked, needs_rest}
use Rattle.why_model.proofs.Listed.{whole}
use Rattle.why_model.proofs.laws.workings_law.Goals as goal

-- what an object rests on that another rests on
rests_through : (s : State) (o x y : ℕ) → RestsOn s o x → Below (rests_on s) (λ z. z == y) (λ z. true) x → RestsOn s o y
rests_through s o x y (inl same) below = inr (subst (Below (rests_on s) (λ z. z == y) (λ z. true)) same below)
rests_through s o x y (inr above) below = inr (meets_on (rests_on s) (λ z. z == y) (λ z. true) x o refl below above)

needs_listed : NeedsAreListed
needs_listed s links o x y there free among =
    let l = whole s links o in
    l.every y (rests_through s o x y (l.only x there) (needs_rest s x y among free))

pub returns-clause-worked : goal.returns-clause-worked
returns-clause-worked c = λ calc s links o lazy free. shown_worked calc s links o lazy free

pub returns-clause-needs : goal.returns-clause-needs
returns-clause-needs c = needs_listed
