use Rattle.std.proofs.Common.{◌<◌, ◌≤◌, ◌^◌, ◌++◌, ℕ, List, length, sym, ◌∙◌, ap, subst}
use Rattle.std.specs.Prelude.{map}
use Rattle.desk_model.specs.State.{State}
use Rattle.bump_model.specs.declared.ladder.Bump.{Bump}
use Rattle.bump_model.specs.declared.ladder.Bump.TheVariants.{One}
use Rattle.bump_model.specs.Moves.{AreQuotes, AreBumps}
use Rattle.bump_model.specs.Quotes.{beneath}
use Rattle.tool_risk.specs.Asking.{shift_of, AreFew}
use Rattle.tool_risk.specs.Curves.{curves_in}
use Rattle.tool_risk.proofs.Shifts.{bumps_is, bumps_are, bumps_few, bumps_many}
use Rattle.tool_risk.proofs.names.bumps_of.Goals as goal

pub returns-clause-bumps : goal.returns-clause-bumps
returns-clause-bumps c =
    let m = c.args.desk.now.market in
    bumps_is m c.quotes_beneath.new.desk.market c.curves_beneath.new.desk.market c.args.object c.in_ok-below.below c.items-4.result.now c.items-3.result.now c.push_shifts.new.bumps.items
    (ap (λ (s : State). s.market) c.quotes_beneath.ensures.same)
    (ap (λ (s : State). s.market) (c.curves_beneath.ensures.same ∙ c.quotes_beneath.ensures.same))
    (c.in_ok-below.ensures.found ∙ ap (beneath m c.args.object) (c.items.ensures ∙ c.in_ok-quotes.ensures.found))
    c.items-4.ensures
    (c.items-3.ensures ∙ c.in_ok-curves.ensures.found)
    (c.in_ok-push_shifts.ensures.bumps
    ∙ ap (λ (l : List Bump). l ++ map (shift_of c.curves_beneath.new.desk.market c.items-4.result.now) c.items-3.result.now)
    (c.in_ok-bumps.ensures ∙ ap (map One) c.items-2.ensures))

pub returns-clause-are : goal.returns-clause-are
returns-clause-are c =
    let m = c.args.desk.now.market in
    subst (λ (l : List Bump). AreBumps m l) (sym (returns-clause-bumps c))
    (bumps_are m c.args.object (subst (λ (l : List ℕ). AreQuotes m l) c.in_ok-quotes.ensures.found c.in_ok-quotes.ensures.quotes))

pub returns-clause-few : goal.returns-clause-few
returns-clause-few c =
    subst AreFew (sym (returns-clause-bumps c))
    (bumps_few c.args.desk.now.market c.args.object (subst (λ (l : List ℕ). length l ≤ 2 ^ 16) c.in_ok-quotes.ensures.found c.in_ok-quotes.ensures.few))

pub returns-clause-many : goal.returns-clause-many
returns-clause-many c =
    let m = c.args.desk.now.market in
    subst (λ (l : List Bump). length l < 2 ^ 32) (sym (returns-clause-bumps c))
    (bumps_many m c.args.object (subst (λ (l : List ℕ). length l ≤ 2 ^ 16) c.in_ok-quotes.ensures.found c.in_ok-quotes.ensures.few)
    (subst (λ (l : List ℕ). length l ≤ 2 ^ 16) (c.in_ok-curves.ensures.found ∙ ap (λ (s : State). curves_in s.market c.args.object) c.quotes_beneath.ensures.same) c.in_ok-curves.ensures.few))
