use Rattle.std.proofs.Common.{◌≡◌, ◌∙◌, ◌-◌, ap, subst, ℕ}
use Rattle.std.specs.Prelude.{slice_get, Err}
use Rattle.std.proofs.lemmas.Result.{err_from_is_err_and}
use Rattle.market_fields.specs.Earlier.{Earlier}
use Rattle.market_tables.specs.Given.{Fails}
use Rattle.market_tables.specs.Refusals.{Refuses}
use Rattle.market_objects.specs.Fixings.{fixed_in, with_fixing_of}
use Rattle.market_objects.proofs.Passing.{passed, refused_on}
use Rattle.market_objects.proofs.board.Board.fix.Goals as goal

pub returns-in_err-fix_at-clause-board : goal.returns-in_err-fix_at-clause-board
returns-in_err-fix_at-clause-board c =
    let p = err_from_is_err_and c.from_residual.result c.from_residual.ensures.1 in
    let fault = c.in_err-fix_at.field-0.0 in
    let made = c.self.inside.made.items in
    let at : c.saturating_sub-at.result ≡ c.args.index - 1 = c.saturating_sub-at.ensures ∙ ap (λ (n : ℕ). n - 1) c.place.ensures in
    let here : Fails fault (fixed_in made (c.args.index - 1) c.args.day c.args.rate (slice_get made (c.args.index - 1))) =
    subst (λ (n : ℕ). Fails fault (fixed_in made n c.args.day c.args.rate (slice_get made n))) at c.in_err-fix_at.ensures.made in
    rw (p.1, p.2) (subst (λ (e : Earlier). Fails fault (with_fixing_of e c.args.index c.args.day c.args.rate)) c.self.view_is (passed fault _ _ here))

pub returns-in_err-fix_at-clause-told : goal.returns-in_err-fix_at-clause-told
returns-in_err-fix_at-clause-told c =
    let p = err_from_is_err_and c.from_residual.result c.from_residual.ensures.1 in
    let fault = c.in_err-fix_at.field-0.0 in
    let made = c.self.inside.made.items in
    let at : c.saturating_sub-at.result ≡ c.args.index - 1 = c.saturating_sub-at.ensures ∙ ap (λ (n : ℕ). n - 1) c.place.ensures in
    let here : Refuses (Err fault) (fixed_in made (c.args.index - 1) c.args.day c.args.rate (slice_get made (c.args.index - 1))) =
    subst (λ (n : ℕ). Refuses (Err fault) (fixed_in made n c.args.day c.args.rate (slice_get made n))) at c.in_err-fix_at.ensures.told in
    rw (p.1, p.2) (subst (λ (e : Earlier). Refuses (Err fault) (with_fixing_of e c.args.index c.args.day c.args.rate)) c.self.view_is (refused_on (Err fault) _ _ here))
