use Rattle.std.proofs.Common.{◌≡◌, ◌∙◌, ◌+◌, ◌<◌, ℕ, false, None, List, Option, ap, refl, sym, subst, arith}
use Rattle.std.specs.Prelude.{is_none}
use Rattle.link_table.specs.declared.links.Link.{Link}
use Rattle.link_table.specs.Links.{FitsBut, IsHolder, free_count, target_at}
use Rattle.link_table.proofs.Maps.{changes_set, holder_within}
use Rattle.link_table.proofs.Counting.{count_removed, free_most, free_some, none_is, one_if}
use Rattle.link_table.proofs.Fitting.{fits_but}
use Rattle.link_table.proofs.links.Links.remove.Goals as goal

pub recounted-self-inside-requires-clause-some : goal.recounted-self-inside-requires-clause-some
recounted-self-inside-requires-clause-some c = λ none.
    let some = free_some c.args.self.now c.args.holder c.requires (ap is_none (sym c.target-held.ensures) ∙ none_is c.target-held.result c.is_none.result c.is_none.ensures ∙ none) in
    let same = ap free_count c.self.view_is in let count = c.self.invariant in omega arith

pub invariant_of-self : goal.invariant_of-self
invariant_of-self c = count_removed c.self.inside.links.items c.place.result c.args.holder
    c.recounted-self-inside.result c.self.inside.free c.place.ensures
    (subst (λ (l : List (Option Link)). IsHolder l c.args.holder) (sym c.self.view_is) c.requires)
    c.self.invariant
    (let was : one_if (is_none (target_at c.self.inside.links.items c.args.holder)) ≡ one_if c.is_none.result =
    ap (λ (l : List (Option Link)). one_if (is_none (target_at l c.args.holder))) c.self.view_is
    ∙ ap (λ (t : Option ℕ). one_if (is_none t)) (sym c.target-held.ensures)
    ∙ ap one_if (none_is c.target-held.result c.is_none.result c.is_none.ensures) in
    let e = c.recounted-self-inside.ensures in omega arith)

pub returns-clause-fit : goal.returns-clause-fit
returns-clause-fit c = λ graph fits.
    fits_but c.self.inside.links.items c.place.result c.args.holder graph c.place.ensures
    (changes_set c.self.inside.links.items c.self.inside.links.items c.place.result c.args.holder None c.place.ensures
    (holder_within c.self.inside.links.items c.args.holder
    (subst (λ (l : List (Option Link)). IsHolder l c.args.holder) (sym c.self.view_is) c.requires))
    (λ h. refl))
    (subst (λ (l : List (Option Link)). FitsBut c.args.holder l graph) (sym c.self.view_is) fits)

pub recounted-self-inside-requires-clause-room : goal.recounted-self-inside-requires-clause-room
recounted-self-inside-requires-clause-room c =
    let most = free_most c.self.inside.links.items in let count = c.self.invariant in
    let len = c.self.inside.links.ok.0 in let held = c.self.inside.links.ok.1 in let small = c.self.inside.links.small in
    omega arith
