use Rattle.std.proofs.Common.{◌≡◌, ◌∙◌, List, Some, refl, sym, ap, subst}
use Rattle.std.specs.List.{All}
use Rattle.desk_terms.specs.declared.terms.Part.{Part}
use Rattle.desk_terms.specs.declared.terms.Terms.TheVariants.{Composite}
use Rattle.desk_terms.specs.Parts.{IsWeight}
use Rattle.desk_model.specs.Market.{terms_at}
use Rattle.desk_model.specs.State.{State}
use Rattle.desk_model.specs.Links.{AreRanged}
use Rattle.object_store.specs.Objects.{bare}
use Rattle.session_why.proofs.Told.{told}
use Rattle.session_why.proofs.Building.{parts_weighed}
use Rattle.session_why.proofs.workings.push_parts.Goals as goal

pub push_each_part-requires-clause-weights : goal.push_each_part-requires-clause-weights
push_each_part-requires-clause-weights c =
    let s : State = c.args.session.now.state in
    let o = c.args.object in
    let parts : List Part = c.in-Some-Composite.parts in
    let given : Some (Composite parts) ≡ bare (terms_at c.desk.result.now.market o) =
    rw c.deref-2.ensures at (rw c.in-Some-Composite.field-0-is at c.in-Some-Composite.ensures) in
    let are =
    told (terms_at s.market o) (Composite parts) refl
    (given ∙ ap (λ (t : State). bare (terms_at t.market o)) c.desk.ensures) in
    subst (λ (l : List Part). All (λ part. IsWeight part.weight) l) (sym c.items.ensures)
    (parts_weighed c.args.session.now o parts are
    (subst (λ (t : State). AreRanged t.market) c.deref.ensures c.shape.ensures.ranged))
