use Rattle.std.proofs.Common.{◌≡◌, List, ℕ, ◌++◌, None, ap, subst}
use Rattle.std.proofs.lemmas.Result.{IfOk-equal}
use Rattle.desk_model.specs.State.{State}
use Rattle.desk_model.specs.Links.{IsWhole, IsKinded, AreRanged}
use Rattle.session_why.specs.Over.{Reads, read_curves}
use Rattle.session_why.proofs.Discounted.{nothing_there, over_fits, over_text}
use Rattle.session_why.proofs.flows.push_over.Goals as goal

pub returns-in-None : goal.returns-in-None
returns-in-None c =
    nothing_there c.args.session.now c.args.object c.requires.kind c.requires.can c.args.curves c.requires.curves
    c.args.out.now.items
    (subst (λ (s : State). read_curves s c.args.curves ≡ None) c.desk.ensures c.in-None.ensures)

pub push_products-requires : goal.push_products-requires
push_products-requires c =
    over_fits c.args.session.now c.args.object c.requires.kind c.requires.can c.args.curves c.requires.curves
    (subst (λ (s : State). IsWhole s) c.deref.ensures c.shape.ensures.whole)
    (subst (λ (s : State). IsKinded s.market) c.deref.ensures c.shape.ensures.kinds)
    (subst (λ (s : State). AreRanged s.market) c.deref.ensures c.shape.ensures.ranged)
    c.in-Some.over (subst (λ (s : State). Reads s c.args.object c.args.curves c.in-Some.over) c.desk.ensures
    c.in-Some.ensures)

pub returns-in-Some : goal.returns-in-Some
returns-in-Some c =
    IfOk-equal c.push_products.result c.push_products.new.out.items _ _ c.push_products.ensures
    (ap (λ (l : List ℕ). c.args.out.now.items ++ l)
    (over_text c.args.session.now c.args.object c.requires.kind c.requires.can c.args.curves c.requires.curves
    (subst (λ (s : State). IsWhole s) c.deref.ensures c.shape.ensures.whole)
    (subst (λ (s : State). IsKinded s.market) c.deref.ensures c.shape.ensures.kinds)
    (subst (λ (s : State). AreRanged s.market) c.deref.ensures c.shape.ensures.ranged)
    c.in-Some.over (subst (λ (s : State). Reads s c.args.object c.args.curves c.in-Some.over) c.desk.ensures
    c.in-Some.ensures)))
