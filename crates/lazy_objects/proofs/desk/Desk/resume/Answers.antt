use Rattle.std.proofs.Common.{◌≡◌, true, false, sym, ◌∙◌, ap, subst}
use Rattle.desk_model.specs.State.{State}
use Rattle.desk_model.specs.Sound.{IsSound, KeepsCurrent}
use Rattle.desk_model.specs.Effect.{resumed}
use Rattle.object_store.specs.Market.{state_in}
use Rattle.object_store.specs.Store.{StoreView, Notices}
use Rattle.object_store.proofs.Kept.{view_of, notices}
use Rattle.lazy_objects.proofs.Flagged.{resumed_left}
use Rattle.lazy_objects.proofs.Revised.{After}
use Rattle.lazy_objects.proofs.desk.Desk.resume.Goals as goal

abbrev after : goal.After-resume → StoreView
after c = view_of c.resume.new.self.graph c.store.inside.lasts.items c.resume.new.self.on

left : (c : goal.After-resume) → After (state_in c.self.inside.market c.self.inside.books.store) (state_in c.self.inside.market (after c)) (resumed (state_in c.self.inside.market c.self.inside.books.store)) c.self.inside.books.scratch (after c).shape
left c =
    let s = c.store.inside in
    let r = c.resume.ensures in
    resumed_left c.self.inside.market.today c.self.inside.market.objects c.self.inside.books.store (after c) c.self.inside.books.scratch c.self.invariant.0 c.self.invariant.1 r.on
    (subst (λ (v : StoreView). v.deferring ≡ true → Notices v (after c)) c.store.view_is
    (λ on. notices s.deferral.graph c.resume.new.self.graph s.lasts.items s.deferral.on c.resume.new.self.on (record { nodes = c.store.invariant.0; sources = c.store.invariant.1 }) (r.told on)))
    (subst (λ (v : StoreView). v.deferring ≡ false → after c ≡ v) c.store.view_is
    (λ off. (λ i. view_of (r.same off i) s.lasts.items ((r.on ∙ sym off) i))))

pub invariant_of-self : goal.invariant_of-self
invariant_of-self c = ((left c).changed.stands, (left c).joined)

pub returns-clause-set : goal.returns-clause-set
returns-clause-set c = (left c).changed.state ∙ ap resumed c.self.view_is

pub returns-clause-keeps : goal.returns-clause-keeps
returns-clause-keeps c = subst (λ (t : State). KeepsCurrent t (state_in c.self.inside.market (after c))) c.self.view_is (left c).changed.keeps

pub returns-clause-sound : goal.returns-clause-sound
returns-clause-sound c calc sound = (left c).changed.sound calc (subst (IsSound calc) (sym c.self.view_is) sound)
