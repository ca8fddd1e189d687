use Rattle.std.proofs.Common.{true, sym, ◌∙◌, ap, subst}
use Rattle.desk_model.specs.State.{State}
use Rattle.desk_model.specs.Sound.{IsSound, KeepsCurrent}
use Rattle.desk_model.specs.Effect.{deferred}
use Rattle.lazy_objects.proofs.Flagged.{deferred_left}
use Rattle.lazy_objects.proofs.Revised.{After}
use Rattle.object_store.specs.Market.{state_in}
use Rattle.object_store.specs.Store.{StoreView}
use Rattle.object_store.proofs.Kept.{view_of}
use Rattle.lazy_objects.proofs.desk.Desk.defer.Goals as goal

abbrev after : goal.After-defer → StoreView
after c = view_of c.defer.new.self.graph c.store.inside.lasts.items c.defer.new.self.on

left : (c : goal.After-defer) → After (state_in c.self.inside.market c.self.inside.books.store) (state_in c.self.inside.market (after c)) (deferred (state_in c.self.inside.market c.self.inside.books.store)) c.self.inside.books.scratch (after c).shape
left c = deferred_left c.self.inside.market.today c.self.inside.market.objects c.self.inside.books.store (after c) c.self.inside.books.scratch c.self.invariant.0 c.self.invariant.1
    ((λ i. view_of (c.defer.ensures.graph i) c.store.inside.lasts.items (c.defer.ensures.on i)) ∙ ap (λ (v : StoreView). record v { deferring = true }) c.store.view_is)

pub invariant_of-self : goal.invariant_of-self
invariant_of-self c = ((left c).changed.stands, (left c).joined)

pub returns-clause-set : goal.returns-clause-set
returns-clause-set c = (left c).changed.state ∙ ap (deferred) c.self.view_is

pub returns-clause-keeps : goal.returns-clause-keeps
returns-clause-keeps c = subst (λ (t : State). KeepsCurrent t (state_in c.self.inside.market (after c))) c.self.view_is (left c).changed.keeps

pub returns-clause-sound : goal.returns-clause-sound
returns-clause-sound c calc sound = (left c).changed.sound calc (subst (IsSound calc) (sym c.self.view_is) sound)
