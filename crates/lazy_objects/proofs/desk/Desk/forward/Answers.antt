use Rattle.std.proofs.Common.{◌≡◌, true, sym, ◌∙◌, ap, subst}
use Rattle.std.specs.Prelude.{is_some}
use Rattle.observer_graph.specs.declared.node.Flags.{Flags}
use Rattle.desk_model.specs.State.{State}
use Rattle.desk_model.specs.Links.{is_lazy_at}
use Rattle.desk_model.specs.Sound.{IsSound, KeepsCurrent}
use Rattle.desk_model.specs.Effect.{forward_set}
use Rattle.object_store.specs.Market.{market_in, state_in}
use Rattle.object_store.specs.Store.{StoreView}
use Rattle.object_store.proofs.Joined.{lazy_there}
use Rattle.object_store.proofs.Lent.{seen_with, forwards}
use Rattle.lazy_objects.proofs.Flagged.{forward_left}
use Rattle.lazy_objects.proofs.Revised.{After}
use Rattle.lazy_objects.proofs.desk.Desk.forward.Goals as goal

abbrev after : goal.After-set_flags → StoreView
after c = seen_with c.store.inside c.set_flags.new.self

left : (c : goal.After-set_flags) → After (state_in c.self.inside.market c.self.inside.books.store) (state_in c.self.inside.market (after c)) (forward_set c.args.object c.args.on (state_in c.self.inside.market c.self.inside.books.store)) c.self.inside.books.scratch (after c).shape
left c =
    let is = subst (λ (t : State). is_lazy_at t.market c.args.object ≡ true) (sym c.self.view_is) c.requires.lazy in
    let there = ap is_some (lazy_there (market_in c.self.inside.market) c.self.inside.books.store.shape c.self.invariant.1 c.args.object is) in
    forward_left c.self.inside.market.today c.self.inside.market.objects c.self.inside.books.store (after c) c.self.inside.books.scratch c.self.invariant.0 c.self.invariant.1 c.args.object c.args.on is
    (forwards c.store.inside c.store.invariant c.self.inside.books.store c.store.view_is c.args.object there c.set_flags.new.self _ c.args.on c.set_flags.ensures (ap (λ (f : Flags). record f { forward = c.args.on }) c.flags-flags.ensures))

pub invariant_of-self : goal.invariant_of-self
invariant_of-self c = ((left c).changed.stands, (left c).joined)

pub returns-clause-set : goal.returns-clause-set
returns-clause-set c = (left c).changed.state ∙ ap (forward_set c.args.object c.args.on) c.self.view_is

pub returns-clause-keeps : goal.returns-clause-keeps
returns-clause-keeps c = subst (λ (t : State). KeepsCurrent t (state_in c.self.inside.market (after c))) c.self.view_is (left c).changed.keeps

pub returns-clause-sound : goal.returns-clause-sound
returns-clause-sound c calc sound = (left c).changed.sound calc (subst (IsSound calc) (sym c.self.view_is) sound)
