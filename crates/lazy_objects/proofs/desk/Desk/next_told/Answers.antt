use Rattle.std.proofs.Common.{◌≡◌, true, [], ◌∷◌, sym, subst}
use Rattle.std.specs.Prelude.{IfSome, IfNone}
use Rattle.desk_model.specs.State.{State}
use Rattle.desk_model.specs.Sound.{IsSound, KeepsCurrent}
use Rattle.desk_model.specs.Effect.{handed_out}
use Rattle.lazy_objects.proofs.Watched.{hands_left, hands_none, hands_some, hands_is}
use Rattle.desk_model.specs.Market.{slot_at, is_watcher}
use Rattle.lazy_objects.proofs.Handed.{told_is}
use Rattle.object_store.specs.Market.{state_in}
use Rattle.object_store.specs.Store.{StoreView}
use Rattle.object_store.proofs.Kept.{view_of, none_told, some_told}
use Rattle.observer_graph.specs.Noticed.{IsRising}
use Rattle.lazy_objects.proofs.desk.Desk.next_told.Goals as goal

abbrev after : goal.After-next_told → StoreView
after c = view_of c.next_told.new.self c.store.inside.lasts.items c.store.inside.deferral.on

none : (c : goal.After-next_told) → IfNone c.next_told.result ((c.self.inside.books.store.noticed ≡ []) × (after c ≡ c.self.inside.books.store))
none c = subst (λ (v : StoreView). IfNone c.next_told.result ((v.noticed ≡ []) × (after c ≡ v))) c.store.view_is
    (none_told c.store.inside.deferral.graph c.next_told.new.self c.store.inside.lasts.items c.store.inside.deferral.on c.next_told.result c.next_told.ensures.none)

some : (c : goal.After-next_told) → IfSome c.next_told.result (λ w. (c.self.inside.books.store.noticed ≡ w ∷ (after c).noticed) × (after c ≡ record c.self.inside.books.store { noticed = (after c).noticed }))
some c = subst (λ (v : StoreView). IfSome c.next_told.result (λ w. (v.noticed ≡ w ∷ (after c).noticed) × (after c ≡ record v { noticed = (after c).noticed }))) c.store.view_is
    (some_told c.store.inside.deferral.graph c.next_told.new.self c.store.inside.lasts.items c.store.inside.deferral.on c.next_told.result c.next_told.ensures.some)

order : (c : goal.After-next_told) → IsRising c.self.inside.books.store.noticed
order c = subst (λ (v : StoreView). IsRising v.noticed) c.store.view_is c.next_told.ensures.order

pub invariant_of-self : goal.invariant_of-self
invariant_of-self c =
    let d = hands_left c.self.inside.market.today c.self.inside.market.objects c.self.inside.books.store (after c) c.self.inside.books.scratch c.self.invariant.0 c.self.invariant.1 c.next_told.result (none c) (some c) in
    (d.stands, d.joined)

pub returns-clause-none : goal.returns-clause-none
returns-clause-none c = subst (λ (s : State). IfNone c.next_told.result ((s.noticed ≡ []) × (state_in c.self.inside.market (after c) ≡ s))) c.self.view_is
    (hands_none c.self.inside.market.today c.self.inside.market.objects c.self.inside.books.store (after c) c.self.inside.books.scratch c.self.invariant.0 c.self.invariant.1 c.next_told.result (none c))

pub returns-clause-some : goal.returns-clause-some
returns-clause-some c = subst (λ (s : State). IfSome c.next_told.result (λ w. (s.noticed ≡ w ∷ (after c).noticed) × (state_in c.self.inside.market (after c) ≡ record s { noticed = (after c).noticed }))) c.self.view_is
    (hands_some c.self.inside.market.today c.self.inside.market.objects c.self.inside.books.store (after c) c.self.inside.books.scratch c.self.invariant.0 c.self.invariant.1 c.next_told.result (some c))

pub returns-clause-handed : goal.returns-clause-handed
returns-clause-handed c = subst (λ (s : State). IfSome c.next_told.result (λ w. state_in c.self.inside.market (after c) ≡ handed_out w s)) c.self.view_is
    (hands_is c.self.inside.market.today c.self.inside.market.objects c.self.inside.books.store (after c) c.self.inside.books.scratch c.self.invariant.0 c.self.invariant.1 (order c) c.next_told.result (some c))

pub returns-clause-keeps : goal.returns-clause-keeps
returns-clause-keeps c =
    let d = hands_left c.self.inside.market.today c.self.inside.market.objects c.self.inside.books.store (after c) c.self.inside.books.scratch c.self.invariant.0 c.self.invariant.1 c.next_told.result (none c) (some c) in
    subst (λ (t : State). KeepsCurrent t (state_in c.self.inside.market (after c))) c.self.view_is d.keeps

pub returns-clause-sound : goal.returns-clause-sound
returns-clause-sound c calc sound =
    let d = hands_left c.self.inside.market.today c.self.inside.market.objects c.self.inside.books.store (after c) c.self.inside.books.scratch c.self.invariant.0 c.self.invariant.1 c.next_told.result (none c) (some c) in
    d.sound calc (subst (IsSound calc) (sym c.self.view_is) sound)

pub returns-clause-watcher : goal.returns-clause-watcher
returns-clause-watcher c = subst (λ (s : State). IfSome c.next_told.result (λ w. is_watcher (slot_at s.market w) ≡ true)) c.self.view_is
    (told_is _ (state_in c.self.inside.market c.self.inside.books.store) (after c).noticed c.next_told.result c.self.invariant.0.whole
    (hands_some c.self.inside.market.today c.self.inside.market.objects c.self.inside.books.store (after c) c.self.inside.books.scratch c.self.invariant.0 c.self.invariant.1 c.next_told.result (some c)))
