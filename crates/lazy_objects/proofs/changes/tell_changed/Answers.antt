use Rattle.std.proofs.Common.{false, ℕ, ◌<◌, length, refl, sym, ◌∙◌, ap, subst}
use Rattle.std.specs.Prelude.{is_some}
use Rattle.std.proofs.lemmas.List.{length-set}
use Rattle.desk_model.specs.Effect.{notified}
use Rattle.desk_model.specs.Links.{CanTell}
use Rattle.object_store.specs.Market.{market_in, state_in}
use Rattle.object_store.specs.Shape.{registrations_of, IsJoined, role_at}
use Rattle.object_store.specs.Store.{StoreView, HasNoMarkWhereOff, stored_at}
use Rattle.object_store.proofs.Joined.{there_given}
use Rattle.object_store.proofs.Lent.{seen_with, live, outdated}
use Rattle.object_store.proofs.Telling.{notified_state, tells_shape, stored_marks}
use Rattle.lazy_objects.proofs.changes.tell_changed.Goals as goal

pub outdate-requires : goal.outdate-requires
outdate-requires c = live c.store.inside c.store.invariant c.args.store.now c.store.view_is c.args.object
    (there_given (market_in c.args.market.now) c.args.store.now.shape c.requires.joined c.args.object c.requires.live)

pub changed-requires : goal.changed-requires
changed-requires c = ap (λ (v : StoreView). is_some (role_at v.shape c.args.object)) (outdated c.store.inside c.store.invariant c.args.store.now c.store.view_is c.args.object (there_given (market_in c.args.market.now) c.args.store.now.shape c.requires.joined c.args.object c.requires.live) c.outdate.new.self c.outdate.ensures)
    ∙ there_given (market_in c.args.market.now) c.args.store.now.shape c.requires.joined c.args.object c.requires.live

pub returns-clause-state : goal.returns-clause-state
returns-clause-state c =
    let e = (outdated c.store.inside c.store.invariant c.args.store.now c.store.view_is c.args.object (there_given (market_in c.args.market.now) c.args.store.now.shape c.requires.joined c.args.object c.requires.live) c.outdate.new.self c.outdate.ensures) in
    let shape = ap (λ (v : StoreView). v.shape) e in
    let long = ap (λ (v : StoreView). length v.kept) e ∙ length-set c.args.store.now.kept c.args.object (record (stored_at c.args.store.now c.args.object) { current = false }) ∙ c.requires.kept in
    notified_state c.args.market.now.today c.args.market.now.objects (seen_with c.store.inside c.outdate.new.self) c.changed.new.self c.args.object (subst (λ (v : StoreView). CanTell (market_in c.args.market.now) (registrations_of v.shape) v.noticed) (sym e) c.requires.told)
    (subst (IsJoined (market_in c.args.market.now)) (sym shape) c.requires.joined)
    (subst (λ (n : ℕ). c.args.object < n) (sym long) c.requires.within)
    (subst HasNoMarkWhereOff (sym e) (stored_marks c.args.store.now c.args.object (record (stored_at c.args.store.now c.args.object) { current = false }) refl c.requires.sources))
    (record { switch = c.changed.ensures.switch; held = c.changed.ensures.held; told = c.changed.ensures.told })
    ∙ ap (λ (v : StoreView). notified c.args.object (state_in c.args.market.now v)) e

pub returns-clause-shape : goal.returns-clause-shape
returns-clause-shape c = tells_shape c.args.object (seen_with c.store.inside c.outdate.new.self) c.changed.new.self (record { switch = c.changed.ensures.switch; held = c.changed.ensures.held; told = c.changed.ensures.told })
    ∙ ap (λ (v : StoreView). v.shape) (outdated c.store.inside c.store.invariant c.args.store.now c.store.view_is c.args.object (there_given (market_in c.args.market.now) c.args.store.now.shape c.requires.joined c.args.object c.requires.live) c.outdate.new.self c.outdate.ensures)
