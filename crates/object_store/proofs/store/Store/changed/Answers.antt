use Rattle.std.proofs.Common.{◌≡◌, true, sym, subst}
use Rattle.std.specs.Prelude.{is_some}
use Rattle.object_store.specs.Shape.{role_at}
use Rattle.object_store.specs.Store.{StoreView}
use Rattle.object_store.proofs.Kept.{place_within, marked_view, notices_marked}
use Rattle.object_store.proofs.store.Store.changed.Goals as goal

pub returns-clause-held : goal.returns-clause-held
returns-clause-held c =
    let is = subst (λ (v : StoreView). is_some (role_at v.shape c.args.object) ≡ true) (sym c.self.view_is) c.requires in
    rw (← c.self.view_is) (λ on. marked_view c.self.inside.deferral.graph c.self.inside.lasts.items c.self.inside.deferral.on (record { nodes = c.self.invariant.0; sources = c.self.invariant.1 }) c.args.object is c.changed.new.self.graph c.changed.new.self.on (c.changed.ensures.held on) c.changed.ensures.on)

pub returns-clause-told : goal.returns-clause-told
returns-clause-told c =
    let is = subst (λ (v : StoreView). is_some (role_at v.shape c.args.object) ≡ true) (sym c.self.view_is) c.requires in
    rw (← c.self.view_is) (λ off. notices_marked c.self.inside.deferral.graph c.changed.new.self.graph c.self.inside.lasts.items c.self.inside.deferral.on c.changed.new.self.on (record { nodes = c.self.invariant.0; sources = c.self.invariant.1 }) c.args.object (place_within c.self.inside.deferral.graph c.self.inside.lasts.items (record { nodes = c.self.invariant.0; sources = c.self.invariant.1 }) c.args.object is) (c.changed.ensures.told off))
