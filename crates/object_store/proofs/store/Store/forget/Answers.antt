use Rattle.std.proofs.Common.{◌≡◌, true, sym, subst}
use Rattle.std.specs.Prelude.{is_some}
use Rattle.object_store.specs.Shape.{role_at}
use Rattle.object_store.specs.Store.{StoreView}
use Rattle.object_store.proofs.Kept.{place_within, taken_kept}
use Rattle.object_store.proofs.store.Store.forget.Goals as goal

pub returns : goal.returns
returns c =
    let is = subst (λ (v : StoreView). is_some (role_at v.shape c.args.object) ≡ true) (sym c.self.view_is) c.requires in
    rw (← c.self.view_is, c.place.ensures)
    (taken_kept c.self.inside.deferral.graph c.self.inside.lasts.items (record { nodes = c.self.invariant.0; sources = c.self.invariant.1 }) c.args.object (place_within c.self.inside.deferral.graph c.self.inside.lasts.items (record { nodes = c.self.invariant.0; sources = c.self.invariant.1 }) c.args.object is) c.remove.new.self c.self.inside.deferral.on c.remove.ensures)
