use Rattle.std.proofs.Common.{◌≡◌, ◌++◌, ◌∙◌, [], ◌∷◌, List, Option, None, length, true, sym, subst, ap, arith}
use Rattle.std.specs.Prelude.{is_some}
use Rattle.desk_terms.specs.declared.value.Value.{Value}
use Rattle.object_store.specs.Shape.{role_at}
use Rattle.object_store.specs.Store.{StoreView}
use Rattle.object_store.proofs.Kept.{live_node, length-kept, grown_kept}
use Rattle.object_store.proofs.store.Store.add.Goals as goal

pub add_watching-requires-clause-room : goal.add_watching-requires-clause-room
add_watching-requires-clause-room c =
    let l = length-kept c.self.inside.deferral.graph 0 c.self.inside.lasts.items in let v = ap (λ (s : StoreView). length s.kept) c.self.view_is in let n = c.self.invariant.0 in let r = c.requires.room in omega (arith, l, v, n, r)

pub add_watching-requires-clause-live : goal.add_watching-requires-clause-live
add_watching-requires-clause-live c = λ x a. live_node c.self.inside.deferral.graph x (subst (λ (v : StoreView). is_some (role_at v.shape x) ≡ true) (sym c.self.view_is) (c.requires.live x a))

pub returns-clause-added : goal.returns-clause-added
returns-clause-added c = rw (← c.self.view_is) (grown_kept c.self.inside.deferral.graph c.add_watching.new.self c.self.inside.lasts.items c.push_reserved.new.self.items c.self.inside.deferral.on c.args.role c.args.named.now
    (record { nodes = c.self.invariant.0; sources = c.self.invariant.1 }) c.in_ok-add_watching.ensures.ok
    (c.push_reserved.ensures.items ∙ ap (λ (l : List (Option Value)). l ++ None ∷ []) c.in_ok-reserve.ensures.items))
