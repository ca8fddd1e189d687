use Rattle.std.proofs.Common.{◌≡◌, ◌∙◌, ap, sym, subst}
use Rattle.desk_model.specs.declared.kept.Kept.{Kept}
use Rattle.observer_graph.specs.GraphView.{GraphView, flags_at}
use Rattle.observer_graph.specs.declared.node.Standing.{Standing}
use Rattle.observer_graph.specs.declared.node.Standing.TheVariants as stands
use Rattle.observer_graph.specs.Late.{StandsAs}
use Rattle.object_store.specs.Late.{IsMarkOf}
use Rattle.object_store.specs.Slots.{is_now}
use Rattle.object_store.specs.Store.{StoreView}
use Rattle.object_store.proofs.HeldBack.{mark_node, mark_as}
use Rattle.object_store.proofs.Kept.{kept_at_node}
use Rattle.object_store.proofs.store.Store.met.Goals as goal
use Rattle.object_store.proofs.store.Store.met.Goals.{in-Frozen, in-Late, in-Held, in-Clear}

pub returns-clause-mark : goal.returns-clause-mark
returns-clause-mark c = elim c.match-standing.branch [
  | in-Frozen w ↦ marked stands.Frozen w.in-Frozen.ensures.standing w.mark-is
  | in-Late w ↦ marked stands.Late w.in-Late.ensures.standing w.mark-is
  | in-Held w ↦ marked stands.Held w.in-Held.ensures.standing w.mark-is
  | in-Clear w ↦ marked stands.Clear w.in-Clear.ensures.standing w.mark-is
]
  where
    marked : (standing : Standing) → StandsAs c.self.inside.deferral.graph c.args.object standing
        → c.match-standing.mark ≡ mark_as standing → IsMarkOf c.args.self.now c.args.object c.match-standing.mark
    marked standing stands is = subst (IsMarkOf c.args.self.now c.args.object) (sym is)
        (subst (λ (v : StoreView). IsMarkOf v c.args.object (mark_as standing)) c.self.view_is
        (mark_node c.self.inside.deferral.graph c.self.inside.lasts.items c.self.inside.deferral.on
        (record { nodes = c.self.invariant.0; sources = c.self.invariant.1 }) c.args.object standing stands))

pub returns-clause-current : goal.returns-clause-current
returns-clause-current c = c.is_current.ensures
    ∙ ap (λ (g : GraphView). (flags_at g c.args.object).current) c.standing.ensures.same
    ∙ sym (ap (λ (k : Kept). k.current) (kept_at_node c.self.inside.deferral.graph c.self.inside.lasts.items
    (record { nodes = c.self.invariant.0; sources = c.self.invariant.1 }) c.args.object))
    ∙ ap (λ (v : StoreView). is_now v.kept c.args.object) c.self.view_is
