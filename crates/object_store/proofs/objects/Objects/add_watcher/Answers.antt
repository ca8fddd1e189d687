use Rattle.std.proofs.Common.{List, [], ◌∷◌, ◌++◌, sym, ◌∙◌, ap, subst}
use Rattle.desk_model.specs.declared.slot.Slot.{Slot}
use Rattle.desk_model.specs.declared.slot.Slot.TheVariants.{Watcher}
use Rattle.object_store.specs.Objects.{objects_of, IsBoarded}
use Rattle.object_store.proofs.Boarded.{watcher_is, watcher_boarded}
use Rattle.object_store.proofs.objects.Objects.add_watcher.Goals as goal

pub invariant_of-self-2 : goal.invariant_of-self-2
invariant_of-self-2 c =
    subst (IsBoarded c.self.inside.board) (sym (c.push_reserved.ensures.items ∙ ap (λ (l : List Slot). l ++ Watcher ∷ []) c.in_ok-reserve.ensures.items))
    (watcher_boarded c.self.inside.board c.self.inside.slots.items c.self.invariant)

pub returns-clause-made : goal.returns-clause-made
returns-clause-made c =
    ap (objects_of c.self.inside.board) (c.push_reserved.ensures.items ∙ ap (λ (l : List Slot). l ++ Watcher ∷ []) c.in_ok-reserve.ensures.items)
    ∙ watcher_is c.self.inside.board c.self.inside.slots.items c.self.invariant ∙ ap (λ (l : List Slot). l ++ Watcher ∷ []) c.self.view_is
