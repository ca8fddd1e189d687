use Rattle.std.proofs.Common.{List, [], ◌∷◌, ◌++◌, Option, None, sym, ◌∙◌, ap, subst}
use Rattle.desk_model.specs.declared.kept.Kept.{Kept}
use Rattle.desk_model.specs.declared.entry.Entry.{Entry}
use Rattle.desk_model.specs.declared.slot.Slot.{Slot}
use Rattle.desk_model.specs.State.{State, unpriced}
use Rattle.desk_model.specs.Sound.{IsSound}
use Rattle.desk_model.proofs.Starts.{sound_start}
use Rattle.lazy_objects.specs.Stands.{Stands}
use Rattle.object_store.specs.Slots.{market_of}
use Rattle.object_store.specs.Store.{registry_of}
use Rattle.object_store.specs.Shape.{IsJoined}
use Rattle.object_store.proofs.Joined.{joined_start}
use Rattle.lazy_objects.proofs.Ends.{started, start_registry, start_state, empty_none, empty_grown}
use Rattle.lazy_objects.proofs.desk.Desk.new.Goals as goal

pub invariant_of-result : goal.invariant_of-result
invariant_of-result c =
    let slots = c.in_ok-objects.ensures in
    let registry = start_registry c.new-store.result c.add.new.self c.new-store.ensures.kept c.new-store.ensures.switch c.new-store.ensures.roles c.new-store.ensures.subjects c.new-store.ensures.told c.in_ok-add.ensures.added in
    let kept = c.in_ok-add.ensures.added.kept ∙ ap (λ (l : List Kept). l ++ unpriced ∷ []) c.new-store.ensures.kept in
    let entries = c.grow.ensures.entries ∙ ap (λ (l : List (Option Entry)). l ++ None ∷ []) c.in_ok-reserve.ensures.entries in (
      subst (λ (t : State). Stands t c.grow.new.self) (sym (start_state c.args.today c.in_ok-objects.objects c.add.new.self.kept (registry_of c.add.new.self) slots kept registry))
          (started c.args.today c.grow.new.self (empty_grown 0 c.new-scratch.result c.grow.new.self (empty_none c.new-scratch.result c.new-scratch.ensures.entries c.new-scratch.ensures.touched) entries (c.grow.ensures.touched ∙ c.in_ok-reserve.ensures.touched))),
      subst (λ (l : List Slot). IsJoined (market_of c.args.today l) c.add.new.self.shape) (sym slots)
          (joined_start c.args.today c.new-store.result c.add.new.self c.new-store.ensures.kept c.new-store.ensures.roles c.new-store.ensures.subjects c.in_ok-add.ensures.added),
    )

pub returns-clause-sound : goal.returns-clause-sound
returns-clause-sound c calc =
    let slots = c.in_ok-objects.ensures in
    let registry = start_registry c.new-store.result c.add.new.self c.new-store.ensures.kept c.new-store.ensures.switch c.new-store.ensures.roles c.new-store.ensures.subjects c.new-store.ensures.told c.in_ok-add.ensures.added in
    let kept = c.in_ok-add.ensures.added.kept ∙ ap (λ (l : List Kept). l ++ unpriced ∷ []) c.new-store.ensures.kept in
    subst (IsSound calc) (sym (start_state c.args.today c.in_ok-objects.objects c.add.new.self.kept (registry_of c.add.new.self) slots kept registry)) (sound_start calc c.args.today)

pub returns-clause-start : goal.returns-clause-start
returns-clause-start c =
    let slots = c.in_ok-objects.ensures in
    let registry = start_registry c.new-store.result c.add.new.self c.new-store.ensures.kept c.new-store.ensures.switch c.new-store.ensures.roles c.new-store.ensures.subjects c.new-store.ensures.told c.in_ok-add.ensures.added in
    let kept = c.in_ok-add.ensures.added.kept ∙ ap (λ (l : List Kept). l ++ unpriced ∷ []) c.new-store.ensures.kept in
    start_state c.args.today c.in_ok-objects.objects c.add.new.self.kept (registry_of c.add.new.self) slots kept registry
