use Rattle.std.proofs.Common.{◌<◌, ◌^◌, List, [], ◌∷◌, ◌++◌, length, None, sym, ◌∙◌, ap, subst, arith}
use Rattle.std.specs.Prelude.{Option}
use Rattle.desk_model.specs.declared.entry.Entry.{Entry}
use Rattle.desk_model.specs.State.{State}
use Rattle.desk_model.specs.Sound.{IsSound, KeepsCurrent}
use Rattle.desk_model.specs.Effect.{watching}
use Rattle.desk_model.proofs.Carried.{sound_kept}
use Rattle.object_store.specs.Market.{state_in}
use Rattle.object_store.specs.Slots.{state_of}
use Rattle.object_store.specs.Store.{registry_of}
use Rattle.object_store.proofs.Joined.{joined_watcher}
use Rattle.lazy_objects.specs.Stands.{Stands}
use Rattle.lazy_objects.proofs.Ends.{empty_grown}
use Rattle.lazy_objects.proofs.Watched.{watcher_keeps, watcher_stands, watching_state}
use Rattle.lazy_objects.proofs.desk.Desk.add_watcher.Goals as goal

pub invariant_of-self-2 : goal.invariant_of-self-2
invariant_of-self-2 c =
    let s = state_in c.self.inside.market c.self.inside.books.store in
    let entries = c.grow.ensures.entries ∙ ap (λ (l : List (Option Entry)). l ++ None ∷ []) c.in_ok-reserve.ensures.entries in (
      subst (λ (t : State). Stands t c.grow.new.self) (sym (watching_state c.self.inside.market.today c.self.inside.market.objects c.add_watcher.new.self c.self.inside.books.store c.add_watcher.new.store c.self.invariant.1 c.self.invariant.0.whole.length c.in_ok-add_watcher.ensures.made c.in_ok-add_watcher.ensures.added))
          (watcher_stands s c.self.inside.books.scratch c.grow.new.self c.self.invariant.0 (subst (λ (t : State). length t.market.objects < 2 ^ 16) (sym c.self.view_is) c.requires.room)
          (empty_grown (length s.market.objects) c.self.inside.books.scratch c.grow.new.self c.self.invariant.0.empty entries (c.grow.ensures.touched ∙ c.in_ok-reserve.ensures.touched))),
      joined_watcher c.self.inside.market.today c.self.inside.market.objects c.add_watcher.new.self c.self.inside.books.store c.add_watcher.new.store c.self.invariant.1 c.self.invariant.0.whole.length
          c.in_ok-add_watcher.ensures.added c.in_ok-add_watcher.ensures.made,
    )

pub add_watcher-requires : goal.add_watcher-requires
add_watcher-requires c = let r = subst (λ (t : State). length t.market.objects < 2 ^ 16) (sym c.self.view_is) c.requires.room in let w = c.self.invariant.0.whole.length in omega (arith, r, w)

pub returns-clause-added : goal.returns-clause-added
returns-clause-added c = watching_state c.self.inside.market.today c.self.inside.market.objects c.add_watcher.new.self c.self.inside.books.store c.add_watcher.new.store c.self.invariant.1 c.self.invariant.0.whole.length c.in_ok-add_watcher.ensures.made c.in_ok-add_watcher.ensures.added
    ∙ ap watching c.self.view_is

pub returns-clause-keeps : goal.returns-clause-keeps
returns-clause-keeps c =
    let s = state_in c.self.inside.market c.self.inside.books.store in
    subst (λ (t : State). KeepsCurrent t (state_of c.self.inside.market.today c.add_watcher.new.self c.add_watcher.new.store.kept (registry_of c.add_watcher.new.store))) c.self.view_is
    (subst (KeepsCurrent s) (sym (watching_state c.self.inside.market.today c.self.inside.market.objects c.add_watcher.new.self c.self.inside.books.store c.add_watcher.new.store c.self.invariant.1 c.self.invariant.0.whole.length c.in_ok-add_watcher.ensures.made c.in_ok-add_watcher.ensures.added))
    (watcher_keeps s c.self.inside.books.scratch c.grow.new.self c.self.invariant.0).current)

pub returns-clause-sound : goal.returns-clause-sound
returns-clause-sound c calc sound =
    let s = state_in c.self.inside.market c.self.inside.books.store in
    subst (IsSound calc) (sym (watching_state c.self.inside.market.today c.self.inside.market.objects c.add_watcher.new.self c.self.inside.books.store c.add_watcher.new.store c.self.invariant.1 c.self.invariant.0.whole.length c.in_ok-add_watcher.ensures.made c.in_ok-add_watcher.ensures.added))
    (sound_kept calc s (watching s) (watcher_keeps s c.self.inside.books.scratch c.grow.new.self c.self.invariant.0).current (subst (IsSound calc) (sym c.self.view_is) sound))
