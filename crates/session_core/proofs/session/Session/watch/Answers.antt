use Rattle.std.proofs.Common.{◌≡◌, ◌<◌, ℕ, ◌++◌, ◌∷◌, [], length, false, sym, subst, ap, ◌∙◌, arith}
use Rattle.std.proofs.lemmas.List.{length-set}
use Rattle.session_model.specs.Standing.{Standing, object_named, is_full}
use Rattle.session_core.proofs.Naming.{names_watched}
use Rattle.session_core.proofs.Alike.{room_of, sound_as}
use Rattle.session_core.proofs.session.Session.watch.Goals as goal

pub add_watcher-requires : goal.add_watcher-requires
add_watcher-requires c = record {
  room = (room_of c.self.inside.desk.market
      (subst (λ (q : Standing). is_full q.state.market ≡ false) (sym c.self.view_is) c.requires.room)).numbers;
}

pub overflow_add-self : goal.overflow_add-self
overflow_add-self c =
    let room = (room_of c.self.inside.desk.market
    (subst (λ (q : Standing). is_full q.state.market ≡ false) (sym c.self.view_is) c.requires.room)).live in
    omega (arith, room, c.self.invariant.living)

pub invariant_of-self-in-Ok : goal.invariant_of-self-in-Ok
invariant_of-self-in-Ok c =
    let p : Standing = record {
      state = c.self.inside.desk;
      names = c.self.inside.names;
      of_object = c.self.inside.of_object;
      actions = c.self.inside.actions;
      watching = c.self.inside.watching.items;
      stopped = c.self.inside.stopped;
    } in
    let room = (room_of c.self.inside.desk.market
    (subst (λ (q : Standing). is_full q.state.market ≡ false) (sym c.self.view_is) c.requires.room)).live in
    let named : c.args.name < length c.self.inside.names =
    subst (λ (q : Standing). c.args.name < length q.names) (sym c.self.view_is) c.requires.named in
    names_watched p c.self.inside.of_name.items c.self.inside.live c.place.result c.in-Ok.watcher
    c.add_watcher.new.self c.push.new.self _ c.self.invariant
    (omega (arith, room, c.self.invariant.living))
    (ap (object_named p) c.place.ensures ∙ ap (λ (q : Standing). object_named q c.args.name) c.self.view_is
    ∙ c.requires.free)
    (omega (arith, named, c.place.ensures)) c.in-Ok.ensures.added
    (c.in_ok-push.ensures.ok ∙ ap (λ (n : ℕ). c.self.inside.of_object ++ n ∷ []) (sym c.place.ensures))
    c.in-Ok.ensures.number (length-set _ _ _)

pub returns-in-Ok-clause-sound : goal.returns-in-Ok-clause-sound
returns-in-Ok-clause-sound c = sound_as _ c.args.self.now c.add_watcher.new.self c.self.view_is c.add_watcher.ensures.sound
