use Rattle.std.proofs.Common.{◌<◌, length, sym, ap, ◌∙◌, subst, arith, rules}
use Rattle.session_model.specs.declared.act.Change.{Change}
use Rattle.session_model.specs.Change.{changed}
use Rattle.session_model.specs.Standing.{Standing}
use Rattle.session_core.specs.Allowed.{MayChange, MayDrop}
use Rattle.session_core.proofs.Naming.{names_alike}
use Rattle.session_core.proofs.Alike.{change_alike, may_remove, names_removed, sound_as, keeps_as}
use Rattle.session_core.proofs.session.Session.apply.Goals as goal

pub change_desk-requires-clause-may : goal.change_desk-requires-clause-may
change_desk-requires-clause-may c = subst (λ (p : Standing). MayChange p.state c.args.change) (sym c.self.view_is) c.requires.may

pub index_mut-requires : goal.index_mut-requires
index_mut-requires c =
    let may : MayDrop c.args.self.now.state c.in-Drop.object = subst (MayChange c.args.self.now.state) c.in-Drop.is c.requires.may in
    let there = may_remove _ c.args.self.now c.self.inside.of_name.items c.self.inside.live c.index-items-place.result
    c.in-Drop.object c.place.result c.items.result.now c.self.invariant c.self.view_is
    may.taken
    c.items.ensures c.place.ensures c.index-items-place.is in
    let below : c.place-in-Drop.result < length c.self.inside.of_name.items = let within = there.within in
    omega (arith, within, c.place-in-Drop.ensures) in
    search (rules, below)

pub overflow_sub-self : goal.overflow_sub-self
overflow_sub-self c =
    let may : MayDrop c.args.self.now.state c.in-Drop.object = subst (MayChange c.args.self.now.state) c.in-Drop.is c.requires.may in
    (may_remove _ c.args.self.now c.self.inside.of_name.items c.self.inside.live c.index-items-place.result
    c.in-Drop.object c.place.result c.items.result.now c.self.invariant c.self.view_is
    may.taken
    c.items.ensures c.place.ensures c.index-items-place.is).living

pub invariant_of-self : goal.invariant_of-self
unfolding changed
invariant_of-self c =
    let may : MayDrop c.args.self.now.state c.in-Drop.object = subst (MayChange c.args.self.now.state) c.in-Drop.is c.requires.may in
    names_removed _ c.self.inside.of_name.items c.self.inside.live c.index-items-place.result c.place-in-Drop.result
    c.in-Drop.object c.change_desk.new.desk c.self.invariant
    (may_remove _ c.args.self.now c.self.inside.of_name.items c.self.inside.live c.index-items-place.result
    c.in-Drop.object c.place.result c.items.result.now c.self.invariant c.self.view_is
    may.taken
    c.items.ensures c.place.ensures c.index-items-place.is)
    c.place-in-Drop.ensures (c.change_desk.ensures.set ∙ ap (λ (k : Change). changed k c.self.inside.desk) c.in-Drop.is)

pub invariant_of-self-in_default : goal.invariant_of-self-in_default
invariant_of-self-in_default c =
    names_alike _ c.self.inside.of_name.items c.self.inside.live c.change_desk.new.desk c.self.inside.stopped
    (change_alike c.self.inside.desk c.change_desk.new.desk c.args.change
    (subst (λ (p : Standing). MayChange p.state c.args.change) (sym c.self.view_is) c.requires.may)
    c.in_default.not-Drop c.change_desk.ensures.set) c.self.invariant

pub returns-in-Drop-clause-sound : goal.returns-in-Drop-clause-sound
returns-in-Drop-clause-sound c = sound_as _ c.args.self.now c.change_desk.new.desk c.self.view_is c.change_desk.ensures.sound

pub returns-in-Drop-clause-keeps : goal.returns-in-Drop-clause-keeps
returns-in-Drop-clause-keeps c = keeps_as _ c.args.self.now c.change_desk.new.desk c.self.view_is c.change_desk.ensures.keeps

pub returns-in_default-clause-sound : goal.returns-in_default-clause-sound
returns-in_default-clause-sound c = sound_as _ c.args.self.now c.change_desk.new.desk c.self.view_is c.change_desk.ensures.sound

pub returns-in_default-clause-keeps : goal.returns-in_default-clause-keeps
returns-in_default-clause-keeps c = keeps_as _ c.args.self.now c.change_desk.new.desk c.self.view_is c.change_desk.ensures.keeps
