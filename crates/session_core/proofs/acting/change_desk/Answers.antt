use Rattle.std.proofs.Common.{ap, subst, ◌∙◌}
use Rattle.desk_model.specs.Market.{slot_at}
use Rattle.session_core.specs.Allowed.{MayChange, MayDrop, MayRelink}
use Rattle.session_core.proofs.Alike.{droppable_there}
use Rattle.session_core.proofs.Linking.{handle_there, may_link, target_kinds}
use Rattle.session_core.proofs.acting.change_desk.Goals as goal

pub relink-requires-clause-handle : goal.relink-requires-clause-handle
relink-requires-clause-handle c =
    let may : MayRelink c.args.desk.now c.in-Link.handle c.in-Link.target = subst (MayChange c.args.desk.now) c.in-Link.is c.requires.may in
    handle_there c.args.desk.now.market c.in-Link.handle may.handle

pub relink-requires-clause-kinds : goal.relink-requires-clause-kinds
relink-requires-clause-kinds c =
    let may : MayRelink c.args.desk.now c.in-Link.handle c.in-Link.target = subst (MayChange c.args.desk.now) c.in-Link.is c.requires.may in
    target_kinds c.args.desk.now.market c.in-Link.handle c.in-Link.target may.target

pub relink-requires-clause-open : goal.relink-requires-clause-open
relink-requires-clause-open c =
    let may : MayRelink c.args.desk.now c.in-Link.handle c.in-Link.target = subst (MayChange c.args.desk.now) c.in-Link.is c.requires.may in
    may_link c.args.desk.now.market c.in-Link.handle c.in-Link.target may.target

pub remove-requires-clause-live : goal.remove-requires-clause-live
remove-requires-clause-live c =
    let may : MayDrop c.args.desk.now c.in-Drop.object = subst (MayChange c.args.desk.now) c.in-Drop.is c.requires.may in
    (droppable_there c.args.desk.now.market c.in-Drop.object may.taken).given

pub remove-requires-clause-apart : goal.remove-requires-clause-apart
remove-requires-clause-apart c = λ same.
    let may : MayDrop c.args.desk.now c.in-Drop.object = subst (MayChange c.args.desk.now) c.in-Drop.is c.requires.may in
    (droppable_there c.args.desk.now.market c.in-Drop.object may.taken).apart
    (ap (slot_at c.args.desk.now.market) same ∙ c.requires.today)
