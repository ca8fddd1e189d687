use Rattle.std.proofs.Common.{sym, subst, arith}
use Rattle.session_model.specs.Standing.{Standing}
use Rattle.session_core.specs.Allowed.{MayGrow}
use Rattle.session_core.proofs.Naming.{names_alike}
use Rattle.session_core.proofs.Alike.{growth_alike, sound_as}
use Rattle.session_core.proofs.session.Session.grow.Goals as goal

pub grow_desk-requires-clause-may : goal.grow_desk-requires-clause-may
grow_desk-requires-clause-may c = subst (λ (p : Standing). MayGrow p.state c.args.growth) (sym c.self.view_is) c.requires.may

pub grow_desk-requires-clause-few : goal.grow_desk-requires-clause-few
grow_desk-requires-clause-few c = let living = c.self.invariant.living in let most = c.self.invariant.few in omega (arith, living, most)

pub invariant_of-self : goal.invariant_of-self
invariant_of-self c =
    names_alike _ c.self.inside.of_name.items c.self.inside.live c.grow_desk.new.desk c.self.inside.stopped
    (growth_alike c.self.inside.desk c.grow_desk.new.desk c.args.growth c.grow_desk.result
    (subst (λ (p : Standing). MayGrow p.state c.args.growth) (sym c.self.view_is) c.requires.may)
    c.grow_desk.ensures.set c.grow_desk.ensures.same) c.self.invariant

pub returns-clause-sound : goal.returns-clause-sound
returns-clause-sound c = sound_as _ c.args.self.now c.grow_desk.new.desk c.self.view_is c.grow_desk.ensures.sound
