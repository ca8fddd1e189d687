use Rattle.std.proofs.Common.{refl}
use Rattle.desk_terms.specs.Reading.{Calc}
use Rattle.session_core.proofs.Turns.{make_carries, watch_carries, change_carries, growth_carries, ends_at_once, on_ok, on_err_of, loud}
use Rattle.session_core.proofs.session.Session.carry_out.Goals as goal

pub returns-in-Ok-clause-steps : goal.returns-in-Ok-clause-steps
returns-in-Ok-clause-steps g c =
    let calc : Calc = g.B.Bench.calc c.args.bench.now in
    rw c.in-Make.is (make_carries calc c.in-Make.name c.in-Make.terms c.args.self.now c.add.new.self
    c.args.lines.now.items (g.B.Bench.count c.args.bench.now) (g.B.Bench.log c.args.bench.now) c.in-Ok.ensures.made)

pub returns-in-Ok-clause-sound : goal.returns-in-Ok-clause-sound
returns-in-Ok-clause-sound g c = c.add.ensures.sound (g.B.Bench.calc c.args.bench.now) c.requires.sound

pub returns-in-Err-clause-stops : goal.returns-in-Err-clause-stops
returns-in-Err-clause-stops g c =
    ends_at_once _ _ c.args.self.now c.add.new.self c.args.lines.now.items c.args.lines.now.items
    (g.B.Bench.count c.args.bench.now) (g.B.Bench.log c.args.bench.now) c.in-Err.ensures.err refl

pub returns-in-Err-clause-ends : goal.returns-in-Err-clause-ends
returns-in-Err-clause-ends g c = loud _ _ c.in-Make.is refl

pub returns-in-Watch-clause-steps : goal.returns-in-Watch-clause-steps
returns-in-Watch-clause-steps g c =
    let calc : Calc = g.B.Bench.calc c.args.bench.now in
    on_ok c.watch.result (λ is. rw c.in-Watch.is (watch_carries calc c.in-Watch.name c.in-Watch.action c.args.self.now
    c.watch.new.self c.args.lines.now.items (g.B.Bench.count c.args.bench.now) (g.B.Bench.log c.args.bench.now) is))
    c.watch.ensures.made

pub returns-in-Watch-clause-stops : goal.returns-in-Watch-clause-stops
returns-in-Watch-clause-stops g c =
    on_err_of c.watch.result
    (λ same. ends_at_once _ _ c.args.self.now c.watch.new.self c.args.lines.now.items c.args.lines.now.items
    (g.B.Bench.count c.args.bench.now) (g.B.Bench.log c.args.bench.now) same refl) c.watch.ensures.err

pub returns-in-Watch-clause-ends : goal.returns-in-Watch-clause-ends
returns-in-Watch-clause-ends g c = loud _ _ c.in-Watch.is refl

pub returns-in-Watch-clause-sound : goal.returns-in-Watch-clause-sound
returns-in-Watch-clause-sound g c = c.watch.ensures.sound (g.B.Bench.calc c.args.bench.now) c.requires.sound

pub returns-in-Quiet-clause-steps : goal.returns-in-Quiet-clause-steps
returns-in-Quiet-clause-steps g c =
    let calc : Calc = g.B.Bench.calc c.args.bench.now in
    rw c.in-Quiet.is (change_carries calc c.in-Quiet.change c.args.self.now c.apply.new.self
    c.args.lines.now.items (g.B.Bench.count c.args.bench.now) (g.B.Bench.log c.args.bench.now) c.apply.ensures.set)

pub returns-in-Quiet-clause-sound : goal.returns-in-Quiet-clause-sound
returns-in-Quiet-clause-sound g c = c.apply.ensures.sound (g.B.Bench.calc c.args.bench.now) c.requires.sound

pub returns-in-Grow-clause-steps : goal.returns-in-Grow-clause-steps
returns-in-Grow-clause-steps g c =
    let calc : Calc = g.B.Bench.calc c.args.bench.now in
    on_ok c.grow.result (λ is. rw c.in-Grow.is (growth_carries calc c.in-Grow.growth c.args.self.now c.grow.new.self
    c.args.lines.now.items (g.B.Bench.count c.args.bench.now) (g.B.Bench.log c.args.bench.now) is))
    c.grow.ensures.set

pub returns-in-Grow-clause-stops : goal.returns-in-Grow-clause-stops
returns-in-Grow-clause-stops g c =
    on_err_of c.grow.result
    (λ same. ends_at_once _ _ c.args.self.now c.grow.new.self c.args.lines.now.items c.args.lines.now.items
    (g.B.Bench.count c.args.bench.now) (g.B.Bench.log c.args.bench.now) same refl) c.grow.ensures.err

pub returns-in-Grow-clause-ends : goal.returns-in-Grow-clause-ends
returns-in-Grow-clause-ends g c = loud _ _ c.in-Grow.is refl

pub returns-in-Grow-clause-sound : goal.returns-in-Grow-clause-sound
returns-in-Grow-clause-sound g c = c.grow.ensures.sound (g.B.Bench.calc c.args.bench.now) c.requires.sound

pub returns-in-Price-clause-ends : goal.returns-in-Price-clause-ends
returns-in-Price-clause-ends g c = loud _ _ c.in-Price.is refl
