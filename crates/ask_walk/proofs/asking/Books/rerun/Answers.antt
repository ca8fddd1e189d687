use Rattle.std.proofs.Common.{Bool, ◌∙◌, ap}
use Rattle.ask_walk.specs.Recalcs.{refused_as}
use Rattle.ask_walk.proofs.Announced.{is_done}
use Rattle.ask_walk.proofs.asking.Books.rerun.Goals as goal

pub returns-clause-recalcs : goal.returns-clause-recalcs
returns-clause-recalcs g c = (is_done (g.B.Bench.calc c.args.bench.now) c.args.market.now.today c.args.market.now.objects c.args.self.now.store c.reprice.new.self.store c.outdate_refused.new.store c.changed.new.self c.args.object c.in_ok-answer.answer
    (g.B.Bench.count c.args.bench.now) (g.B.Bench.count c.reprice.new.bench) (g.B.Bench.log c.args.bench.now) (g.B.Bench.log c.reprice.new.bench) c.requires.may c.requires.early c.requires.joined
    c.in_ok-answer.ensures.reprices c.reprice.ensures.shape c.reprice.ensures.registry (c.outdate_refused.ensures ∙ ap (λ (b : Bool). refused_as c.args.object b c.reprice.new.self.store) c.is_some.ensures)
    (record { switch = c.changed.ensures.switch; held = c.changed.ensures.held; told = c.changed.ensures.told })).recalcs

pub returns-clause-stays : goal.returns-clause-stays
returns-clause-stays g c = (is_done (g.B.Bench.calc c.args.bench.now) c.args.market.now.today c.args.market.now.objects c.args.self.now.store c.reprice.new.self.store c.outdate_refused.new.store c.changed.new.self c.args.object c.in_ok-answer.answer
    (g.B.Bench.count c.args.bench.now) (g.B.Bench.count c.reprice.new.bench) (g.B.Bench.log c.args.bench.now) (g.B.Bench.log c.reprice.new.bench) c.requires.may c.requires.early c.requires.joined
    c.in_ok-answer.ensures.reprices c.reprice.ensures.shape c.reprice.ensures.registry (c.outdate_refused.ensures ∙ ap (λ (b : Bool). refused_as c.args.object b c.reprice.new.self.store) c.is_some.ensures)
    (record { switch = c.changed.ensures.switch; held = c.changed.ensures.held; told = c.changed.ensures.told })).stays
