use Rattle.std.proofs.Common.{sym, ◌∙◌, ap, subst, length}
use Rattle.std.proofs.lemmas.Result.{err_from_is_err_and}
use Rattle.bump_model.specs.Moves.{moved}
use Rattle.bump_model.specs.Asking.{Asking, MadeFront, side_asking}
use Rattle.bump_model.proofs.Moving.{differ_none, lazy_still}
use Rattle.bump_model.proofs.Calls.{Did}
use Rattle.bump_ladder.proofs.Answered.{front_asks}
use Rattle.bump_ladder.proofs.Siding.{limit_side, limit_runs, limit_asks, moved_asking, moved_side, moved_differs, moved_unheld, differ_then}
use Rattle.bump_ladder.proofs.sides.one_side.Goals as goal

pub returns-then-is_limit-clause-side : goal.returns-then-is_limit-clause-side
returns-then-is_limit-clause-side g c =
    limit_side (g.B.Bench.calc c.args.bench.now) c.args.object c.args.shift c.args.group.now c.args.desk.now c.args.base
    (sym c.is_limit.ensures ∙ c.if-is_limit.true)

pub returns-then-is_limit-clause-runs : goal.returns-then-is_limit-clause-runs
returns-then-is_limit-clause-runs g c =
    limit_runs (g.B.Bench.calc c.args.bench.now) c.args.object c.args.shift c.args.group.now c.args.desk.now
    (sym c.is_limit.ensures ∙ c.if-is_limit.true)

pub returns-then-is_limit-clause-asks : goal.returns-then-is_limit-clause-asks
returns-then-is_limit-clause-asks g c =
    limit_asks (g.B.Bench.calc c.args.bench.now) c.args.object c.args.shift c.args.group.now c.args.desk.now
    (g.B.Bench.count c.args.bench.now) (g.B.Bench.log c.args.bench.now) (sym c.is_limit.ensures ∙ c.if-is_limit.true)

pub returns-then-is_limit-clause-differ : goal.returns-then-is_limit-clause-differ
returns-then-is_limit-clause-differ g c = differ_none c.args.group.now c.args.desk.now.market

pub price-requires-clause-lazy : goal.price-requires-clause-lazy
price-requires-clause-lazy g c =
    lazy_still c.args.group.now c.args.desk.now.market c.move_all.new.desk.market c.args.object
    (moved_differs (moved c.args.shift) c.args.group.now c.args.desk.now c.move_all.new.desk c.requires.live c.move_all.ensures.moved)
    c.requires.lazy

pub price-requires-clause-sound : goal.price-requires-clause-sound
price-requires-clause-sound g c = c.move_all.ensures.sound (g.B.Bench.calc c.args.bench.now) c.requires.sound

pub price-requires-clause-unheld : goal.price-requires-clause-unheld
price-requires-clause-unheld g c =
    moved_unheld (moved c.args.shift) c.args.group.now c.args.desk.now c.move_all.new.desk c.move_all.ensures.moved c.requires.unheld

pub returns-clause-side : goal.returns-clause-side
returns-clause-side g c =
    c.gain.ensures
    ∙ moved_side (g.B.Bench.calc c.args.bench.now) c.args.object c.args.shift c.args.group.now c.args.desk.now c.args.base
    c.move_all.new.desk c.in_ok-priced.priced.amount c.requires.live (sym c.is_limit.ensures ∙ c.if-is_limit.false)
    c.move_all.ensures.moved c.in_ok-priced.ensures.amount

pub returns-clause-runs : goal.returns-clause-runs
returns-clause-runs g c =
    c.in_ok-priced.ensures.runs
    ∙ ap (λ (a : Asking). length a.calls)
    (moved_asking (g.B.Bench.calc c.args.bench.now) c.args.object c.args.shift c.args.group.now c.args.desk.now c.move_all.new.desk
    (sym c.is_limit.ensures ∙ c.if-is_limit.false) c.move_all.ensures.moved)

pub returns-clause-asks : goal.returns-clause-asks
returns-clause-asks g c =
    subst (λ (a : Asking). Did a c.price.new.desk (g.B.Bench.count c.args.bench.now)
    (g.B.Bench.count c.price.new.bench) (g.B.Bench.log c.args.bench.now) (g.B.Bench.log c.price.new.bench))
    (moved_asking (g.B.Bench.calc c.args.bench.now) c.args.object c.args.shift c.args.group.now c.args.desk.now c.move_all.new.desk
    (sym c.is_limit.ensures ∙ c.if-is_limit.false) c.move_all.ensures.moved)
    c.in_ok-priced.ensures.asks

pub returns-clause-differ : goal.returns-clause-differ
returns-clause-differ g c =
    differ_then c.args.group.now c.args.desk.now.market c.move_all.new.desk.market c.price.new.desk.market
    (moved_differs (moved c.args.shift) c.args.group.now c.args.desk.now c.move_all.new.desk c.requires.live c.move_all.ensures.moved)
    c.price.ensures.market

pub returns-in_err-priced-clause-asks : goal.returns-in_err-priced-clause-asks
returns-in_err-priced-clause-asks g c =
    let p = err_from_is_err_and c.from_residual.result c.from_residual.ensures.1 in
    front_asks (side_asking (g.B.Bench.calc c.args.bench.now) c.args.object c.args.shift c.args.group.now c.args.desk.now)
    c.from_residual.result c.price.new.desk (g.B.Bench.count c.args.bench.now) (g.B.Bench.count c.price.new.bench)
    (g.B.Bench.log c.args.bench.now) (g.B.Bench.log c.price.new.bench) p.0 p.1
    (subst (λ (a : Asking). MadeFront a.calls (g.B.Bench.count c.args.bench.now)
    (g.B.Bench.count c.price.new.bench) (g.B.Bench.log c.args.bench.now) (g.B.Bench.log c.price.new.bench))
    (moved_asking (g.B.Bench.calc c.args.bench.now) c.args.object c.args.shift c.args.group.now c.args.desk.now c.move_all.new.desk
    (sym c.is_limit.ensures ∙ c.if-is_limit.false) c.move_all.ensures.moved)
    c.in_err-priced.ensures.asks)

pub returns-in_err-priced-clause-differ : goal.returns-in_err-priced-clause-differ
returns-in_err-priced-clause-differ g c =
    differ_then c.args.group.now c.args.desk.now.market c.move_all.new.desk.market c.price.new.desk.market
    (moved_differs (moved c.args.shift) c.args.group.now c.args.desk.now c.move_all.new.desk c.requires.live c.move_all.ensures.moved)
    c.price.ensures.market
