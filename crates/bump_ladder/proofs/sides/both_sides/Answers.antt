use Rattle.std.proofs.Common.{◌≡◌, sym, ◌∙◌, subst, length}
use Rattle.std.specs.Prelude.{neg_ℤ}
use Rattle.std.proofs.lemmas.Result.{err_from_is_err_and}
use Rattle.desk_terms.specs.Reading.{Calc}
use Rattle.bump_model.specs.Sides.{side_of}
use Rattle.bump_model.specs.Asking.{MadeFront, side_asking, sides_asking}
use Rattle.bump_model.proofs.Moving.{live_differ, lazy_still, differ_more}
use Rattle.bump_model.proofs.Asking.{side_same}
use Rattle.bump_model.proofs.Calls.{Did}
use Rattle.bump_ladder.proofs.Answered.{front_asks}
use Rattle.bump_ladder.proofs.Climbing.{rung_is}
use Rattle.bump_ladder.proofs.Siding.{then_ok, then_runs, then_front, first_front}
use Rattle.bump_ladder.proofs.sides.both_sides.Goals as goal

pub one_side-requires-2-clause-lazy : goal.one_side-requires-2-clause-lazy
one_side-requires-2-clause-lazy g c =
    lazy_still c.args.group.now c.args.desk.now.market c.one_side.new.desk.market c.args.object c.one_side.ensures.differ c.requires.lazy

pub one_side-requires-2-clause-live : goal.one_side-requires-2-clause-live
one_side-requires-2-clause-live g c =
    live_differ c.args.group.now c.args.desk.now.market c.one_side.new.desk.market c.one_side.ensures.differ c.requires.live

pub returns-clause-rung : goal.returns-clause-rung
returns-clause-rung g c =
    let calc : Calc = g.B.Bench.calc c.args.bench.now in
    rung_is calc c.args.size c.args.desk.now.market c.args.object c.args.base c.args.label c.args.group.now
    c.in_ok-up.up.side c.in_ok-down.down.side
    c.in_ok-up.ensures.side
    (subst (λ (k : Calc). c.in_ok-down.down.side ≡ side_of k c.one_side.new.desk.market c.args.object c.args.base
    (neg_ℤ c.args.size) c.args.group.now)
    c.one_side.ensures.same (rw c.opposite.ensures at c.in_ok-down.ensures.side)
    ∙ side_same calc c.args.object c.args.desk.now.market c.args.group.now c.requires.live c.args.base (neg_ℤ c.args.size) c.one_side.new.desk.market
    c.one_side.ensures.differ)

pub returns-clause-runs : goal.returns-clause-runs
returns-clause-runs g c =
    let calc : Calc = g.B.Bench.calc c.args.bench.now in
    then_runs (side_asking calc c.args.object c.args.size c.args.group.now c.args.desk.now) (side_asking calc c.args.object (neg_ℤ c.args.size) c.args.group.now)
    c.one_side.new.desk c.one_side-2.new.desk (g.B.Bench.count c.args.bench.now) (g.B.Bench.count c.one_side.new.bench) (g.B.Bench.count c.one_side-2.new.bench)
    (g.B.Bench.log c.args.bench.now) (g.B.Bench.log c.one_side.new.bench) (g.B.Bench.log c.one_side-2.new.bench)
    c.in_ok-up.ensures.asks c.in_ok-up.up.runs c.in_ok-down.down.runs c.in_ok-up.ensures.runs
    (subst (λ (k : Calc). c.in_ok-down.down.runs ≡ length (side_asking k c.args.object (neg_ℤ c.args.size) c.args.group.now c.one_side.new.desk).calls)
    c.one_side.ensures.same (rw c.opposite.ensures at c.in_ok-down.ensures.runs))

pub returns-clause-asks : goal.returns-clause-asks
returns-clause-asks g c =
    let calc : Calc = g.B.Bench.calc c.args.bench.now in
    then_ok (side_asking calc c.args.object c.args.size c.args.group.now c.args.desk.now) (side_asking calc c.args.object (neg_ℤ c.args.size) c.args.group.now)
    c.one_side.new.desk c.one_side-2.new.desk (g.B.Bench.count c.args.bench.now) (g.B.Bench.count c.one_side.new.bench) (g.B.Bench.count c.one_side-2.new.bench)
    (g.B.Bench.log c.args.bench.now) (g.B.Bench.log c.one_side.new.bench) (g.B.Bench.log c.one_side-2.new.bench)
    c.in_ok-up.ensures.asks
    (subst (λ (k : Calc). Did (side_asking k c.args.object (neg_ℤ c.args.size) c.args.group.now c.one_side.new.desk) c.one_side-2.new.desk (g.B.Bench.count c.one_side.new.bench)
    (g.B.Bench.count c.one_side-2.new.bench) (g.B.Bench.log c.one_side.new.bench) (g.B.Bench.log c.one_side-2.new.bench))
    c.one_side.ensures.same (rw c.opposite.ensures at c.in_ok-down.ensures.asks))

pub returns-clause-differ : goal.returns-clause-differ
returns-clause-differ g c =
    differ_more c.args.group.now c.args.desk.now.market c.one_side.new.desk.market c.one_side-2.new.desk.market c.one_side.ensures.differ
    c.one_side-2.ensures.differ

pub returns-clause-sound : goal.returns-clause-sound
returns-clause-sound g c = rw (sym c.one_side.ensures.same) c.one_side-2.ensures.sound

pub returns-in_err-up-clause-asks : goal.returns-in_err-up-clause-asks
returns-in_err-up-clause-asks g c =
    let calc : Calc = g.B.Bench.calc c.args.bench.now in
    let p = err_from_is_err_and c.from_residual.result c.from_residual.ensures.1 in
    front_asks (sides_asking calc c.args.size c.args.object c.args.group.now c.args.desk.now)
    c.from_residual.result c.one_side.new.desk (g.B.Bench.count c.args.bench.now) (g.B.Bench.count c.one_side.new.bench)
    (g.B.Bench.log c.args.bench.now) (g.B.Bench.log c.one_side.new.bench) p.0 p.1
    (first_front (side_asking calc c.args.object c.args.size c.args.group.now c.args.desk.now) (side_asking calc c.args.object (neg_ℤ c.args.size) c.args.group.now)
    (g.B.Bench.count c.args.bench.now) (g.B.Bench.count c.one_side.new.bench) (g.B.Bench.log c.args.bench.now) (g.B.Bench.log c.one_side.new.bench)
    c.in_err-up.ensures.asks)

pub returns-in_err-down-clause-asks : goal.returns-in_err-down-clause-asks
returns-in_err-down-clause-asks g c =
    let calc : Calc = g.B.Bench.calc c.args.bench.now in
    let p = err_from_is_err_and c.from_residual-in_err-down.result c.from_residual-in_err-down.ensures.1 in
    front_asks (sides_asking calc c.args.size c.args.object c.args.group.now c.args.desk.now)
    c.from_residual-in_err-down.result c.one_side-2.new.desk (g.B.Bench.count c.args.bench.now) (g.B.Bench.count c.one_side-2.new.bench)
    (g.B.Bench.log c.args.bench.now) (g.B.Bench.log c.one_side-2.new.bench) p.0 p.1
    (then_front (side_asking calc c.args.object c.args.size c.args.group.now c.args.desk.now) (side_asking calc c.args.object (neg_ℤ c.args.size) c.args.group.now)
    c.one_side.new.desk c.one_side-2.new.desk (g.B.Bench.count c.args.bench.now) (g.B.Bench.count c.one_side.new.bench) (g.B.Bench.count c.one_side-2.new.bench)
    (g.B.Bench.log c.args.bench.now) (g.B.Bench.log c.one_side.new.bench) (g.B.Bench.log c.one_side-2.new.bench)
    c.in_ok-up.ensures.asks
    (subst (λ (k : Calc). MadeFront (side_asking k c.args.object (neg_ℤ c.args.size) c.args.group.now c.one_side.new.desk).calls (g.B.Bench.count c.one_side.new.bench)
    (g.B.Bench.count c.one_side-2.new.bench) (g.B.Bench.log c.one_side.new.bench) (g.B.Bench.log c.one_side-2.new.bench))
    c.one_side.ensures.same (rw c.opposite.ensures at c.in_err-down.ensures.asks)))

pub returns-in_err-down-clause-differ : goal.returns-in_err-down-clause-differ
returns-in_err-down-clause-differ g c =
    differ_more c.args.group.now c.args.desk.now.market c.one_side.new.desk.market c.one_side-2.new.desk.market c.one_side.ensures.differ
    c.one_side-2.ensures.differ

pub returns-in_err-down-clause-sound : goal.returns-in_err-down-clause-sound
returns-in_err-down-clause-sound g c = rw (sym c.one_side.ensures.same) c.one_side-2.ensures.sound
