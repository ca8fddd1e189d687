use Rattle.std.proofs.Common.{◌≡◌, ◌≤◌, length, arith, refl, sym, ap, subst}
use Rattle.desk_model.specs.declared.entry.Entry.{Entry}
use Rattle.desk_model.specs.Market.{Market}
use Rattle.desk_model.specs.State.{State}
use Rattle.desk_model.specs.Uses.{input_at}
use Rattle.bump_model.proofs.Calls.{Did, made_none}
use Rattle.bump_ladder.specs.Curves.{curve_in, entry_asking}
use Rattle.bump_ladder.proofs.Giving.{unset_past, needs_lazy}
use Rattle.bump_ladder.proofs.curves.curve_given.Goals as goal

pub returns-then-object-numbers-clause-value : goal.returns-then-object-numbers-clause-value
returns-then-object-numbers-clause-value g c =
    let m : Market = c.args.desk.now.market in
    let past : length m.objects ≤ c.args.object =
    omega (arith, c.numbers.ensures.number, c.if-object-numbers.true, c.object.view_is) in
    sym (ap (curve_in (g.B.Bench.calc c.args.bench.now) m c.args.object) (unset_past m c.args.object past))

pub returns-then-object-numbers-clause-asks : goal.returns-then-object-numbers-clause-asks
returns-then-object-numbers-clause-asks g c =
    let m : Market = c.args.desk.now.market in
    let past : length m.objects ≤ c.args.object =
    omega (arith, c.numbers.ensures.number, c.if-object-numbers.true, c.object.view_is) in
    subst (λ (entry : Entry). Did (entry_asking (g.B.Bench.calc c.args.bench.now) entry c.args.desk.now) c.args.desk.now
    (g.B.Bench.count c.args.bench.now) (g.B.Bench.count c.args.bench.now) (g.B.Bench.log c.args.bench.now)
    (g.B.Bench.log c.args.bench.now))
    (sym (unset_past m c.args.object past))
    (refl, made_none (g.B.Bench.count c.args.bench.now) (g.B.Bench.log c.args.bench.now))

pub curve_at-requires-clause-lazy : goal.curve_at-requires-clause-lazy
curve_at-requires-clause-lazy g c =
    needs_lazy c.given.new.self.market c.args.object c.in-Needs.curve c.in_ok-curve.field-0
    (subst (λ (s : State). c.in_ok-curve.field-0 ≡ input_at s.market c.args.object) (sym c.given.ensures.same)
    c.in_ok-curve.ensures.entry) c.in-Needs.is
