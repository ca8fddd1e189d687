use Rattle.std.proofs.Common.{sym, subst}
use Rattle.desk_terms.specs.Reading.{Calc}
use Rattle.session_model.specs.Standing.{Standing}
use Rattle.session_core.specs.Allowed.{MayRecalc}
use Rattle.session_model.specs.Pricing.{recalculating}
use Rattle.session_core.specs.Pricing.{Prices, StopsShort}
use Rattle.session_core.proofs.Naming.{names_alike}
use Rattle.session_core.proofs.Alike.{stored_alike, recalced_alike}
use Rattle.session_core.proofs.Turns.{on_err}
use Rattle.session_core.proofs.Priced.{recalc_prices, recalc_stops, recalc_done, recalc_early}
use Rattle.session_core.proofs.session.Session.recalc.Goals as goal

pub unreachable-requires : goal.unreachable-requires
unreachable-requires g c =
    let calc : Calc = g.B.Bench.calc c.args.bench.now in
    let may = subst (λ (p : Standing). MayRecalc p.state c.args.object) (sym c.self.view_is) c.requires.may in
    recalc_early calc c.args.object c.self.inside.desk c.recalc.new.self (g.B.Bench.count c.args.bench.now)
    (g.B.Bench.count c.recalc.new.bench) (g.B.Bench.log c.args.bench.now) (g.B.Bench.log c.recalc.new.bench)
    c.in_ok-asked.field-0 c.in-Deferred.field-0 c.in-Deferred.is may.early c.in_ok-asked.ensures.ends

pub invariant_of-self : goal.invariant_of-self
invariant_of-self g c =
    let stops = c.in_err-asked.ensures.stops in
    names_alike _ c.self.inside.of_name.items c.self.inside.live c.recalc.new.self c.self.inside.stopped
    (stored_alike c.self.inside.desk c.recalc.new.self stops.front stops.state) c.self.invariant

pub returns-in_err-asked-clause-stops : goal.returns-in_err-asked-clause-stops
returns-in_err-asked-clause-stops g c =
    let calc : Calc = g.B.Bench.calc c.args.bench.now in
    let p : Standing = record {
      state = c.self.inside.desk;
      names = c.self.inside.names;
      of_object = c.self.inside.of_object;
      actions = c.self.inside.actions;
      watching = c.self.inside.watching.items;
      stopped = c.self.inside.stopped;
    } in
    on_err c.from_residual.result
    (subst (λ (q : Standing). StopsShort (recalculating calc c.args.object q.state) q
    (record p { state = c.recalc.new.self }) (g.B.Bench.count c.args.bench.now)
    (g.B.Bench.count c.recalc.new.bench) (g.B.Bench.log c.args.bench.now) (g.B.Bench.log c.recalc.new.bench))
    c.self.view_is
    (recalc_stops calc c.args.object p c.recalc.new.self (g.B.Bench.count c.args.bench.now)
    (g.B.Bench.count c.recalc.new.bench) (g.B.Bench.log c.args.bench.now) (g.B.Bench.log c.recalc.new.bench)
    c.in_err-asked.ensures.stops))

pub invariant_of-self-2 : goal.invariant_of-self-2
invariant_of-self-2 g c =
    let calc : Calc = g.B.Bench.calc c.args.bench.now in
    names_alike _ c.self.inside.of_name.items c.self.inside.live c.recalc.new.self c.self.inside.stopped
    (recalced_alike calc c.self.inside.desk c.recalc.new.self c.args.object
    (recalc_done calc c.args.object c.self.inside.desk c.recalc.new.self (g.B.Bench.count c.args.bench.now)
    (g.B.Bench.count c.recalc.new.bench) (g.B.Bench.log c.args.bench.now) (g.B.Bench.log c.recalc.new.bench)
    c.in_ok-asked.field-0 c.in-Done.asked c.in-Done.is c.in_ok-asked.ensures.ends).state)
    c.self.invariant

pub returns-clause-prices : goal.returns-clause-prices
returns-clause-prices g c =
    let calc : Calc = g.B.Bench.calc c.args.bench.now in
    let p : Standing = record {
      state = c.self.inside.desk;
      names = c.self.inside.names;
      of_object = c.self.inside.of_object;
      actions = c.self.inside.actions;
      watching = c.self.inside.watching.items;
      stopped = c.self.inside.stopped;
    } in
    subst (λ (q : Standing). Prices (recalculating calc c.args.object q.state) c.args.object q
    (record p { state = c.recalc.new.self }) c.in-Done.asked (g.B.Bench.count c.args.bench.now)
    (g.B.Bench.count c.recalc.new.bench) (g.B.Bench.log c.args.bench.now) (g.B.Bench.log c.recalc.new.bench))
    c.self.view_is
    (recalc_prices calc c.args.object p c.recalc.new.self (g.B.Bench.count c.args.bench.now)
    (g.B.Bench.count c.recalc.new.bench) (g.B.Bench.log c.args.bench.now) (g.B.Bench.log c.recalc.new.bench)
    c.in-Done.asked
    (recalc_done calc c.args.object c.self.inside.desk c.recalc.new.self (g.B.Bench.count c.args.bench.now)
    (g.B.Bench.count c.recalc.new.bench) (g.B.Bench.log c.args.bench.now) (g.B.Bench.log c.recalc.new.bench)
    c.in_ok-asked.field-0 c.in-Done.asked c.in-Done.is c.in_ok-asked.ensures.ends))
