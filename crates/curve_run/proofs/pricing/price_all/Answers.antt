use Rattle.std.proofs.Common.{ℕ, ◌++◌, List, refl, sym, ◌∙◌, ap, subst, Result}
use Rattle.std.proofs.lemmas.List.{drop_all}
use Rattle.std.proofs.lemmas.Result.{err_from_is_err_and}
use Rattle.curve_points.specs.Curve.{Curve}
use Rattle.desk_terms.specs.declared.cause.Cause.{Cause}
use Rattle.desk_terms.specs.Reading.{Calc}
use Rattle.desk_model.specs.Sound.{IsSound}
use Rattle.bump_model.specs.Asking.{ask_of}
use Rattle.bump_model.proofs.Each.{far_none, far_more, far_stops, far_front, far_ended}
use Rattle.bump_ladder.specs.Curves.{curve_at}
use Rattle.bump_ladder.proofs.Answered.{front_asks}
use Rattle.curve_run.specs.Pricing.{curve_in, refused_in, curves_of, refused_lines}
use Rattle.curve_drawing.proofs.Appending.{parts_more, parts_end}
use Rattle.curve_run.proofs.Asked.{next_object, first_lazy, rest_curves, value_then, curves_first, curves_last, lines_first, lines_last}
use Rattle.curve_run.proofs.pricing.price_all.Goals as goal

pub loop-object-init : goal.loop-object-init
loop-object-init g c =
    let calc = g.B.Bench.calc c.args.bench.now in
    let market = c.args.desk.now.market in
    record {
      same = refl;
      progress = far_none ask_of calc c.args.objects.now c.args.desk.now (g.B.Bench.count c.args.bench.now)
          (g.B.Bench.log c.args.bench.now);
      curves = ap (λ (l : List Curve). l ++ curves_of calc market c.args.objects.now) c.new-curves.ensures.items;
      lines = ap (λ (l : List ℕ). l ++ refused_lines calc market c.args.namer.now.names.now c.args.namer.now.of_object.now c.args.objects.now) c.new-lines.ensures.items;
      market = refl;
      are = c.requires.curves;
      sound = c.requires.sound;
      unheld = c.requires.unheld;
    }

pub curve_at-requires : goal.curve_at-requires
curve_at-requires g c =
    let steps = next_object c.args.objects.now c.loop-object.object-index c.object-item.result c.loop-object-test.true c.object-item.is in
    record {
      lazy = first_lazy _ _ _ steps c.args.desk.now.market c.loop-object.desk.market c.loop-object.invariant.market c.loop-object.invariant.are;
      sound = subst (λ (k : Calc). IsSound k c.loop-object.desk) (sym c.loop-object.invariant.same) c.loop-object.invariant.sound;
      unheld = c.loop-object.invariant.unheld;
    }

pub loop-object-preserved : goal.loop-object-preserved
loop-object-preserved g c =
    let calc = g.B.Bench.calc c.args.bench.now in
    let k = g.B.Bench.calc c.loop-object.bench in
    let market = c.args.desk.now.market in
    let objects = c.args.objects.now in
    let names = c.args.namer.now.names.now in
    let of_object = c.args.namer.now.of_object.now in
    let o = c.object-item.result in
    let i = c.loop-object.object-index in
    let s = c.loop-object.desk in
    let t = c.curve_at.new.desk in
    let steps = next_object objects i o c.loop-object-test.true c.object-item.is in
    let value = value_then calc k market s.market o c.in_ok-value.value c.loop-object.invariant.same c.loop-object.invariant.market c.in_ok-value.ensures.value in
    record {
      same = c.curve_at.ensures.same ∙ c.loop-object.invariant.same;
      progress = far_more ask_of calc _ _ k c.loop-object.invariant.same _ _ o steps s _ _ _ _ _ _
          c.loop-object.invariant.progress
          t c.in_ok-value.ensures.asks;
      curves = parts_more (λ (x : ℕ). curve_in (curve_at calc market x)) (curves_of calc market) (curves_first calc market) objects i o _ _ _ c.loop-object-test.true c.object-item.is
          (c.in_ok-keep.ensures.curves ∙ ap (λ (v : Result Curve Cause). c.loop-object.priced.curves.items ++ curve_in v) value) c.loop-object.invariant.curves;
      lines = parts_more (λ (x : ℕ). refused_in names of_object x (curve_at calc market x)) (refused_lines calc market names of_object) (lines_first calc market names of_object) objects i o _ _ _ c.loop-object-test.true c.object-item.is
          (c.in_ok-keep.ensures.lines ∙ ap (λ (v : Result Curve Cause). c.loop-object.priced.lines.items ++ refused_in names of_object o v) value) c.loop-object.invariant.lines;
      market = c.curve_at.ensures.market ∙ c.loop-object.invariant.market;
      are = rest_curves _ _ _ steps market c.loop-object.invariant.are;
      sound = subst (λ (h : Calc). IsSound h t) c.loop-object.invariant.same c.curve_at.ensures.sound;
      unheld = c.curve_at.ensures.unheld;
    }

pub returns-in_err-value-clause-asks : goal.returns-in_err-value-clause-asks
returns-in_err-value-clause-asks g c =
    let p = err_from_is_err_and c.from_residual.result c.from_residual.ensures.1 in
    let steps = next_object c.args.objects.now c.loop-object.object-index c.object-item.result c.loop-object-test.true c.object-item.is in
    front_asks _ _ _ _ _ _ _ _ p.1
    (far_front ask_of (g.B.Bench.calc c.args.bench.now) _ _ (g.B.Bench.calc c.loop-object.bench)
    c.loop-object.invariant.same _ _ c.object-item.result steps
    c.loop-object.desk _ _ _ _ _ _ c.loop-object.invariant.progress c.in_err-value.ensures.asks)

pub returns-in_err-value-clause-same : goal.returns-in_err-value-clause-same
returns-in_err-value-clause-same g c = c.curve_at.ensures.same ∙ c.loop-object.invariant.same

pub returns-in_err-keep-clause-asks : goal.returns-in_err-keep-clause-asks
returns-in_err-keep-clause-asks g c =
    let p = err_from_is_err_and c.from_residual-in_err-keep.result c.from_residual-in_err-keep.ensures.1 in
    let steps = next_object c.args.objects.now c.loop-object.object-index c.object-item.result c.loop-object-test.true c.object-item.is in
    front_asks _ _ _ _ _ _ _ _ p.1
    (far_stops ask_of (g.B.Bench.calc c.args.bench.now) _ _ (g.B.Bench.calc c.loop-object.bench)
    c.loop-object.invariant.same _ _ c.object-item.result steps
    c.loop-object.desk _ _ _ _ _ _ c.loop-object.invariant.progress c.curve_at.new.desk c.in_ok-value.ensures.asks)

pub returns-in_err-keep-clause-same : goal.returns-in_err-keep-clause-same
returns-in_err-keep-clause-same g c = c.curve_at.ensures.same ∙ c.loop-object.invariant.same

pub returns-clause-curves : goal.returns-clause-curves
returns-clause-curves g c =
    let calc = g.B.Bench.calc c.args.bench.now in
    parts_end (curves_of calc c.args.desk.now.market) (curves_last calc c.args.desk.now.market) c.args.objects.now c.loop-object.object-index _ _ c.loop-object-test.false c.loop-object.invariant.curves

pub returns-clause-lines : goal.returns-clause-lines
returns-clause-lines g c =
    let calc = g.B.Bench.calc c.args.bench.now in
    parts_end (refused_lines calc c.args.desk.now.market c.args.namer.now.names.now c.args.namer.now.of_object.now) (lines_last calc c.args.desk.now.market c.args.namer.now.names.now c.args.namer.now.of_object.now)
    c.args.objects.now c.loop-object.object-index _ _ c.loop-object-test.false c.loop-object.invariant.lines

pub returns-clause-asks : goal.returns-clause-asks
returns-clause-asks g c =
    far_ended ask_of (g.B.Bench.calc c.args.bench.now) _ _ _ c.loop-object.desk _ _ _ _ (drop_all
    c.loop-object.object-index c.args.objects.now c.loop-object-test.false)
    c.loop-object.invariant.progress
