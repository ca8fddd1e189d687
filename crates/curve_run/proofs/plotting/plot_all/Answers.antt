use Rattle.std.proofs.Common.{◌≡◌, ℕ, ◌++◌, List, Result, refl, ◌∙◌, ap}
use Rattle.curve_points.specs.Curve.{Curve}
use Rattle.desk_terms.specs.declared.cause.Cause.{Cause}
use Rattle.curve_drawing.specs.declared.lines.Plot.{Plot}
use Rattle.curve_drawing.specs.Lines.{Line}
use Rattle.curve_drawing.proofs.Appending.{parts_more, parts_end}
use Rattle.desk_model.specs.Market.{Market}
use Rattle.desk_model.specs.State.{State}
use Rattle.curve_run.specs.Plotting.{line_at, line_in, plotted_lines, unplotted}
use Rattle.curve_run.specs.Pricing.{refused_in}
use Rattle.curve_run.proofs.plotting.plot_all.Goals as goal

-- the line of a curve, and what is written where it has none
abbrev line : Plot → Market → Curve → List Line
line plot market curve = line_in (line_at plot market curve)

abbrev refused : List (List ℕ) → List ℕ → Plot → Market → Curve → List ℕ
refused names of_object plot market curve = refused_in names of_object curve.owner (line_at plot market curve)

pub loop-curve-init : goal.loop-curve-init
loop-curve-init c = record {
  same = refl;
  lines = ap (λ (l : List Line). l ++ plotted_lines c.args.plot c.args.desk.now.market c.args.curves.now) c.new-lines.ensures.items;
  refused = ap (λ (l : List ℕ). l ++ unplotted c.args.namer.now.names.now c.args.namer.now.of_object.now c.args.plot c.args.desk.now.market c.args.curves.now)
      c.new-refused.ensures.items;
}

pub loop-curve-preserved : goal.loop-curve-preserved
unfolding plotted_lines unplotted
loop-curve-preserved c =
    let names = c.args.namer.now.names.now in
    let of_object = c.args.namer.now.of_object.now in
    let owner = c.curve-item.result.owner in
    let is : c.in_ok-line.line ≡ line_at c.args.plot c.args.desk.now.market c.curve-item.result =
    c.in_ok-line.ensures.line
    ∙ ap (λ (s : State). line_at c.args.plot s.market c.curve-item.result) c.loop-curve.invariant.same in
    record {
      same = c.line_at.ensures.same ∙ c.loop-curve.invariant.same;
      lines = parts_more (line c.args.plot c.args.desk.now.market) (plotted_lines c.args.plot c.args.desk.now.market) (λ x xs. refl) c.args.curves.now c.loop-curve.curve-index
          c.curve-item.result _ _ _ c.loop-curve-test.true c.curve-item.is
          (c.in_ok-keep.ensures.lines ∙ ap (λ (r : Result Line Cause). c.loop-curve.plotted.lines.items ++ line_in r) is)
          c.loop-curve.invariant.lines;
      refused = parts_more (refused names of_object c.args.plot c.args.desk.now.market) (unplotted names of_object c.args.plot c.args.desk.now.market) (λ x xs. refl) c.args.curves.now
          c.loop-curve.curve-index c.curve-item.result _ _ _ c.loop-curve-test.true c.curve-item.is
          (c.in_ok-keep.ensures.refused
          ∙ ap (λ (o : ℕ). c.loop-curve.plotted.refused.items ++ refused_in names of_object o c.in_ok-line.line) c.owner.ensures
          ∙ ap (λ (r : Result Line Cause). c.loop-curve.plotted.refused.items ++ refused_in names of_object owner r) is)
          c.loop-curve.invariant.refused;
    }

pub returns-clause-lines : goal.returns-clause-lines
unfolding plotted_lines
returns-clause-lines c =
    parts_end (plotted_lines c.args.plot c.args.desk.now.market) refl c.args.curves.now c.loop-curve.curve-index _ _ c.loop-curve-test.false
    c.loop-curve.invariant.lines

pub returns-clause-refused : goal.returns-clause-refused
unfolding unplotted
returns-clause-refused c =
    parts_end (unplotted c.args.namer.now.names.now c.args.namer.now.of_object.now c.args.plot c.args.desk.now.market) refl c.args.curves.now
    c.loop-curve.curve-index _ _ c.loop-curve-test.false c.loop-curve.invariant.refused
