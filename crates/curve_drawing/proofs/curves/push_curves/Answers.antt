use Rattle.std.proofs.Common.{◌≡◌, ℕ, ◌+◌, ◌<◌, ◌≤◌, List, ◌∷◌, ◌++◌, length, get_or, drop, sym, ◌∙◌, ap, arith}
use Rattle.std.proofs.lemmas.List.{append_assoc, append-nil, drop_more, drop_all}
use Rattle.curve_drawing.specs.Lines.{Line}
use Rattle.curve_drawing.specs.declared.scale.Scale.{Scale}
use Rattle.curve_drawing.specs.Svg.{curve_text, curves_text}
use Rattle.curve_drawing.proofs.curves.push_curves.Goals as goal

module _ (names : List (List ℕ)) (of_object : List ℕ) (scale : Scale) (curves : List Line) (at : ℕ) (whole old : List ℕ) where
  -- one curve more
  curves_more : (curve : Line) (new : List ℕ) → at < length curves → curve ≡ get_or curves at curve
      → new ≡ old ++ curve_text names of_object scale at curve → whole ≡ old ++ curves_text names of_object scale at (drop at curves)
      → whole ≡ new ++ curves_text names of_object scale (at + 1) (drop (at + 1) curves)
  unfolding curves_text
  curves_more curve new within is more left =
      let rest = curves_text names of_object scale (at + 1) (drop (at + 1) curves) in
      left
      ∙ ap (λ (l : List Line). old ++ curves_text names of_object scale at l)
      (drop_more curves at curve within ∙ ap (λ (c : Line). c ∷ drop (at + 1) curves) (sym is))
      ∙ sym (append_assoc old (curve_text names of_object scale at curve) rest)
      ∙ ap (λ (l : List ℕ). l ++ rest) (sym more)

  curves_end : length curves ≤ at → whole ≡ old ++ curves_text names of_object scale at (drop at curves) → old ≡ whole
  unfolding curves_text
  curves_end past left =
      sym (left ∙ ap (λ (l : List Line). old ++ curves_text names of_object scale at l) (drop_all at curves past) ∙ append-nil old)

pub loop-at-preserved : goal.loop-at-preserved
loop-at-preserved c =
    record {
      within = let less = c.loop-at-test.true in omega (arith, less);
      lines = curves_more c.args.namer.now.names.now c.args.namer.now.of_object.now c.args.scale.now c.args.lines.now c.loop-at.at _
          c.loop-at.out.items c.index-lines-at.result c.push_curve.new.out.items c.loop-at-test.true c.index-lines-at.is
          c.in_ok-push_curve.ensures c.loop-at.invariant.lines;
    }

pub returns : goal.returns
returns c =
    curves_end c.args.namer.now.names.now c.args.namer.now.of_object.now c.args.scale.now c.args.lines.now c.loop-at.at _ c.loop-at.out.items
    c.loop-at-test.false c.loop-at.invariant.lines
