use Rattle.std.proofs.Common.{◌≡◌, ℕ, List, [], ◌∷◌, ◌++◌, String, Global, refl, ◌∙◌, ap}
use Rattle.std.specs.Prelude.{map}
use Rattle.std.specs.String.{string_bytes}
use Rattle.desk_model.specs.Market.{Market}
use Rattle.desk_terms.specs.declared.kind.Wanted.TheVariants.{CurveTarget}
use Rattle.market_desk.specs.Standing.{object_named}
use Rattle.curve_run.specs.Named.{object_in, line_in, objects_named, lines_named}
use Rattle.curve_drawing.proofs.Appending.{parts_more, parts_end}
use Rattle.curve_run.proofs.finding.found_in.Goals as goal

module _ (market : Market) (names : List (List ℕ)) where
  abbrev object_of : String Global → List ℕ
  object_of text = object_in (object_named CurveTarget market names (string_bytes text))

  abbrev objects_of : List (String Global) → List ℕ
  objects_of texts = objects_named market names (map string_bytes texts)

  abbrev line_of : String Global → List ℕ
  line_of text = line_in (string_bytes text) (object_named CurveTarget market names (string_bytes text))

  abbrev lines_of : List (String Global) → List ℕ
  lines_of texts = lines_named market names (map string_bytes texts)

  objects_first : (text : String Global) (texts : List (String Global)) → objects_of (text ∷ texts) ≡ object_of text ++ objects_of texts
  unfolding objects_named
  objects_first text texts = refl

  lines_first : (text : String Global) (texts : List (String Global)) → lines_of (text ∷ texts) ≡ line_of text ++ lines_of texts
  unfolding lines_named
  lines_first text texts = refl

  objects_last : objects_of [] ≡ []
  unfolding objects_named
  objects_last = refl

  lines_last : lines_of [] ≡ []
  unfolding lines_named
  lines_last = refl

pub loop-text-init : goal.loop-text-init
loop-text-init c =
    let market = c.args.desk.now.market in
    let names = c.args.names.now in
    record {
      curves = ap (λ (l : List ℕ). l ++ objects_of market names c.args.texts.now) c.new-curves.ensures.items;
      lines = ap (λ (l : List ℕ). l ++ lines_of market names c.args.texts.now) c.new-lines.ensures.items;
    }

pub loop-text-preserved : goal.loop-text-preserved
loop-text-preserved c =
    let market = c.args.desk.now.market in
    let names = c.args.names.now in
    record {
      curves = parts_more (object_of market names) (objects_of market names) (objects_first market names) c.args.texts.now c.loop-text.text-index c.text-item.result _ _ _
          c.loop-text-test.true c.text-item.is
          (c.in_ok-find.ensures.curve ∙ ap (λ (b : List ℕ). c.loop-text.found.curves.items ++ object_in (object_named CurveTarget market names b)) c.as_bytes.ensures.value)
          c.loop-text.invariant.curves;
      lines = parts_more (line_of market names) (lines_of market names) (lines_first market names) c.args.texts.now c.loop-text.text-index c.text-item.result _ _ _
          c.loop-text-test.true c.text-item.is
          (c.in_ok-find.ensures.line ∙ ap (λ (b : List ℕ). c.loop-text.found.lines.items ++ line_in b (object_named CurveTarget market names b)) c.as_bytes.ensures.value)
          c.loop-text.invariant.lines;
    }

pub returns-clause-curves : goal.returns-clause-curves
returns-clause-curves c =
    let market = c.args.desk.now.market in
    let names = c.args.names.now in
    parts_end (objects_of market names) (objects_last market names) c.args.texts.now c.loop-text.text-index _ _ c.loop-text-test.false c.loop-text.invariant.curves

pub returns-clause-lines : goal.returns-clause-lines
returns-clause-lines c =
    let market = c.args.desk.now.market in
    let names = c.args.names.now in
    parts_end (lines_of market names) (lines_last market names) c.args.texts.now c.loop-text.text-index _ _ c.loop-text-test.false c.loop-text.invariant.lines
