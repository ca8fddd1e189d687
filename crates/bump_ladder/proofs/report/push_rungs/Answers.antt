use Rattle.std.proofs.Common.{◌≡◌, ◌++◌, ◌+◌, ◌∷◌, ℕ, List, drop, sym, ◌∙◌, ap}
use Rattle.std.proofs.Math.ListN.{drop_of_length-le}
use Rattle.std.proofs.lemmas.List.{append-nil, append_assoc, drop_more}
use Rattle.bump_model.specs.declared.ladder.Rung.{Rung}
use Rattle.bump_ladder.specs.Report.{rung_line, rung_lines}
use Rattle.bump_ladder.proofs.report.push_rungs.Goals as goal

pub loop-rung-preserved : goal.loop-rung-preserved
unfolding rung_lines
loop-rung-preserved c =
    let at = c.loop-rung.rung-index in
    let rungs = c.args.rungs.now in
    let item = c.rung-item.result in
    let names = c.args.namer.now.names.now in
    let objects = c.args.namer.now.of_object.now in
    let rest = rung_lines names objects (drop (at + 1) rungs) in
    let more : drop at rungs ≡ item ∷ drop (at + 1) rungs = drop_more rungs at item c.loop-rung-test.true ∙ ap (λ (r : Rung). r ∷ drop (at + 1) rungs) (sym c.rung-item.is) in
    ap (λ (l : List ℕ). l ++ rest) c.in_ok-push_rung.ensures
    ∙ append_assoc c.loop-rung.lines.items (rung_line names objects item) rest
    ∙ ap (λ (l : List Rung). c.loop-rung.lines.items ++ rung_lines names objects l) (sym more)
    ∙ c.loop-rung.invariant

pub returns : goal.returns
unfolding rung_lines
returns c =
    let names = c.args.namer.now.names.now in
    let objects = c.args.namer.now.of_object.now in
    sym (append-nil c.loop-rung.lines.items)
    ∙ ap (λ (l : List Rung). c.loop-rung.lines.items ++ rung_lines names objects l) (sym (drop_of_length-le c.args.rungs.now c.loop-rung-test.false))
    ∙ c.loop-rung.invariant
