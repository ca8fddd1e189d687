use Rattle.std.proofs.Common.{◌≡◌, ℕ, ◌+◌, ◌<◌, ◌≤◌, List, ◌∷◌, ◌++◌, length, get_or, drop, sym, ◌∙◌, ap, subst, arith}
use Rattle.std.proofs.lemmas.List.{append_assoc, append-nil, drop_all}
use Rattle.std.proofs.lemmas.List.Elements.{All-get_or}
use Rattle.bump_model.specs.declared.ladder.Bump.{Bump}
use Rattle.bump_model.specs.declared.ladder.Rung.{Rung}
use Rattle.bump_ladder.proofs.Climbing.{next_item}
use Rattle.tool_risk.specs.Asking.{IsFew}
use Rattle.tool_risk.specs.Lines.{rung_rows, sum_rows_at, rungs_rows}
use Rattle.tool_risk.proofs.lines.push_rungs.Goals as goal

module _ (names : List (List ℕ)) (of_object : List ℕ) (o : ℕ) (all rungs : List Rung) (bumps : List Bump) (at : ℕ) (whole old : List ℕ) where
  -- one rung more
  rows_more : (bump : Bump) (rung : Rung) (new : List ℕ) → at < length bumps → at < length rungs
      → bump ≡ get_or bumps at bump → rung ≡ get_or rungs at rung
      → new ≡ old ++ (rung_rows names of_object o rung ++ sum_rows_at names of_object o all bump rung)
      → whole ≡ old ++ rungs_rows names of_object o all (drop at bumps) (drop at rungs)
      → whole ≡ new ++ rungs_rows names of_object o all (drop (at + 1) bumps) (drop (at + 1) rungs)
  unfolding rungs_rows
  rows_more bump rung new within there is has more left =
      let rest = rungs_rows names of_object o all (drop (at + 1) bumps) (drop (at + 1) rungs) in
      left
      ∙ ap (λ (l : List Bump). old ++ rungs_rows names of_object o all l (drop at rungs)) (next_item bumps at bump within is)
      ∙ ap (λ (l : List Rung). old ++ rungs_rows names of_object o all (bump ∷ drop (at + 1) bumps) l) (next_item rungs at rung there has)
      ∙ sym (append_assoc old (rung_rows names of_object o rung ++ sum_rows_at names of_object o all bump rung) rest)
      ∙ ap (λ (l : List ℕ). l ++ rest) (sym more)

  rows_end : length bumps ≤ at → whole ≡ old ++ rungs_rows names of_object o all (drop at bumps) (drop at rungs) → old ≡ whole
  unfolding rungs_rows
  rows_end past left =
      sym (left ∙ ap (λ (l : List Bump). old ++ rungs_rows names of_object o all l (drop at rungs)) (drop_all at bumps past) ∙ append-nil old)

pub push_bump-requires : goal.push_bump-requires
push_bump-requires c = record {
  few = subst IsFew (sym c.index-bumps-at.is) (All-get_or IsFew c.args.bumps.now c.loop-at.at c.index-bumps-at.result c.loop-at-test.true c.requires.few);
}

pub loop-at-preserved : goal.loop-at-preserved
loop-at-preserved c =
    let less = c.loop-at-test.true in
    let paired = c.requires.paired in
    record {
      within = omega (arith, less);
      lines = rows_more c.args.namer.now.names.now c.args.namer.now.of_object.now c.args.object c.args.rungs.now c.args.rungs.now c.args.bumps.now c.loop-at.at _
          c.loop-at.lines.items c.index-bumps-at.result c.index-rungs-at.result c.push_bump.new.lines.items less (omega (arith, less, paired))
          c.index-bumps-at.is c.index-rungs-at.is c.in_ok-push_bump.ensures c.loop-at.invariant.lines;
    }

pub returns : goal.returns
returns c =
    rows_end c.args.namer.now.names.now c.args.namer.now.of_object.now c.args.object c.args.rungs.now c.args.rungs.now c.args.bumps.now c.loop-at.at _
    c.loop-at.lines.items c.loop-at-test.false c.loop-at.invariant.lines
