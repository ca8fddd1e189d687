use Rattle.std.proofs.Common.{◌+◌, ◌++◌, ◌∷◌, [], ℕ, List, Some, drop, refl, sym, ◌∙◌, ap}
use Rattle.std.specs.Prelude.{map}
use Rattle.std.proofs.Math.ListN.{drop_of_length-le}
use Rattle.std.proofs.lemmas.List.{append-nil, append_assoc}
use Rattle.desk_model.specs.State.{State}
use Rattle.bump_model.specs.declared.ladder.Bump.{Bump}
use Rattle.bump_model.specs.declared.ladder.Bump.TheVariants.{Together}
use Rattle.bump_model.specs.Quotes.{beneath}
use Rattle.bump_ladder.proofs.Climbing.{next_item}
use Rattle.tool_risk.specs.Asking.{shift_of}
use Rattle.tool_risk.proofs.curves.push_shifts.Goals as goal

pub loop-curve-init : goal.loop-curve-init
loop-curve-init c = record { bumps = refl; same = refl }

pub loop-curve-preserved : goal.loop-curve-preserved
loop-curve-preserved c =
    let m = c.args.desk.now.market in
    let quotes = c.args.quotes.now in
    let o = c.curve-item.result in
    let rest = map (shift_of m quotes) (drop (c.loop-curve.curve-index + 1) c.args.curves.now) in
    let steps = next_item c.args.curves.now c.loop-curve.curve-index o c.loop-curve-test.true c.curve-item.is in
    record {
      bumps = ap (λ (l : List Bump). l ++ rest) c.in_ok-push.ensures.items
          ∙ append_assoc c.loop-curve.bumps.items (Together (Some o) c.in_ok-below.below ∷ []) rest
          ∙ ap (λ (l : List ℕ). c.loop-curve.bumps.items ++ Together (Some o) l ∷ rest)
          (c.in_ok-below.ensures.found ∙ ap (λ (s : State). beneath s.market o quotes) c.loop-curve.invariant.same)
          ∙ ap (λ (l : List ℕ). c.loop-curve.bumps.items ++ map (shift_of m quotes) l) (sym steps)
          ∙ c.loop-curve.invariant.bumps;
      same = c.quotes_beneath.ensures.same ∙ c.loop-curve.invariant.same;
    }

pub returns-clause-bumps : goal.returns-clause-bumps
returns-clause-bumps c =
    sym (append-nil c.loop-curve.bumps.items)
    ∙ ap (λ (l : List ℕ). c.loop-curve.bumps.items ++ map (shift_of c.args.desk.now.market c.args.quotes.now) l) (sym (drop_of_length-le c.args.curves.now c.loop-curve-test.false))
    ∙ c.loop-curve.invariant.bumps
