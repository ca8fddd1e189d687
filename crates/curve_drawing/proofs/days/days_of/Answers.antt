use Rattle.std.proofs.Common.{◌≡◌, ◌++◌, ℤ, List, [], ◌∷◌, refl, subst, arith}
use Rattle.std.specs.Prelude.{IfOk}
use Rattle.curve_drawing.proofs.Daily.{days_more, days_done, days_end}
use Rattle.curve_drawing.proofs.days.days_of.Goals as goal

pub returns-in-None : goal.returns-in-None
returns-in-None c =
    let old = c.loop-more.days.items in
    subst (λ (l : List ℤ). IfOk c.with_last.result (λ days. days.items ≡ l))
    (days_done c.args.start c.args.last c.args.every c.loop-more.months c.loop-more.more c.loop-more-test.true old
    (old ++ c.args.last ∷ []) _ c.in-None.ensures refl c.loop-more.invariant.days)
    c.with_last.ensures

pub loop-more-preserved : goal.loop-more-preserved
loop-more-preserved c =
    let some = c.loop-more-test.true in
    let few = c.loop-more.invariant.few in
    let each = c.requires in
    record {
      few = omega (arith, some, few, each);
      days = days_more c.args.start c.args.last c.args.every c.loop-more.months c.loop-more.more some c.in-Some.day
          c.loop-more.days.items _ _ c.in-Some.ensures c.in_ok-push-in-Some.ensures.items c.loop-more.invariant.days;
    }

pub returns : goal.returns
returns c =
    let old = c.loop-more.days.items in
    subst (λ (l : List ℤ). IfOk c.with_last-2.result (λ days. days.items ≡ l))
    (days_end c.args.start c.args.last c.args.every c.loop-more.months c.loop-more.more old (old ++ c.args.last ∷ []) _
    c.loop-more-test.false refl c.loop-more.invariant.days)
    c.with_last-2.ensures
