use Rattle.std.proofs.Common.{◌+◌, ℕ, List, inl, refl, drop, None, ◌∙◌, subst}
use Rattle.std.proofs.lemmas.List.{length-set}
use Rattle.object_store.specs.Scratch.{AreTouched}
use Rattle.object_store.proofs.Touched.{cleared, first_left}
use Rattle.object_store.proofs.scratch.clear_all.Goals as goal

pub clear_one-requires : goal.clear_one-requires
clear_one-requires c =
    let a = subst (λ (t : List ℕ). AreTouched c.loop-at.entries t) (first_left c.args.touched.now c.loop-at.at c.index-touched-at.result c.loop-at-test.true c.index-touched-at.is) c.loop-at.invariant.0 in
    a.within c.index-touched-at.result (inl refl)

pub loop-at-preserved : goal.loop-at-preserved
loop-at-preserved c =
    let a = subst (λ (t : List ℕ). AreTouched c.loop-at.entries t) (first_left c.args.touched.now c.loop-at.at c.index-touched-at.result c.loop-at-test.true c.index-touched-at.is) c.loop-at.invariant.0 in
    rw c.clear_one.ensures (
      cleared c.loop-at.entries (drop (c.loop-at.at + 1) c.args.touched.now) c.index-touched-at.result a,
      length-set c.loop-at.entries c.index-touched-at.result None ∙ c.loop-at.invariant.1,
    )
