use Rattle.std.proofs.Common.{◌≡◌, ◌≤◌, ◌+◌, ◌^◌, ◌+ℤ◌, ◌*ℤ◌, ℤ, arith, sym, ◌∙◌, ap, Some, to_z, to_z-of_z, w64, FitsSigned}
use Rattle.std.specs.Int.{w128}
use Rattle.std.specs.Int.RustNames.{unsigned_abs}
use Rattle.std.proofs.lemmas.Int.{fits_signed_from_abs}
use Rattle.desk_terms.specs.Sums.{money_in}
use Rattle.desk_model.specs.Fresh.{input_of}
use Rattle.object_store.specs.Slots.{answered}
use Rattle.ask_walk.proofs.Summing.{weight_within, has_read_more, has_read_all, ready, first, stops}
use Rattle.ask_walk.proofs.turning.next_member.Goals as goal

pub sum_with-sum-requires-clause-weight : goal.sum_with-sum-requires-clause-weight
sum_with-sum-requires-clause-weight c =
    let small = weight_within c.args.parts.now c.loop-at.at c.index-parts-at.result c.requires.range.each c.loop-at-test.true c.index-parts-at.is in
    let own : FitsSigned w64 c.index-parts-at.result.weight = fits_signed_from_abs w64 c.index-parts-at.result.weight (omega (arith, small)) in
    rw (to_z-of_z own) small

pub loop-at-preserved : goal.loop-at-preserved
loop-at-preserved c =
    let small = weight_within c.args.parts.now c.loop-at.at c.index-parts-at.result c.requires.range.each c.loop-at-test.true c.index-parts-at.is in
    let own : FitsSigned w64 c.index-parts-at.result.weight = fits_signed_from_abs w64 c.index-parts-at.result.weight (omega (arith, small)) in
    let has = c.loop-at.invariant.1 in
    let sum : ℤ = to_z w128 c.loop-at.sum-bits in
    let value : c.sum_with-sum.result ≡ sum +ℤ c.index-parts-at.result.weight *ℤ money_in (input_of c.in-Ok.value.now) =
    c.sum_with-sum.ensures.value ∙ ap (λ (w : ℤ). sum +ℤ w *ℤ money_in (input_of c.in-Ok.value.now)) (to_z-of_z own) in
    let bound : unsigned_abs c.sum_with-sum.result ≤ unsigned_abs sum + 10 ^ 32 = c.sum_with-sum.ensures.bound in
    let low = has.bound in
    let whole : FitsSigned w128 c.sum_with-sum.result = fits_signed_from_abs w128 c.sum_with-sum.result (omega (arith, bound, low, c.loop-at-test.true, c.requires.range.count)) in
    rw (to_z-of_z whole) (
      c.loop-at.invariant.0,
      has_read_more c.args.store.now.kept c.args.parts.now c.loop-at.at sum c.sum_with-sum.result c.index-parts-at.result c.in-Ok.value.now c.loop-at-test.true c.index-parts-at.is
          (sym c.answer.ensures ∙ ap answered (c.in-Some.is ∙ ap Some c.in-Ok.is)) value bound has,
    )

pub returns-in-Err-clause-next : goal.returns-in-Err-clause-next
returns-in-Err-clause-next c = stops c.args.store.now.kept c.args.parts.now c.loop-at.at _ c.index-parts-at.result c.in-Err.cause c.loop-at.invariant.1 c.loop-at-test.true c.index-parts-at.is
    (sym c.answer.ensures ∙ ap answered (c.in-Some.is ∙ ap Some c.in-Err.is))

pub returns-in-None-clause-next : goal.returns-in-None-clause-next
returns-in-None-clause-next c = first c.args.store.now.kept c.args.parts.now c.loop-at.at _ c.index-parts-at.result c.loop-at.invariant.1 c.loop-at-test.true c.index-parts-at.is
    (sym c.answer.ensures ∙ ap answered c.in-None.is)

pub returns-clause-next : goal.returns-clause-next
returns-clause-next c = ready c.args.store.now.kept c.args.parts.now c.loop-at.at _ c.loop-at-test.false c.loop-at.invariant.1

pub returns-clause-read : goal.returns-clause-read
returns-clause-read c = has_read_all c.args.store.now.kept c.args.parts.now c.loop-at.at _ c.loop-at-test.false c.loop-at.invariant.1
