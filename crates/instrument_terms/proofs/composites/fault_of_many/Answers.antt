use Rattle.std.proofs.Common.{◌≡◌, ◌∙◌, ◌+◌, sym, ap, refl, [], ◌∷◌, ◌++◌, take}
use Rattle.std.proofs.lemmas.List.{take_more}
use Rattle.desk_terms.specs.declared.terms.Part.{Part}
use Rattle.instrument_terms.proofs.PartLemmas.{first_fault_step, first_fault_done, found_first, none_first, no_marks, marks_more}
use Rattle.instrument_terms.proofs.composites.fault_of_many.Goals as goal

pub loop-at-init : goal.loop-at-init
loop-at-init c = record { marks = no_marks; due = refl }

pub returns-then-is_some : goal.returns-then-is_some
returns-then-is_some c =
    let step = first_fault_step (take c.loop-at.at c.args.parts.now) c.args.parts.now c.loop-at.at c.index-parts-at.result c.loop-at-test.true c.index-parts-at.is in
    let there = sym c.is_some.ensures ∙ c.if-is_some.true in
    sym (c.loop-at.invariant.due ∙ (step ∙ (rw (← c.fault_of_part-found.ensures) (found_first c.fault_of_part-found.result _ there))))

pub loop-at-preserved : goal.loop-at-preserved
loop-at-preserved c =
    let before = take c.loop-at.at c.args.parts.now in
    let part = c.index-parts-at.result in
    let step = first_fault_step before c.args.parts.now c.loop-at.at part c.loop-at-test.true c.index-parts-at.is in
    let none = sym c.is_some.ensures ∙ c.if-is_some.false in
    let more : take (c.loop-at.at + 1) c.args.parts.now ≡ before ++ part ∷ [] = take_more c.args.parts.now c.loop-at.at part c.loop-at-test.true ∙ ap (λ (p : Part). before ++ p ∷ []) (sym c.index-parts-at.is) in
    record {
      marks = rw (more, c.mark.ensures) (marks_more before c.loop-at.marks part c.loop-at.invariant.marks);
      due = rw more (c.loop-at.invariant.due ∙ (step ∙ rw (← c.fault_of_part-found.ensures) (none_first c.fault_of_part-found.result _ none)));
    }

pub returns : goal.returns
returns c = sym (c.loop-at.invariant.due ∙ first_fault_done (take c.loop-at.at c.args.parts.now) c.args.parts.now c.loop-at.at c.loop-at-test.false)
