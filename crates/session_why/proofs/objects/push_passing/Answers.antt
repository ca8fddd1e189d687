use Rattle.std.proofs.Common.{◌∙◌}
use Rattle.std.specs.Prelude.{codes}
use Rattle.session_why.proofs.Lined.{ends}
use Rattle.session_why.proofs.Plain.{passing_line}
use Rattle.session_why.proofs.objects.push_passing.Goals as goal

pub returns : goal.returns
returns c = λ calc.
    ends c.extend_from_slice.result _ c.push_subjects.new.out.items (codes "\n") _ c.extend_from_slice.ensures.items
    (passing_line calc c.args.session.now c.args.object c.desk.result.now c.desk.ensures _ _ _ c.in-Some.terms.now
    c.as_slice.result.now
    c.word_of.result.now (rw c.deref.ensures at c.in-Some.ensures) c.requires (c.as_slice.ensures.value ∙ c.in_ok-subjects.ensures)
    c.word_of.ensures
    c.in_ok-push_head.ensures c.in_ok-push_subjects.ensures)
