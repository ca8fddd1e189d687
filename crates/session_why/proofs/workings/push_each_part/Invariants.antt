use Rattle.std.proofs.Common.{◌≡◌, ◌++◌, drop}
use Rattle.std.specs.Prelude.{IsOk}
use Rattle.std.specs.List.{All}
use Rattle.desk_terms.specs.Parts.{IsWeight}
use Rattle.desk_model.specs.Fresh.{inputs_by}
use Rattle.desk_model.specs.State.{last_answer}
use Rattle.desk_model.specs.Uses.{member_entries}
use Rattle.session_why.specs.Lasts.{parts_by}
use Rattle.session_why.proofs.workings.push_each_part.Given as goal

-- the parts before the one at hand are written, and the others have inputs
abbrev pub invariant-loop-part : goal.invariant-loop-part
invariant-loop-part l = record {
  text : l.out.items ++ parts_by l.session l.object (drop l.part-index l.parts)
      (inputs_by (last_answer l.session.state) (member_entries (drop l.part-index l.parts)))
      ≡ l.initial.out.items ++ parts_by l.session l.object l.parts
      (inputs_by (last_answer l.session.state) (member_entries l.parts));
  inputs : IsOk (inputs_by (last_answer l.session.state) (member_entries (drop l.part-index l.parts)));
  weights : All (λ part. IsWeight part.weight) (drop l.part-index l.parts);
}
