use Rattle.std.proofs.Common.{◌≡◌, ◌++◌, drop}
use Rattle.desk_model.specs.Market.{without}
use Rattle.why_model.specs.Answer.{each_named}
use Rattle.session_why.proofs.objects.push_subjects.Given as goal

-- the names before the one at hand are written
abbrev pub invariant-loop-subject : goal.invariant-loop-subject
invariant-loop-subject l =
    l.out.items ++ each_named l.session (without 0 (drop l.subject-index l.subjects))
    ≡ l.initial.out.items ++ each_named l.session (without 0 l.subjects)
