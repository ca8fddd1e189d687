use Rattle.std.proofs.Common.{List, [], ◌∷◌, ℕ, refl}
use Rattle.desk_model.specs.Market.{without}
use Rattle.session_model.specs.Standing.{Standing}
use Rattle.graph_dot.proofs.Appending.{parts_more, parts_end}
use Rattle.why_model.specs.Answer.{each_named}
use Rattle.session_why.proofs.Pieces.{subjects_more}
use Rattle.session_why.proofs.objects.push_subjects.Goals as goal

abbrev all : Standing → List ℕ → List ℕ
all p xs = each_named p (without 0 xs)

abbrev one : Standing → ℕ → List ℕ
one p x = each_named p (without 0 (x ∷ []))

pub loop-subject-preserved : goal.loop-subject-preserved
loop-subject-preserved c =
    parts_more (one c.args.session.now) (all c.args.session.now) (subjects_more c.args.session.now) c.args.subjects.now
    c.loop-subject.subject-index c.subject-item.result _ _ _ c.loop-subject-test.true c.subject-item.is
    c.in_ok-push_subject.ensures
    c.loop-subject.invariant

pub returns : goal.returns
returns c =
    parts_end (all c.args.session.now) refl c.args.subjects.now c.loop-subject.subject-index _ _
    c.loop-subject-test.false
    c.loop-subject.invariant
