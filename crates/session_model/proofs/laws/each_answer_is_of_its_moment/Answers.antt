use Rattle.session_model.proofs.Moments.{transcript_of}
use Rattle.session_model.proofs.Afresh.{answers_are}
use Rattle.session_model.proofs.laws.each_answer_is_of_its_moment.Goals as goal

pub returns-clause-moments : goal.returns-clause-moments
returns-clause-moments g c = transcript_of

pub returns-clause-answers : goal.returns-clause-answers
returns-clause-answers g c = answers_are
