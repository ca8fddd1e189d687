use Rattle.price_report.proofs.Fronts.{front_on, on_err}
use Rattle.price_report.proofs.asked.push_asked.Goals as goal

-- what stood before the answer is kept, so what stood before the space is, and what stood before the name
pub returns-in_err-push_answer-clause-err : goal.returns-in_err-push_answer-clause-err
returns-in_err-push_answer-clause-err c =
    let before_space = front_on _ _ _ _ c.in_ok-push.ensures.items c.in_err-push_answer.ensures.err in
    on_err _ (front_on _ _ _ _ c.in_ok-extend_from_slice.ensures.items before_space)
