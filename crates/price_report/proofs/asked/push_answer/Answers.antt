use Rattle.price_report.proofs.Fronts.{front_on, on_err}
use Rattle.price_report.proofs.asked.push_answer.Goals as goal

-- what stood before the count is kept, so what stood before the cause is, and what stood before its word
pub returns-in_err-push_runs-in-Err-clause-err : goal.returns-in_err-push_runs-in-Err-clause-err
returns-in_err-push_runs-in-Err-clause-err c =
    let before_cause = front_on _ _ _ _ c.in_ok-cause_text-in-Err.ensures.ok c.in_err-push_runs-in-Err.ensures.err in
    on_err _ (front_on _ _ _ _ c.in_ok-extend_from_slice-in-Err.ensures.items before_cause)
