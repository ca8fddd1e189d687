use Rattle.price_report.proofs.Fronts.{front_on, on_err}
use Rattle.price_report.proofs.refused.push_refusal.Goals as goal

-- what stood before the refusal's word is kept, so what stood before the space is, and so on
pub returns-in_err-push_detail-clause-err : goal.returns-in_err-push_detail-clause-err
returns-in_err-push_detail-clause-err c =
    let before_refusal = front_on _ _ _ _ c.in_ok-extend_from_slice-3.ensures.items c.in_err-push_detail.ensures.err in
    let before_space = front_on _ _ _ _ c.in_ok-push.ensures.items before_refusal in
    let before_command = front_on _ _ _ _ c.in_ok-extend_from_slice-2.ensures.items before_space in
    on_err _ (front_on _ _ _ _ c.in_ok-extend_from_slice.ensures.items before_command)
