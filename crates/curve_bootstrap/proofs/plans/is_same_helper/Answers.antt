use Rattle.curve_bootstrap.proofs.KeptLemmas.{helper_same}
use Rattle.curve_bootstrap.proofs.plans.is_same_helper.Goals as goal

pub returns : goal.returns
returns c = λ same.
    let all = c.are_all.ensures same in
    let tenors = c.same_tenors-tenors.ensures all.0 in
    let days = c.same_days-days.ensures all.1 in
    let rest = c.same_rest-rest.ensures all.2 in
    helper_same _ _ rest.1 tenors.0 tenors.1 days.0 days.1 rest.0
