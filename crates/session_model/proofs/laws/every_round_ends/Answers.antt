use Rattle.session_model.proofs.Ends.{every_round, eight_each, more_runs}
use Rattle.session_model.proofs.laws.every_round_ends.Goals as goal

pub returns-clause-ends : goal.returns-clause-ends
returns-clause-ends g c = λ calc. every_round _ g.met.P.Picker.below

pub returns-clause-eight : goal.returns-clause-eight
returns-clause-eight g c = eight_each

pub returns-clause-more : goal.returns-clause-more
returns-clause-more g c = λ calc. more_runs _
