use Rattle.desk_model.proofs.Marks.{marks_say}
use Rattle.desk_model.proofs.laws.marks_say_what_is_held_back.Goals as goal

pub returns : goal.returns
returns c = λ s whole o. marks_say s whole o
