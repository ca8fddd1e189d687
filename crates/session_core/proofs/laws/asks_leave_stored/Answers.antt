use Rattle.std.proofs.Common.{refl}
use Rattle.desk_model.specs.Visit.{runs, asked}
use Rattle.session_model.specs.declared.act.Act.TheVariants as act
use Rattle.session_model.specs.declared.act.How.TheVariants as how
use Rattle.session_model.specs.Turn.{step, effect_of}
use Rattle.session_core.proofs.Turns.{left_silent, left_stored}
use Rattle.session_core.proofs.laws.asks_leave_stored.Goals as goal

pub returns : goal.returns
unfolding effect_of step asked
returns c = λ old new lines_old lines_new count_old count_new log_old log_new. record {
  silent = λ t survivors silent e.
      left_silent t survivors old new lines_old lines_new count_old count_new log_old log_new silent e;
  ask = λ calc name o e.
      left_stored (effect_of calc old (act.Price name o how.Ask)) (runs calc old.state o) old new lines_old lines_new count_old
      count_new log_old log_new refl refl e;
  discount = λ calc name o day e.
      left_stored (effect_of calc old (act.Price name o (how.Df day))) (runs calc old.state o) old new lines_old lines_new count_old
      count_new log_old log_new refl refl e;
}
