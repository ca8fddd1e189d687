use Rattle.why_model.proofs.Alike.{shows_same, mark_same, source_found}
use Rattle.why_model.proofs.laws.asking_law.Goals as goal

pub returns : goal.returns
returns c = λ calc s whole o x. record {
  shown = shows_same calc s whole o x;
  mark = mark_same calc s whole o x;
  source = source_found calc s whole o x;
}
