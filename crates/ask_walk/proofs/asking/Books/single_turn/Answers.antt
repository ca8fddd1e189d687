use Rattle.std.proofs.Common.{sym, ◌∙◌, ap}
use Rattle.ask_walk.specs.Steps.{next_with}
use Rattle.ask_walk.proofs.asking.Books.single_turn.Goals as goal

pub compute-requires-clause-fits : goal.compute-requires-clause-fits
compute-requires-clause-fits g c = λ terms there. c.requires.run c.next.new.inputs terms (sym c.in_ok-step.ensures.next ∙ ap (next_with c.next.new.inputs) c.in-Ready.is) there
