use Rattle.std.proofs.Common.{◌∙◌, sym}
use Rattle.std.proofs.lemmas.Bool.{false≢true}
use Rattle.graph_vectors.proofs.steps.link.Goals as goal

pub watch-requires-clause-new : goal.watch-requires-clause-new
watch-requires-clause-new c = λ a. false≢true (sym c.if-has_pair.false ∙ c.has_pair.ensures.1 a)
