use Rattle.std.proofs.Common.{inl, inr, sym, ◌∙◌}
use Rattle.std.proofs.lemmas.Bool.{eqb-false}
use Rattle.graph_vectors.proofs.nets.watch_these.Goals as goal

pub watch-requires-clause-new : goal.watch-requires-clause-new
watch-requires-clause-new c = c.requires.new c.args.first

pub watch-requires-2-clause-new : goal.watch-requires-2-clause-new
watch-requires-2-clause-new c = λ a. elim ((c.in_ok-watch.ensures.ok.pairs c.args.second c.args.node).0 a) [
  | inl was ↦ c.requires.new c.args.second was
  | inr same ↦ eqb-false c.args.second c.args.first (sym c.eq.ensures ∙ c.if-eq.false) same.0
]
