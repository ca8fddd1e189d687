use Rattle.std.proofs.Common.{◌≡◌, ◌-◌}
use Rattle.load_maker.specs.Texts.{for_each, generator, move_text, picked_quote}
use Rattle.load_maker.proofs.script.script_text.Given as goal

abbrev pub invariant-loop-at : goal.invariant-loop-at
invariant-loop-at l = record {
  order : l.order ≡ generator l.n l.at;
  text : l.text.items ≡ for_each (λ j. move_text (picked_quote l.n (j - 1)) j l.n) l.at;
}
