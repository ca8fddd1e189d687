use Rattle.std.proofs.Common.{length, map, Bor, List, ℕ}
use Rattle.script_words.proofs.LineWords.{Cut}
use Rattle.script_words.proofs.line.good_words_of.Given as goal

abbrev pub invariant-loop-rest : goal.invariant-loop-rest
invariant-loop-rest l = Cut l.line (map (λ (word : Bor (List ℕ)). word.now) l.words.items) l.rest

abbrev pub decreases-loop-rest : goal.decreases-loop-rest
decreases-loop-rest l = length l.rest
