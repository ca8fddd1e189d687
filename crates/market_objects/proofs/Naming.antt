-- How many names there are with one more.
use Rattle.std.proofs.Common.{◌≤◌, ℕ, ◌+◌, Bool, true, false, cond, List, [], ◌∷◌, ◌++◌, length, length-append, arith}
use Rattle.desk_names.specs.Names.{has_text, with_text}

pub one_more_at_most : (names : List (List ℕ)) (text : List ℕ) → length (with_text names text) ≤ length names + 1
unfolding with_text
one_more_at_most names text = by (has_text names text)
  where
    by : (b : Bool) → length (cond b names (names ++ text ∷ [])) ≤ length names + 1
    by true = omega arith
    by false = simp length-append (omega arith)
