-- A path among some edges is one among more.
use Rattle.std.proofs.Common.{ℕ, Bool, List}
use Rattle.walks.specs.Walk.{Among, Below}
use Rattle.walks.specs.Walk.Below.{next, beyond}

-- the same, where each edge is an edge there
pub below_there : (reads reads2 : ℕ → List ℕ) (found through : ℕ → Bool) → ((o x : ℕ) → Among x (reads o)
    → Among x (reads2 o)) → (o : ℕ) → Below reads found through o → Below reads2 found through o
below_there reads reads2 found through there o (next {x = x} among here) = next {x = x} (there o x among) here
below_there reads reads2 found through there o (beyond {x = x} among passes below) = beyond {x = x} (there o x among)
    passes (below_there reads reads2 found through there x below)
