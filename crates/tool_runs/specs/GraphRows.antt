-- Words that are taken and words that are not, by hand.
use Rattle.std.specs.Prelude.{◌≡◌, [], ◌∷◌, codes, None, Some}
use Rattle.tool_runs.specs.GraphWords.{paths_of}

pub record AreTaken : Type 0 where
  pub two : paths_of (codes "m" ∷ codes "s" ∷ []) ≡ Some (record { market = codes "m"; script = codes "s" })
  pub verb : paths_of (codes "check" ∷ codes "load" ∷ []) ≡ Some (record { market = codes "check"; script = codes "load" })
  pub one : paths_of (codes "m" ∷ []) ≡ None
  pub three : paths_of (codes "run" ∷ codes "m" ∷ codes "s" ∷ []) ≡ None
  pub option : paths_of (codes "--order=last" ∷ codes "s" ∷ []) ≡ None
  pub help : paths_of (codes "m" ∷ codes "help" ∷ []) ≡ None
  pub empty : paths_of ([] ∷ codes "s" ∷ []) ≡ None
