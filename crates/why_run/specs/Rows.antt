-- Words that are taken and words that are not, by hand.
use Rattle.std.specs.Prelude.{◌≡◌, [], ◌∷◌, codes, None, Some}
use Rattle.why_run.specs.Words.{triple_of}

pub record AreTaken : Type 0 where
  pub three : triple_of (codes "m" ∷ codes "s" ∷ codes "book" ∷ []) ≡
      Some (record { market = codes "m"; script = codes "s"; name = codes "book" })
  pub help : triple_of (codes "m" ∷ codes "help" ∷ codes "check" ∷ []) ≡
      Some (record { market = codes "m"; script = codes "help"; name = codes "check" })
  pub two : triple_of (codes "m" ∷ codes "s" ∷ []) ≡ None
  pub four : triple_of (codes "m" ∷ codes "s" ∷ codes "book" ∷ codes "book" ∷ []) ≡ None
  pub verb : triple_of (codes "run" ∷ codes "m" ∷ codes "s" ∷ codes "book" ∷ []) ≡ None
  pub option : triple_of (codes "--csv" ∷ codes "s" ∷ codes "book" ∷ []) ≡ None
  pub name : triple_of (codes "m" ∷ codes "s" ∷ codes "-book" ∷ []) ≡ None
  pub two_lines : triple_of (codes "m" ∷ codes "s" ∷ codes "book\nbook 1 fresh 0" ∷ []) ≡ None
  pub two_words : triple_of (codes "m" ∷ codes "s" ∷ codes "the book" ∷ []) ≡ None
  pub reserved : triple_of (codes "m" ∷ codes "s" ∷ codes "none" ∷ []) ≡ None
  pub empty : triple_of (codes "m" ∷ [] ∷ codes "book" ∷ []) ≡ None
