-- A run that ends before its text is made.
use Rattle.std.proofs.Common.{◌⊎◌, inl, inr, ℕ, List, Option, refl}
use Rattle.tool_frame.specs.Stage.{Stage, Done, Refused, Missing, Failed, Cut, Halted, IsEarly, IsBefore, Writes, Computes, Log}

-- memory ran out before anything was known of what is wanted, which may then be anything
module _ {Wanted : Type 0} (output : Wanted → List ℕ) (any : Wanted) (bytes : Option (List ℕ)) where
  module _ {Call : Type 0} (Makes Begins : List Call → ℕ → ℕ → Log → Log → Type 0) (computed : Wanted → List Call) (count : ℕ) (log : Log)
      (none : Begins (computed any) count count log log) where
    pub early_or_none : (s : Stage) → IsBefore s → IsEarly s ⊎ ((wanted : Wanted) × Writes bytes bytes (output wanted) s
        × Computes Makes Begins (computed wanted) s count count log log)
    early_or_none Refused before = inl tt
    early_or_none Missing before = inl tt
    early_or_none Failed before = inl tt
    early_or_none Halted before = inr (any, refl, none)
    early_or_none Done before = absurd before
    early_or_none Cut before = absurd before
