-- The limits of a composite's parts (this project's limits).
use Rattle.std.specs.Prelude.{◌≡◌, ◌≢◌, ◌≤◌, ◌==◌, false, List, [], ◌∷◌, length, ℤ, pos, unsigned_abs}
use Rattle.std.specs.List.{list_any}
use Rattle.desk_terms.specs.declared.terms.Part.{Part}

-- a weight that is not 0, and at most 1,000,000 either way
abbrev pub IsWeight : ℤ → Type 0
IsWeight weight = (weight ≢ pos 0) × (unsigned_abs weight ≤ 1_000_000)

-- each weight is within its limit, and no later part has the member
abbrev pub AreEachInRange : List Part → Type 0
AreEachInRange [] = Unit {0}
AreEachInRange (part ∷ parts) =
    IsWeight part.weight × ((list_any (λ later. later.member == part.member) parts ≡ false) × AreEachInRange parts)

-- at most 4,096 parts, each weight within its limit, and no member twice
pub record ArePartsInRange (parts : List Part) : Type 0 where
  pub count : length parts ≤ 4096
  pub each : AreEachInRange parts
