-- The scenario in which an object is worth least (this project's profile).
use Rattle.std.specs.Prelude.{◌≡◌, ℕ, ◌<◌, ℤ, ◌≤ℤ◌, ◌<ℤ◌, List, [], ◌∷◌, Option, Some, None, int_le, if◌then◌else◌, slice_get}

-- a scenario, by its name, none for the one without moves, and what an object is worth in it
pub record Worst : Type 0 where
  pub name : Option ℕ
  pub amount : ℤ

-- the worst of an amount and of those behind it: of equal amounts the first
abbrev pub lower : Worst → Option Worst → Option Worst
lower first None = Some first
lower first (Some other) = if int_le first.amount other.amount then Some first else Some other

-- the same where an ask may show no money
abbrev pub with_value : Option ℕ → Option ℤ → Option Worst → Option Worst
with_value name None worst = worst
with_value name (Some amount) worst = lower (record { name = name; amount = amount }) worst

-- THE WORST of what scenarios show for one ask, in their order
abbrev pub worst_of : List (Option ℕ × Option ℤ) → Option Worst
worst_of [] = None
worst_of (entry ∷ entries) = with_value entry.0 entry.1 (worst_of entries)

-- it is the least, and the first of that value
pub record IsWorst (entries : List (Option ℕ × Option ℤ)) (worst : Worst) : Type 0 where
  pub at : ℕ
  pub there : slice_get entries at ≡ Some (worst.name, Some worst.amount)
  pub least : (i : ℕ) (name : Option ℕ) (amount : ℤ) → slice_get entries i ≡ Some (name, Some amount) → worst.amount ≤ℤ amount
  pub first : (i : ℕ) (name : Option ℕ) (amount : ℤ) → i < at → slice_get entries i ≡ Some (name, Some amount) → worst.amount <ℤ amount
