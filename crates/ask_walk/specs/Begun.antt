-- What was read so far of the objects at which an ask stands.
use Rattle.std.specs.Prelude.{◌≡◌, ◌≤◌, ◌*◌, ◌^◌, ℕ, ℤ, unsigned_abs, true, List, [], ◌∷◌, length, Some, Ok}
use Rattle.desk_terms.specs.declared.terms.Terms.TheVariants.{Composite}
use Rattle.desk_terms.specs.declared.terms.Part.{Part}
use Rattle.desk_terms.specs.declared.value.Value.{Value}
use Rattle.desk_terms.specs.declared.value.Input as input
use Rattle.desk_terms.specs.Sums.{summed}
use Rattle.desk_model.specs.declared.kept.Kept.{Kept}
use Rattle.desk_model.specs.Fresh.{input_of}
use Rattle.desk_model.specs.Market.{Market, terms_at}
use Rattle.object_store.specs.Slots.{answer_of, is_at_hand}
use Rattle.ask_walk.specs.declared.turning.Begun.{Begun}

-- x is at hand, and the input is its value
abbrev pub IsReadOf : List Kept → ℕ → input.Input → Type 0
IsReadOf kept x i = (value : Value) × (is_at_hand kept x ≡ true) × (answer_of kept x ≡ Ok value) × (i ≡ input_of value)

-- the inputs are those of the first parts, as many as there are inputs
abbrev pub AreRead : List Kept → List input.Input → List Part → Type 0
AreRead kept [] parts = Unit {0}
AreRead kept (i ∷ inputs) [] = ⊥
AreRead kept (i ∷ inputs) (part ∷ parts) = IsReadOf kept part.member i × AreRead kept inputs parts

-- what was read of a composite of these parts: the inputs of as many of the first, and their sum, in which a weight times an
-- amount is at most 10^32 either way
pub record HasRead (kept : List Kept) (parts : List Part) (read : ℕ) (sum : ℤ) : Type 0 where
  pub inputs : List input.Input
  pub are : AreRead kept inputs parts
  pub count : length inputs ≡ read
  pub sums : sum ≡ summed parts inputs
  pub bound : unsigned_abs sum ≤ read * 10 ^ 32

-- a composite was read as far as is said; nothing is said of another object, which is read at once
abbrev pub IsBegun : Market → List Kept → Begun → Type 0
IsBegun market kept b = (parts : List Part) → terms_at market b.object ≡ Some (Composite parts) → HasRead kept parts b.read b.sum

abbrev pub AreBegun : Market → List Kept → List Begun → Type 0
AreBegun market kept [] = Unit {0}
AreBegun market kept (b ∷ waiting) = IsBegun market kept b × AreBegun market kept waiting

-- the objects that wait
abbrev pub objects_of : List Begun → List ℕ
objects_of [] = []
objects_of (b ∷ waiting) = b.object ∷ objects_of waiting

-- what is at hand with a value stays so
abbrev pub Keeps : List Kept → List Kept → Type 0
Keeps old new = (x : ℕ) (i : input.Input) → IsReadOf old x i → IsReadOf new x i
