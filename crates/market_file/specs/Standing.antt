-- What the objects of a market rest on: each on those before it.
use Rattle.std.specs.Prelude.{◌≡◌, ◌<◌, ◌≤◌, ℕ, Bool, true, false, codes, List, [], ◌∷◌, ◌++◌, length, Option, Some, None, slice_get}
use Rattle.desk_terms.specs.declared.kind.Kind.{Kind}
use Rattle.desk_terms.specs.declared.kind.Kind.TheVariants.{Today}
use Rattle.desk_terms.specs.declared.kind.Wanted.{Wanted}
use Rattle.desk_terms.specs.declared.reference.Reference.{Reference}
use Rattle.desk_terms.specs.declared.terms.Part.{Part}
use Rattle.desk_terms.specs.declared.terms.Terms.{Terms}
use Rattle.desk_terms.specs.declared.terms.Terms.TheVariants.{Quote, Derived, Handle, Curve, Implied, Index, Engine, Stock, Composite, Flows}
use Rattle.curve_terms.specs.Terms.{IsInRange}
use Rattle.flow_terms.specs.Ranges.{IsIndexInRange, AreFlowsInRange}
use Rattle.instrument_terms.specs.Laws.{AreWithin}
use Rattle.desk_terms.specs.Kind.{serves}
use Rattle.desk_terms.specs.Reading.{AreInRange}
use Rattle.desk_terms.specs.Terms.{kind_of, inputs_of}

-- whether what stands at a number is what is wanted
abbrev pub is_served : Option Kind → Wanted → Bool
is_served None wanted = false
is_served (Some kind) wanted = serves kind wanted

abbrev pub AreServed : List Kind → List Reference → Type 0
AreServed kinds [] = Unit {0}
AreServed kinds (reference ∷ references) =
    (is_served (slice_get kinds reference.object) reference.wanted ≡ true) × AreServed kinds references

-- the parts of a composite: at most 4,095, each weight within its limit, and no member twice
pub record AreComposed (parts : List Part) : Type 0 where
  pub few : length parts ≤ 4095
  pub within : AreWithin parts

-- the terms are within the limits of a market: in range, and so are the parts of a composite
abbrev pub AreLimited : Terms → Type 0
AreLimited (Quote value) = Unit {0}
AreLimited (Derived minus first second) = Unit {0}
AreLimited (Handle kind target) = Unit {0}
AreLimited (Curve terms) = IsInRange terms
AreLimited (Implied curve reference) = Unit {0}
AreLimited (Index terms fixings) = IsIndexInRange terms
AreLimited (Engine curve) = Unit {0}
AreLimited (Stock quote) = Unit {0}
AreLimited (Composite parts) = AreComposed parts
AreLimited (Flows flows engine) = AreFlowsInRange flows

-- An object behind those of these kinds: the number of its name is its own, its terms are in range and within the limits
-- of a market, and its inputs are among those, each of a kind that is wanted there.
pub record IsNext (kinds : List Kind) (entry : ℕ × Terms) : Type 0 where
  pub number : entry.0 ≡ length kinds
  pub ranged : AreInRange entry.1
  pub limited : AreLimited entry.1
  pub inputs : AreServed kinds (inputs_of entry.1)

abbrev pub AreInOrder : List Kind → List (ℕ × Terms) → Type 0
AreInOrder kinds [] = Unit {0}
AreInOrder kinds (entry ∷ made) = IsNext kinds entry × AreInOrder (kinds ++ kind_of entry.1 ∷ []) made

-- THE OBJECTS OF A SESSION TO BE: `today` is the first name, there is a name for each object, they are fewer than 4,096,
-- and each stands on those before it
pub record IsReady (names : List (List ℕ)) (made : List (ℕ × Terms)) : Type 0 where
  pub first : slice_get names 0 ≡ Some (codes "today")
  pub named : length made < length names
  pub room : length made < 4096
  pub order : AreInOrder (Today ∷ []) made
