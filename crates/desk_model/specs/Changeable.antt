-- What a command may change of an object, by kind.
use Rattle.std.specs.Prelude.{ℕ, Bool, ◌==◌, if◌then◌else◌, List, [], ◌∷◌, ◌++◌, ℤ, pos, Option, Some, None}
use Rattle.std.specs.List.{list_any}
use Rattle.std.specs.Ordering.{int_eq}
use Rattle.desk_terms.specs.declared.terms.Terms.{Terms}
use Rattle.desk_terms.specs.declared.terms.Terms.TheVariants.{Quote, Derived, Handle, Curve, Implied, Index, Engine, Stock, Composite, Flows}
use Rattle.desk_terms.specs.declared.terms.HandleKind.{HandleKind}
use Rattle.desk_terms.specs.declared.terms.Part.{Part}
use Rattle.flow_terms.specs.declared.indexes.IndexTerms.{IndexTerms}
use Rattle.flow_terms.specs.Fixings.{Stored}
use Rattle.flow_terms.specs.declared.flows.FlowTerms.{FlowTerms}

-- What a command may change of an object: a quote's value, a handle's target, an index's fixings, a composite's parts,
-- an instrument's engine.
pub data Changeable : Type 0 where
  HasValue : Option ℤ → Changeable
  HasTarget : HandleKind → Option ℕ → Changeable
  HasFixings : IndexTerms → Stored → Changeable
  HasParts : List Part → Changeable
  HasEngine : FlowTerms → Option ℕ → Changeable
  HasNone : Changeable

abbrev pub changeable : Option Terms → Changeable
changeable None = HasNone
changeable (Some (Quote value)) = HasValue value
changeable (Some (Derived minus first second)) = HasNone
changeable (Some (Handle kind target)) = HasTarget kind target
changeable (Some (Curve terms)) = HasNone
changeable (Some (Implied curve reference)) = HasNone
changeable (Some (Index terms fixings)) = HasFixings terms fixings
changeable (Some (Engine curve)) = HasNone
changeable (Some (Stock quote)) = HasNone
changeable (Some (Composite parts)) = HasParts parts
changeable (Some (Flows flows engine)) = HasEngine flows engine

-- the weight of a member; 0 for an object that is none
abbrev pub weight_of : List Part → ℕ → ℤ
weight_of [] member = pos 0
weight_of (part ∷ parts) member = if part.member == member then part.weight else weight_of parts member

abbrev pub has_member : List Part → ℕ → Bool
has_member parts member = list_any (λ part. part.member == member) parts

abbrev pub without_member : List Part → ℕ → List Part
without_member [] member = []
without_member (part ∷ parts) member =
    if part.member == member
    then without_member parts member
    else part ∷ without_member parts member

abbrev pub reweighted : List Part → ℕ → ℤ → List Part
reweighted [] member weight = []
reweighted (part ∷ parts) member weight =
    if part.member == member
    then record part { weight = weight } ∷ reweighted parts member weight
    else part ∷ reweighted parts member weight

-- the parts with another weight of a member: appended, changed in its place, or taken out where the weight is 0
abbrev pub with_member : List Part → ℕ → ℤ → List Part
with_member parts member weight =
    if int_eq weight (pos 0)
    then without_member parts member
    else if has_member parts member
    then reweighted parts member weight
    else parts ++ record { weight = weight; member = member } ∷ []
