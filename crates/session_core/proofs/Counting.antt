-- A composite has no more parts than there are live objects.
use Rattle.std.proofs.Common.{◌≡◌, ◌≢◌, ◌≤◌, ℕ, true, false, List, [], ◌∷◌, length, Some, ℤ, refl, ◌∙◌, ap, subst, arith}
use Rattle.std.specs.Prelude.{slice_index_or, slice_set, unsigned_abs}
use Rattle.std.proofs.lemmas.Bool.{eqb-false, or_parts}
use Rattle.std.proofs.lemmas.List.{get_or-set_other}
use Rattle.desk_terms.specs.declared.kind.Wanted.TheVariants.{Member}
use Rattle.desk_terms.specs.declared.terms.Part.{Part}
use Rattle.desk_terms.specs.declared.terms.Terms.TheVariants.{Composite}
use Rattle.desk_terms.specs.Parts.{AreEachInRange}
use Rattle.desk_terms.specs.Terms.{part_references}
use Rattle.desk_model.specs.declared.slot.Slot.{Slot}
use Rattle.desk_model.specs.declared.slot.Slot.TheVariants.{Free, Today, Watcher, Live}
use Rattle.desk_model.specs.Changeable.{has_member, with_member}
use Rattle.desk_model.specs.Links.{AreOfKind, AreRanged, IsKinded, IsRanged, Serve, serves_as}
use Rattle.desk_model.specs.Market.{Market, count_live, is_given, kind_at, kind_in, live_count, slot_at, terms_at}
use Rattle.desk_model.proofs.KindsKept.{serve_with}
use Rattle.desk_model.proofs.PartLimits.{each_with}
use Rattle.session_core.proofs.Naming.{count_less}

-- the members are live
abbrev AreGiven : List Slot → List Part → Type 0
AreGiven slots [] = Unit {0}
AreGiven slots (part ∷ parts) = (is_given (slice_index_or slots part.member Free) ≡ true) × AreGiven slots parts

serving_given : (slot : Slot) → serves_as (kind_in slot) Member ≡ true → is_given slot ≡ true
serving_given Free is = absurd (cc)
serving_given Today is = refl
serving_given Watcher is = refl
serving_given (Live terms) is = refl

members_given : (m : Market) (parts : List Part) → Serve m (part_references parts) → AreGiven m.objects parts
members_given m [] serve = tt
members_given m (part ∷ parts) serve = (serving_given (slot_at m part.member) serve.0, members_given m parts serve.1)

-- also where another object is dropped
given_still : (slots : List Slot) (x : ℕ) (parts : List Part) → has_member parts x ≡ false → AreGiven slots parts
    → AreGiven (slice_set slots x Free) parts
given_still slots x [] none given = tt
given_still slots x (part ∷ parts) none given =
    let both = or_parts _ _ none in
    let other : part.member ≢ x = eqb-false part.member x both.0 in (
      ap is_given (get_or-set_other slots x part.member Free Free other) ∙ given.0,
      given_still slots x parts both.1 given.1,
    )

-- live members, none of them twice, are no more than the live objects
parts_live : (slots : List Slot) (parts : List Part) → AreEachInRange parts → AreGiven slots parts → length parts ≤ count_live slots
parts_live slots [] each given = omega arith
parts_live slots (part ∷ parts) each given =
    let less = count_less slots part.member given.0 in
    let rest = parts_live (slice_set slots part.member Free) parts each.1.1 (given_still slots part.member parts each.1.0 given.1) in
    omega (arith, less, rest)

-- so there is room for each part of a composite where a weight changes
pub parts_fit : (m : Market) (k member : ℕ) (weight : ℤ) (parts : List Part) → IsKinded m → AreRanged m → live_count m ≤ 4096
    → unsigned_abs weight ≤ 1_000_000 → serves_as (kind_at m member) Member ≡ true → terms_at m k ≡ Some (Composite parts)
    → length (with_member parts member weight) ≤ 4096
parts_fit m k member weight parts kinds ranged few limit serves is =
    let serve = subst (AreOfKind m) is (kinds k) in
    let each = (subst IsRanged is (ranged k)).each in
    let most = parts_live m.objects (with_member parts member weight) (each_with parts member weight limit each)
    (members_given m (with_member parts member weight) (serve_with m parts member weight (λ some. serves) serve)) in
    omega (arith, most, few)
