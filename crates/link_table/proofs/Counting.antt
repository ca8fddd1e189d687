-- How many holders are not linked, after a change at one number.
use Rattle.std.proofs.Common.{◌≡◌, ◌∙◌, ℕ, zero, suc, ◌+◌, ◌<◌, ◌≤◌, Bool, true, false, not, List, [], ◌∷◌, length, refl, sym, ap, arith, Option, Some, None}
use Rattle.std.specs.Prelude.{if◌then◌else◌, is_some, is_none, slice_set, IsSome}
use Rattle.std.proofs.lemmas.Bool.{false≢true}
use Rattle.link_table.specs.declared.links.Link.{Link}
use Rattle.link_table.specs.Links.{IsHolder, free_count, is_free, link_at, target_at, target_of}
use Rattle.link_table.proofs.Maps.{holder_within}

abbrev pub one_if : Bool → ℕ
one_if b = if b then 1 else 0

none_at : (h : ℕ) → link_at [] h ≡ None
none_at zero = refl
none_at (suc h) = refl

-- links that agree in look-ups
pub free_same : (old new : List (Option Link)) → ((h : ℕ) → link_at new h ≡ link_at old h) → free_count new ≡ free_count old
free_same [] [] same = refl
free_same [] (l ∷ new) same =
    let here : one_if (is_free l) ≡ 0 = ap (λ (x : Option Link). one_if (is_free x)) (same 0) in
    let later = free_same [] new (λ h. same (suc h) ∙ none_at (suc h) ∙ sym (none_at h)) in omega arith
free_same (l ∷ old) [] same =
    let here : 0 ≡ one_if (is_free l) = ap (λ (x : Option Link). one_if (is_free x)) (same 0) in
    let later = free_same old [] (λ h. none_at h ∙ sym (none_at (suc h)) ∙ same (suc h)) in omega arith
free_same (l ∷ old) (m ∷ new) same =
    let here : one_if (is_free m) ≡ one_if (is_free l) = ap (λ (x : Option Link). one_if (is_free x)) (same 0) in
    let later = free_same old new (λ h. same (suc h)) in omega arith

-- where there is no holder
pub free_none : (links : List (Option Link)) → ((h : ℕ) → link_at links h ≡ None) → free_count links ≡ 0
free_none links none = free_same [] links (λ h. none h ∙ sym (none_at h))

-- a write at a place
pub free_set : (links : List (Option Link)) (h : ℕ) (link : Option Link) → h < length links
    → free_count (slice_set links h link) + one_if (is_free (link_at links h)) ≡ free_count links + one_if (is_free link)
free_set [] h link low = absurd (omega arith)
free_set (l ∷ links) zero link low = omega arith
free_set (l ∷ links) (suc h) link low = let later = free_set links h link (omega arith) in omega arith

pub free_most : (links : List (Option Link)) → free_count links ≤ length links
free_most [] = omega arith
free_most (l ∷ links) = let later = free_most links in let here = at_most_one (is_free l) in omega arith
  where
    at_most_one : (b : Bool) → one_if b ≤ 1
    at_most_one true = omega arith
    at_most_one false = omega arith

-- a holder is free where it has no target
pub free_is : (link : Option Link) → IsSome link → is_free link ≡ is_none (target_of link)
free_is None is = absurd (false≢true is)
free_is (Some link) is = refl

-- a test for none
pub none_is : (target : Option ℕ) (b : Bool) → is_some target ≡ not b → is_none target ≡ b
none_is target true e = ap not e
none_is target false e = ap not e

one_of_two : (target : Option ℕ) → one_if (is_none target) + one_if (is_some target) ≡ 1
one_of_two None = refl
one_of_two (Some t) = refl

free_or_linked : (links : List (Option Link)) (holder : ℕ) → IsHolder links holder
    → one_if (is_free (link_at links holder)) + one_if (is_some (target_at links holder)) ≡ 1
free_or_linked links holder is = let e = ap one_if (free_is (link_at links holder) is) in
    let t = one_of_two (target_at links holder) in omega arith

-- a place is spare once the pair of a holder is gone, or was so before
pub spare_for : (links : List (Option Link)) (holder spare mid : ℕ) → IsHolder links holder → free_count links ≤ spare
    → mid ≡ spare + one_if (is_some (target_at links holder)) → 0 < mid
spare_for links holder spare mid is fit more =
    let set = free_set links holder None (holder_within links holder is) in
    let either = free_or_linked links holder is in omega arith

-- a holder that is not linked is counted
pub free_some : (links : List (Option Link)) (holder : ℕ) → IsHolder links holder → is_none (target_at links holder) ≡ true
    → 0 < free_count links
free_some links holder is none =
    let set = free_set links holder None (holder_within links holder is) in
    let here : one_if (is_free (link_at links holder)) ≡ 1 = ap one_if (free_is (link_at links holder) is ∙ none) in
    omega arith

-- a holder has another target
pub count_relinked : (links : List (Option Link)) (place holder found count : ℕ) (target : Option ℕ) → place ≡ holder
    → IsHolder links holder → count ≡ free_count links
    → found + one_if (is_none (target_at links holder)) ≡ count + one_if (is_none target)
    → found ≡ free_count (slice_set links place (Some (record { target = target })))
count_relinked links place holder found count target at is counted new =
    let set = free_set links holder (Some (record { target = target })) (holder_within links holder is) in
    let here = ap one_if (free_is (link_at links holder) is) in
    let same = ap (λ (p : ℕ). free_count (slice_set links p (Some (record { target = target })))) at in omega arith

pub spare_relinked : (links : List (Option Link)) (place holder spare mid new : ℕ) (target : Option ℕ) → place ≡ holder
    → IsHolder links holder → free_count links ≤ spare → mid ≡ spare + one_if (is_some (target_at links holder))
    → new + one_if (is_some target) ≡ mid
    → free_count (slice_set links place (Some (record { target = target }))) ≤ new
spare_relinked links place holder spare mid new target at is fit more less =
    let set = free_set links holder (Some (record { target = target })) (holder_within links holder is) in
    let was = free_or_linked links holder is in
    let now = one_of_two target in
    let same = ap (λ (p : ℕ). free_count (slice_set links p (Some (record { target = target })))) at in omega arith

-- a number is no holder any more
pub count_removed : (links : List (Option Link)) (place holder found count : ℕ) → place ≡ holder
    → IsHolder links holder → count ≡ free_count links
    → found + one_if (is_none (target_at links holder)) ≡ count + one_if false
    → found ≡ free_count (slice_set links place None)
count_removed links place holder found count at is counted new =
    let set = free_set links holder None (holder_within links holder is) in
    let here = ap one_if (free_is (link_at links holder) is) in
    let same = ap (λ (p : ℕ). free_count (slice_set links p None)) at in omega arith

-- a holder more, which is not linked
pub count_added : (old grown : List (Option Link)) (place holder : ℕ) → place ≡ holder → holder < length grown
    → ((h : ℕ) → link_at grown h ≡ link_at old h) → (IsHolder old holder → ⊥)
    → free_count (slice_set grown place (Some (record { target = None }))) ≡ free_count old + 1
count_added old grown place holder at low same new =
    let set = free_set grown holder (Some (record { target = None })) low in
    let all = free_same old grown same in
    let here : one_if (is_free (link_at grown holder)) ≡ 0 =
    ap (λ (x : Option Link). one_if (is_free x)) (same holder) ∙ none_there (link_at old holder) new in
    let moved = ap (λ (p : ℕ). free_count (slice_set grown p (Some (record { target = None })))) at in omega arith
  where
    none_there : (link : Option Link) → (IsSome link → ⊥) → one_if (is_free link) ≡ 0
    none_there None new = refl
    none_there (Some link) new = absurd (new refl)
