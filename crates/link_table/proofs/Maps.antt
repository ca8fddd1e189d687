-- The map of links, after a change at one number.
use Rattle.std.proofs.Common.{◌≡◌, ◌≢◌, inl, inr, ℕ, zero, suc, ◌<◌, Bool, List, [], ◌∷◌, ◌++◌, length, refl, sym, ◌∙◌, ap, arith, Option, None}
use Rattle.std.specs.Prelude.{if◌then◌else◌, slice_set}
use Rattle.std.proofs.lemmas.Bool.{cases_eq, eq-eqb, ne_eqb, false≢true}
use Rattle.std.proofs.lemmas.List.{get_or-set_same, get_or-set_other}
use Rattle.link_table.specs.declared.links.Link.{Link}
use Rattle.link_table.specs.Links.{ChangesAt, IsHolder, link_at}

-- a holder's place is there
pub holder_within : (links : List (Option Link)) (holder : ℕ) → IsHolder links holder → holder < length links
holder_within [] zero is = absurd (false≢true is)
holder_within [] (suc holder) is = absurd (false≢true is)
holder_within (l ∷ links) zero is = omega arith
holder_within (l ∷ links) (suc holder) is = let w = holder_within links holder is in omega arith

-- what a change at one number says of it and of others
pub changed_here : (old new : List (Option Link)) (holder : ℕ) (link : Option Link) → ChangesAt old new holder link
    → link_at new holder ≡ link
changed_here old new holder link change = change holder ∙ ap (λ (b : Bool). if b then link else link_at old holder)
    (eq-eqb holder holder refl)

pub changed_there : (old new : List (Option Link)) (holder : ℕ) (link : Option Link) → ChangesAt old new holder link
    → (h : ℕ) → h ≢ holder → link_at new h ≡ link_at old h
changed_there old new holder link change h other = change h ∙ ap (λ (b : Bool). if b then link else link_at old h)
    (ne_eqb h holder other)

pub changes_by : (old new : List (Option Link)) (holder : ℕ) (link : Option Link) → link_at new holder ≡ link
    → ((h : ℕ) → h ≢ holder → link_at new h ≡ link_at old h) → ChangesAt old new holder link
changes_by old new holder link here there h = elim (cases_eq h holder) [
  | inl same ↦ ap (link_at new) same ∙ here ∙ sym (ap (λ (b : Bool). if b then link else link_at old h)
      (eq-eqb h holder same))
  | inr other ↦ there h other ∙ sym (ap (λ (b : Bool). if b then link else link_at old h) (ne_eqb h holder other))
]

-- a write at a place, where the list may have grown before
pub changes_set : (old grown : List (Option Link)) (place holder : ℕ) (link : Option Link) → place ≡ holder
    → holder < length grown → ((h : ℕ) → link_at grown h ≡ link_at old h) → ChangesAt old (slice_set grown place link)
    holder link
changes_set old grown place holder link at low same = changes_by old (slice_set grown place link) holder link
    (ap (λ (i : ℕ). link_at (slice_set grown i link) holder) at ∙ get_or-set_same grown holder link None low)
    (λ h other. ap (λ (i : ℕ). link_at (slice_set grown i link) h) at
    ∙ get_or-set_other grown holder h link None other ∙ same h)
