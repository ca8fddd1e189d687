-- Fields by position.
use Rattle.std.proofs.Common.{◌≡◌, ◌≢◌, ℕ, zero, suc, ◌<◌, ◌≤◌, List, [], ◌∷◌, length, get_or, Option, None, refl, ap, arith}
use Rattle.std.specs.Prelude.{slice_set}
use Rattle.market_tables.specs.Fields.{field_in, without}

pub got : {F : Type 0} (fs : List (Option F)) (at : ℕ) (d : Option F) → at < length fs → get_or fs at d ≡ field_in fs at
got [] at d h = absurd (omega arith)
got (f ∷ fs) zero d h = refl
got (f ∷ fs) (suc at) d h = got fs at d (omega arith)

pub set : {F : Type 0} (fs : List (Option F)) (at : ℕ) → at < length fs → slice_set fs at None ≡ without fs at
set [] at h = absurd (omega arith)
set (f ∷ fs) zero h = refl
set (f ∷ fs) (suc at) h = ap (λ t. f ∷ t) (set fs at (omega arith))

pub past : {F : Type 0} (fs : List (Option F)) (at : ℕ) → length fs ≤ at → field_in fs at ≡ None
past [] at h = refl
past (f ∷ fs) zero h = absurd (omega arith)
past (f ∷ fs) (suc at) h = past fs at (omega arith)

pub same : {F : Type 0} (fs : List (Option F)) (at : ℕ) → length fs ≤ at → without fs at ≡ fs
same [] at h = refl
same (f ∷ fs) zero h = absurd (omega arith)
same (f ∷ fs) (suc at) h = ap (λ t. f ∷ t) (same fs at (omega arith))

-- another field stays
pub other : {F : Type 0} (fs : List (Option F)) (at place : ℕ) → at ≢ place → field_in (without fs at) place ≡ field_in fs place
other [] at place h = refl
other (f ∷ fs) zero zero h = absurd (h refl)
other (f ∷ fs) zero (suc place) h = refl
other (f ∷ fs) (suc at) zero h = refl
other (f ∷ fs) (suc at) (suc place) h = other fs at place (λ e. h (ap suc e))
