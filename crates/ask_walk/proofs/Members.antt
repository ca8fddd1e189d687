-- Inputs that are at hand before what comes next.
use Rattle.std.proofs.Common.{◌≡◌, ℕ, ◌+◌, ◌<◌, Bool, true, false, List, [], ◌∷◌, ◌++◌, length, drop, Some, None, Err, refl, sym, ◌∙◌, ap}
use Rattle.std.specs.Prelude.{if◌then◌else◌}
use Rattle.std.proofs.lemmas.List.{drop_more}
use Rattle.std.proofs.Math.ListN.{get_or}
use Rattle.desk_terms.specs.declared.value.Input as input
use Rattle.desk_model.specs.declared.entry.Next.{Next}
use Rattle.desk_model.specs.declared.entry.Next.TheVariants.{Ready, First, Stops}
use Rattle.desk_terms.specs.declared.terms.Part.{Part}
use Rattle.desk_terms.specs.declared.cause.Cause.{Cause}
use Rattle.desk_terms.specs.Reading.{Outcome}
use Rattle.desk_model.specs.Uses.{member_entries}
use Rattle.desk_model.specs.Next.{and_answer, next_of}
use Rattle.object_store.specs.Slots.{answered_of}

abbrev pub prepend : List input.Input → Next → Next
prepend inputs (Ready rest) = Ready (inputs ++ rest)
prepend inputs (First x) = First x
prepend inputs (Stops cause) = Stops cause

pub prepend_none : (next : Next) → prepend [] next ≡ next
prepend_none (Ready rest) = refl
prepend_none (First x) = refl
prepend_none (Stops cause) = refl

-- the first of some parts, by what its object answers
answered_none : (b : Bool) (r : Outcome) → answered_of b r ≡ None → b ≡ false
answered_none true r e = absurd (cc)
answered_none false r e = refl

pub answered_some : (b : Bool) (r q : Outcome) → answered_of b r ≡ Some q → (b ≡ true) × (r ≡ q)
answered_some true r q e = (refl, cc)
answered_some false r q e = absurd (cc)

pub members_none : (f : ℕ → Bool) (a : ℕ → Outcome) (inputs : List input.Input) (parts : List Part) (at : ℕ) (part : Part) → next_of f a (member_entries parts) ≡ prepend inputs (next_of f a (member_entries (drop at parts)))
    → part ≡ get_or parts at part → at < length parts → answered_of (f part.member) (a part.member) ≡ None → First part.member ≡ next_of f a (member_entries parts)
members_none f a inputs parts at part so_far get within none =
    let rest : drop at parts ≡ part ∷ drop (at + 1) parts = drop_more parts at part within ∙ ap (λ (p : Part). p ∷ drop (at + 1) parts) (sym get) in
    sym (so_far ∙ ap (λ (l : List Part). prepend inputs (next_of f a (member_entries l))) rest
    ∙ ap (λ (b : Bool). prepend inputs (if b then and_answer (a part.member) (next_of f a (member_entries (drop (at + 1) parts))) else First part.member)) (answered_none (f part.member) (a part.member) none))

pub members_err : (f : ℕ → Bool) (a : ℕ → Outcome) (inputs : List input.Input) (parts : List Part) (at : ℕ) (part : Part) (cause : Cause) → next_of f a (member_entries parts) ≡ prepend inputs (next_of f a (member_entries (drop at parts)))
    → part ≡ get_or parts at part → at < length parts → answered_of (f part.member) (a part.member) ≡ Some (Err cause) → Stops cause ≡ next_of f a (member_entries parts)
members_err f a inputs parts at part cause so_far get within some =
    let rest : drop at parts ≡ part ∷ drop (at + 1) parts = drop_more parts at part within ∙ ap (λ (p : Part). p ∷ drop (at + 1) parts) (sym get) in
    let e = answered_some (f part.member) (a part.member) (Err cause) some in
    sym (so_far ∙ ap (λ (l : List Part). prepend inputs (next_of f a (member_entries l))) rest
    ∙ ap (λ (b : Bool). prepend inputs (if b then and_answer (a part.member) (next_of f a (member_entries (drop (at + 1) parts))) else First part.member)) e.0
    ∙ ap (λ (r : Outcome). prepend inputs (and_answer r (next_of f a (member_entries (drop (at + 1) parts))))) e.1)
