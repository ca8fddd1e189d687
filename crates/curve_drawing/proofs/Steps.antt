-- The step that is chosen is a step.
use Rattle.std.proofs.Common.{◌≡◌, ℕ, ◌+◌, ◌<◌, ◌≤◌, Bool, true, false, ◌&&◌, List, ◌∷◌, length, get_or, drop, refl, sym, ◌∙◌, ap}
use Rattle.std.specs.Prelude.{nat_le, if◌then◌else◌}
use Rattle.std.proofs.lemmas.List.{drop_more, drop_all}
use Rattle.curve_drawing.specs.Scale.{is_step, first_from}

both : (a b : Bool) → (a && b) ≡ true → (a ≡ true) × (b ≡ true)
both true b e = (refl, e)
both false b e = absurd (let none : false ≡ true = e in cc)

chosen : (step other : ℕ) (found : Bool) → is_step step ≡ true → is_step other ≡ true → is_step (if found then step else other) ≡ true
chosen step other true fits others = fits
chosen step other false fits others = others

-- one step more that is too short
pub first_next : (need : ℕ) (steps : List ℕ) (at step last : ℕ) → at < length steps → step ≡ get_or steps at 0
    → nat_le need step ≡ false → first_from need (drop at steps) last ≡ first_from need (drop (at + 1) steps) last
unfolding first_from
first_next need steps at step last within is short =
    ap (λ (l : List ℕ). first_from need l last) (drop_more steps at 0 within ∙ ap (λ (s : ℕ). s ∷ drop (at + 1) steps) (sym is))
    ∙ ap (λ (b : Bool). if b then step else first_from need (drop (at + 1) steps) last) short

-- the first step that is long enough
pub first_found : (need : ℕ) (steps : List ℕ) (at step last : ℕ) → at < length steps → step ≡ get_or steps at 0
    → nat_le need step ≡ true → first_from need (drop at steps) last ≡ step
unfolding first_from
first_found need steps at step last within is long =
    ap (λ (l : List ℕ). first_from need l last) (drop_more steps at 0 within ∙ ap (λ (s : ℕ). s ∷ drop (at + 1) steps) (sym is))
    ∙ ap (λ (b : Bool). if b then step else first_from need (drop (at + 1) steps) last) long

-- no step is left
pub first_none : (need : ℕ) (steps : List ℕ) (at last : ℕ) → length steps ≤ at → first_from need (drop at steps) last ≡ last
unfolding first_from
first_none need steps at last past = ap (λ (l : List ℕ). first_from need l last) (drop_all at steps past)
