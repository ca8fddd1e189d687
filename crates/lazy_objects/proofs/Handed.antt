-- Watchers of a desk whose state is whole.
use Rattle.std.proofs.Common.{◌≡◌, inl, ℕ, true, false, List, [], ◌∷◌, Option, Some, None, refl, sym, ◌∙◌, subst}
use Rattle.std.specs.Prelude.{IfSome, ◌==◌}
use Rattle.std.proofs.lemmas.Bool.{false≢true, false_from_ne_true, eqb-true}
use Rattle.walks.specs.Walk.{Among}
use Rattle.walks.proofs.Walks.{any_member}
use Rattle.desk_model.specs.Market.{slot_at, is_watcher, is_observable}
use Rattle.desk_model.specs.State.{State}
use Rattle.desk_model.specs.Told.{registered, is_registered}
use Rattle.desk_model.specs.Links.{IsWhole}

-- who is handed out is a watcher
pub told_is : (X : ℕ → Type 0) (s : State) (rest : List ℕ) (r : Option ℕ) → IsWhole s
    → IfSome r (λ w. (s.noticed ≡ w ∷ rest) × X w) → IfSome r (λ w. is_watcher (slot_at s.market w) ≡ true)
told_is X s rest None whole p = tt
told_is X s rest (Some w) whole p = whole.noticed w (subst (Among w) (sym p.0) (inl refl))

-- who is no watcher is registered with nothing
pub registered_with_none : (s : State) (o : ℕ) → IsWhole s → is_watcher (slot_at s.market o) ≡ false → registered s.registrations o ≡ []
registered_with_none s o whole is = by (registered s.registrations o) refl
  where
    by : (os : List ℕ) → registered s.registrations o ≡ os → registered s.registrations o ≡ []
    by [] e = e
    by (x ∷ os) e =
        let there = whole.registered o x (subst (Among x) (sym e) (inl refl)) in
        absurd (false≢true (sym is ∙ there.watcher))

-- with what is not observable nobody is registered
pub unobserved : (s : State) (w o : ℕ) → IsWhole s → (is_observable (slot_at s.market o) ≡ true → ⊥) → is_registered s w o ≡ false
unobserved s w o whole is = false_from_ne_true (is_registered s w o) (λ e.
    let a = any_member (λ x. x == o) (registered s.registrations w) e in
    is (whole.registered w o (subst (λ (x : ℕ). Among x (registered s.registrations w)) (eqb-true a.0 o a.2) a.1)).observed)
