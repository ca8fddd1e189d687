-- Registrations and notices of watchers leave the market and what is stored: all that is current stays as it was.
use Rattle.std.proofs.Common.{◌≡◌, ◌⊎◌, inl, inr, ℕ, Bool, true, false, List, [], ◌∷◌, refl, sym, subst}
use Rattle.std.specs.Prelude.{◌==◌, ◌&&◌, ◌||◌, nat_lt, if◌then◌else◌}
use Rattle.std.proofs.lemmas.Bool.{eqb-true}
use Rattle.walks.specs.Walk.{Among}
use Rattle.desk_model.specs.Market.{without}
use Rattle.desk_model.specs.State.{State, is_source, is_frozen}
use Rattle.desk_model.specs.Told.{registered}
use Rattle.desk_model.specs.Sound.{has_source, KeepsCurrent}
use Rattle.desk_model.specs.Links.{IsRegistration, IsWhole}
use Rattle.desk_model.specs.Laws.{Keeps}
use Rattle.desk_model.specs.Effect.{registered_with, with_pair, without_pair, unregistered, handed_out}
use Rattle.desk_model.proofs.Edges.{without_fewer}

-- other registrations and notices
rest_keeps : (s : State) (pairs : List (ℕ × ℕ)) (noticed : List ℕ)
    → KeepsCurrent s (record s { registrations = pairs; noticed = noticed })
unfolding has_source is_source is_frozen
rest_keeps s pairs noticed = record {
  sources = λ none. none;
  each = λ o current none. record { current = current; source = none; reading = refl; last = refl; ready = λ before. before };
}

more_pairs : (w o v y : ℕ) (pairs : List (ℕ × ℕ)) → Among y (registered (with_pair w o pairs) v)
    → Among y (registered pairs v) ⊎ ((w ≡ v) × (y ≡ o))
more_pairs w o v y [] among = by_new (w == v) refl among
  where
    by_new : (b : Bool) → (w == v) ≡ b → Among y (if b then o ∷ [] else []) → ⊥ ⊎ ((w ≡ v) × (y ≡ o))
    by_new true is (inl same) = inr (eqb-true w v is, same)
    by_new true is (inr none) = absurd none
    by_new false is none = absurd none
more_pairs w o v y (pair ∷ pairs) among = by_place ((pair.0 == w) && (pair.1 == o))
    (nat_lt w pair.0 || ((pair.0 == w) && nat_lt o pair.1)) among (λ more. more_pairs w o v y pairs more)
  where
    by_first : (b : Bool)
        → Among y (if b then pair.1 ∷ registered (with_pair w o pairs) v else registered (with_pair w o pairs) v)
        → (Among y (registered (with_pair w o pairs) v) → Among y (registered pairs v) ⊎ ((w ≡ v) × (y ≡ o)))
        → Among y (if b then pair.1 ∷ registered pairs v else registered pairs v) ⊎ ((w ≡ v) × (y ≡ o))
    by_first true (inl same) more = inl (inl same)
    by_first true (inr among) more = elim (more among) [ inl was ↦ inl (inr was) | inr new ↦ inr new ]
    by_first false among more = more among

    by_new : (b : Bool) → (w == v) ≡ b → Among y (if b then o ∷ registered (pair ∷ pairs) v else registered (pair ∷ pairs) v)
        → Among y (registered (pair ∷ pairs) v) ⊎ ((w ≡ v) × (y ≡ o))
    by_new true is (inl same) = inr (eqb-true w v is, same)
    by_new true is (inr among) = inl among
    by_new false is among = inl among

    by_place : (b c : Bool)
        → Among y (registered (if b then pair ∷ pairs else if c then (w, o) ∷ pair ∷ pairs else pair ∷ with_pair w o pairs) v)
        → (Among y (registered (with_pair w o pairs) v) → Among y (registered pairs v) ⊎ ((w ≡ v) × (y ≡ o)))
        → Among y (registered (pair ∷ pairs) v) ⊎ ((w ≡ v) × (y ≡ o))
    by_place true c among more = inl among
    by_place false true among more = by_new (w == v) refl among
    by_place false false among more = by_first (pair.0 == v) among more

fewer_pairs : (w o v y : ℕ) (pairs : List (ℕ × ℕ)) → Among y (registered (without_pair w o pairs) v)
    → Among y (registered pairs v)
fewer_pairs w o v y [] among = among
fewer_pairs w o v y (pair ∷ pairs) among = by_pair ((pair.0 == w) && (pair.1 == o)) (pair.0 == v) among (λ more. fewer_pairs w o v y pairs more)
  where
    by_first : (c : Bool)
        → Among y (if c then pair.1 ∷ registered (without_pair w o pairs) v else registered (without_pair w o pairs) v)
        → (Among y (registered (without_pair w o pairs) v) → Among y (registered pairs v))
        → Among y (if c then pair.1 ∷ registered pairs v else registered pairs v)
    by_first true (inl same) more = inl same
    by_first true (inr among) more = inr (more among)
    by_first false among more = more among

    skipped : (c : Bool) → Among y (registered pairs v)
        → Among y (if c then pair.1 ∷ registered pairs v else registered pairs v)
    skipped true among = inr among
    skipped false among = among

    by_pair : (b c : Bool)
        → Among y (registered (if b then without_pair w o pairs else pair ∷ without_pair w o pairs) v)
        → (Among y (registered (without_pair w o pairs) v) → Among y (registered pairs v))
        → Among y (if pair.0 == v then pair.1 ∷ registered pairs v else registered pairs v)
    by_pair true c among more = skipped (pair.0 == v) (more among)
    by_pair false c among more = by_first (pair.0 == v) among more

module _ (s : State) (whole : IsWhole s) where
  whole_rest : (pairs : List (ℕ × ℕ)) (noticed : List ℕ)
      → ((w o : ℕ) → Among o (registered pairs w) → IsRegistration s.market w o)
      → ((w : ℕ) → Among w noticed → Among w s.noticed)
      → IsWhole (record s { registrations = pairs; noticed = noticed })
  whole_rest pairs noticed each fewer = record {
    length = whole.length;
    today = whole.today;
    links = whole.links;
    lazy = whole.lazy;
    frozen = whole.frozen;
    forward = whole.forward;
    valued = whole.valued;
    registered = each;
    noticed = λ w among. whole.noticed w (fewer w among);
  }

  -- a watcher is registered with a live object that is no watcher
  pub register_keeps : (w o : ℕ) → IsRegistration s.market w o → Keeps s (registered_with w o s)
  unfolding registered_with
  register_keeps w o new = record {
    whole = whole_rest (with_pair w o s.registrations) s.noticed (λ v y among. elim (more_pairs w o v y s.registrations among) [
      | inl was ↦ whole.registered v y was
      | inr is ↦ subst (λ (u : ℕ). IsRegistration s.market u y) is.0 (subst (IsRegistration s.market w) (sym is.1) new)
    ]) (λ v among. among);
    current = rest_keeps s (with_pair w o s.registrations) s.noticed;
  }

  pub unregister_keeps : (w o : ℕ) → Keeps s (unregistered w o s)
  unfolding unregistered
  unregister_keeps w o = record {
    whole = whole_rest (without_pair w o s.registrations) s.noticed (λ v y among. whole.registered v y (fewer_pairs w o v y s.registrations among)) (λ v among. among);
    current = rest_keeps s (without_pair w o s.registrations) s.noticed;
  }

  -- fewer notices
  pub fewer_keep : (noticed : List ℕ) → ((w : ℕ) → Among w noticed → Among w s.noticed) → Keeps s (record s { noticed = noticed })
  fewer_keep noticed fewer = record {
    whole = whole_rest s.registrations noticed whole.registered fewer;
    current = rest_keeps s s.registrations noticed;
  }

  -- a notice is handed out
  pub hand_out_keeps : (w : ℕ) → Keeps s (handed_out w s)
  unfolding handed_out
  hand_out_keeps w = record {
    whole = whole_rest s.registrations (without w s.noticed) whole.registered (λ v among. without_fewer v w s.noticed among);
    current = rest_keeps s s.registrations (without w s.noticed);
  }
