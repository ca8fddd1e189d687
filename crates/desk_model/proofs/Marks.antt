-- Which mark stands where.
use Rattle.std.proofs.Common.{◌≡◌, ◌↔◌, inl, inr, ℕ, suc, Bool, true, false, length, refl, sym, ◌∙◌}
use Rattle.std.specs.Prelude.{not, if◌then◌else◌, ◌||◌}
use Rattle.std.proofs.lemmas.Bool.{or_cases, or_left, or_right, or_parts, or_from, not-true, not_from_false, false_from_ne_true, false≢true}
use Rattle.walks.specs.Walk.{below_by, Below}
use Rattle.walks.proofs.Ranks.{below_wider}
use Rattle.desk_terms.specs.declared.asked.Mark.{Mark}
use Rattle.desk_terms.specs.declared.asked.Mark.TheVariants.{Fresh, Frozen, Late, Held}
use Rattle.desk_model.specs.Market.{edges}
use Rattle.desk_model.specs.State.{State, is_frozen, is_source, is_held_back, is_late, is_clear, mark_of}
use Rattle.desk_model.specs.Links.{IsWhole}
use Rattle.desk_model.specs.Unheld.{HasSource, HasHeldBeneath, MarksSay}
use Rattle.desk_model.proofs.Paths.{find_paths}

abbrev mark_by : Bool → Bool → Bool → Mark
mark_by frozen late clear = if frozen then Frozen else if late then Late else if clear then Fresh else Held

frozen_by : (f l c : Bool) → (mark_by f l c ≡ Frozen) ↔ (f ≡ true)
frozen_by true l c = (λ e. refl, λ e. refl)
frozen_by false true c = (λ e. absurd (cc), λ e. absurd (cc))
frozen_by false false true = (λ e. absurd (cc), λ e. absurd (cc))
frozen_by false false false = (λ e. absurd (cc), λ e. absurd (cc))

late_by : (f l c : Bool) → (mark_by f l c ≡ Late) ↔ ((f ≡ false) × (l ≡ true))
late_by true l c = (λ e. absurd (cc), λ p. let e = p.0 in absurd (cc))
late_by false true c = (λ e. (refl, refl), λ p. refl)
late_by false false true = (λ e. absurd (cc), λ p. let e = p.1 in absurd (cc))
late_by false false false = (λ e. absurd (cc), λ p. let e = p.1 in absurd (cc))

fresh_by : (f l c : Bool) → (c ≡ true → f ≡ false) → (c ≡ true → l ≡ false) → (mark_by f l c ≡ Fresh) ↔ (c ≡ true)
fresh_by f l false thawed early = (λ e. none f l e, λ e. absurd (cc))
  where
    none : (f l : Bool) → mark_by f l false ≡ Fresh → false ≡ true
    none true l e = absurd (cc)
    none false true e = absurd (cc)
    none false false e = absurd (cc)
fresh_by true l true thawed early = let e = thawed refl in absurd (cc)
fresh_by false true true thawed early = let e = early refl in absurd (cc)
fresh_by false false true thawed early = (λ e. refl, λ e. refl)

-- a clear object is not held back, and neither is any beneath it
pub clear_back : (s : State) (o : ℕ) → is_clear s o ≡ true → is_held_back s o ≡ false
unfolding is_clear
clear_back s o clear = (or_parts (is_held_back s o) _ (not-true _ clear)).0

clear_beneath : (s : State) (o : ℕ) → is_clear s o ≡ true
    → below_by (edges s.market) (is_held_back s) (λ x. true) (suc (length s.market.objects)) o ≡ false
unfolding is_clear
clear_beneath s o clear = (or_parts (is_held_back s o) _ (not-true _ clear)).1

clear_from : (s : State) (o : ℕ) → is_held_back s o ≡ false
    → below_by (edges s.market) (is_held_back s) (λ x. true) (suc (length s.market.objects)) o ≡ false → is_clear s o ≡ true
unfolding is_clear
clear_from s o back beneath = not_from_false _ (or_from (is_held_back s o) _ back beneath)

pub clear_thawed : (s : State) (o : ℕ) → is_clear s o ≡ true → is_frozen s o ≡ false
clear_thawed s o clear = (or_parts (is_frozen s o) (is_source s o) (clear_back s o clear)).0

module _ (s : State) (whole : IsWhole s) (o : ℕ) where
  late_source : (is_late s o ≡ true) ↔ HasSource s o
  unfolding is_late
  late_source = (found, back)
    where
      paths : (below_by (edges s.market) (is_source s) (λ x. not (is_frozen s x)) (suc (length s.market.objects)) o ≡ true) ↔ Below (edges s.market) (is_source s) (λ x. not (is_frozen s x)) o
      paths = (find_paths s whole).late o

      found : (is_source s o || below_by (edges s.market) (is_source s) (λ x. not (is_frozen s x)) (suc (length s.market.objects)) o) ≡ true → HasSource s o
      found late = elim (or_cases (is_source s o) _ late) [
        | inl own ↦ inl own
        | inr deep ↦ inr (paths.0 deep)
      ]

      back : HasSource s o → (is_source s o || below_by (edges s.market) (is_source s) (λ x. not (is_frozen s x)) (suc (length s.market.objects)) o) ≡ true
      back (inl own) = or_left (is_source s o) _ own
      back (inr deep) = or_right (is_source s o) _ (paths.1 deep)

  clear_found : (below_by (edges s.market) (is_held_back s) (λ x. true) (suc (length s.market.objects)) o ≡ true) ↔ HasHeldBeneath s o
  clear_found = (find_paths s whole).clear o

  clear_paths : (is_clear s o ≡ true) ↔ ((is_held_back s o ≡ false) × (HasHeldBeneath s o → ⊥))
  clear_paths = (
    λ clear. (clear_back s o clear, λ beneath. false≢true (sym (clear_beneath s o clear) ∙ clear_found.1 beneath)),
    λ p. clear_from s o p.0 (false_from_ne_true _ (λ deep. p.1 (clear_found.0 deep))),
  )

  clear_early : is_clear s o ≡ true → is_late s o ≡ false
  clear_early clear = false_from_ne_true (is_late s o) (λ late. none (late_source.0 late))
    where
      none : HasSource s o → ⊥
      none (inl own) = false≢true (sym (or_parts (is_frozen s o) (is_source s o) (clear_back s o clear)).1 ∙ own)
      none (inr deep) = (clear_paths.0 clear).1 (below_wider (edges s.market) (is_source s) (is_held_back s) (λ x. not (is_frozen s x)) (λ x. true)
          (λ x e. or_right (is_frozen s x) (is_source s x) e) (λ x e. refl) o deep)

  pub marks_say : MarksSay s o
  unfolding mark_of
  marks_say =
      let late = late_by (is_frozen s o) (is_late s o) (is_clear s o) in
      record {
        frozen = frozen_by (is_frozen s o) (is_late s o) (is_clear s o);
        late = (λ e. ((late.0 e).0, late_source.0 (late.0 e).1), λ p. late.1 (p.0, late_source.1 p.1));
        fresh = fresh_by (is_frozen s o) (is_late s o) (is_clear s o) (clear_thawed s o) clear_early;
        clear = clear_paths;
      }

-- a clear object that is not late is marked fresh
pub fresh_mark : (s : State) (o : ℕ) → is_clear s o ≡ true → is_late s o ≡ false → mark_of s o ≡ Fresh
unfolding mark_of
fresh_mark s o clear early = (fresh_by (is_frozen s o) (is_late s o) (is_clear s o) (clear_thawed s o) (λ e. early)).1 clear
