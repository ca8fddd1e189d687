-- After an ask every object shows what it showed before, with the same mark.
use Rattle.std.proofs.Common.{◌≡◌, inl, inr, ℕ, zero, suc, Bool, true, false, List, length, Option, Some, None, Err, refl, sym, ◌∙◌, ap}
use Rattle.std.specs.Prelude.{◌||◌, ◌&&◌, ◌==◌, not, if◌then◌else◌}
use Rattle.std.proofs.lemmas.Bool.{cases_Bool}
use Rattle.walks.specs.Walk.{below_by}
use Rattle.walks.proofs.Ranks.{below_same}
use Rattle.desk_terms.specs.Reading.{Outcome, Calc}
use Rattle.desk_terms.specs.declared.cause.Cause.TheVariants.{Unset}
use Rattle.desk_model.specs.declared.kept.Kept.{Kept}
use Rattle.desk_model.specs.Market.{Market, edges, or_number, least_where}
use Rattle.desk_model.specs.Fresh.{priced_by, or_priced, answer_by, fresh}
use Rattle.desk_model.specs.State.{State, last_of, last_answer, is_frozen, is_source, is_late, is_late_of, least_source, is_held_back, is_clear, held_outcome, seen_outcome, mark_of, shows}
use Rattle.desk_model.specs.Links.{IsWhole}
use Rattle.desk_model.specs.Visit.{has_value, runs, stored, asked}
use Rattle.desk_model.proofs.Asked.{stored_not, stored_has, got_within}
use Rattle.desk_model.proofs.Bounds.{same_price}
use Rattle.desk_model.proofs.Visits.{runs_closed, value_of_call}

-- answers over the same of what is held are the same
answers_same : (calc : Calc) (m : Market) (f g : ℕ → Option Outcome) → ((x : ℕ) → f x ≡ g x) → (n o : ℕ)
    → answer_by calc m f n o ≡ answer_by calc m g n o
unfolding answer_by
answers_same calc m f g same zero o = ap (λ (h : Option Outcome). or_priced h (Err (Unset o))) (same o)
answers_same calc m f g same (suc n) o =
    ap (λ (h : Option Outcome). or_priced h (priced_by calc m (answer_by calc m f n) o)) (same o)
    ∙ ap (or_priced (g o)) (same_price calc m (answer_by calc m f n) (answer_by calc m g n) o (λ x among. answers_same calc m f g same n x))

least_same : (p q : ℕ → Bool) → ((x : ℕ) → p x ≡ q x) → (n : ℕ) → least_where p n ≡ least_where q n
least_same p q same zero = refl
least_same p q same (suc n) =
    ap (λ (l : Option ℕ). or_number l (if p n then Some n else None)) (least_same p q same n)
    ∙ ap (λ (b : Bool). or_number (least_where q n) (if b then Some n else None)) (same n)

some_none : {A : Type 0} {a : A} → Some a ≡ None → ⊥
some_none e = cc

module _ (calc : Calc) (s : State) (whole : IsWhole s) (o : ℕ) where
  abbrev calls : List (ℕ × Outcome)
  calls = runs calc s o

  -- flags stay
  pub frozen_same : (x : ℕ) → is_frozen (asked calc o s) x ≡ is_frozen s x
  unfolding is_frozen asked
  frozen_same x = elim (cases_Bool (has_value calls x)) [
    | inl has ↦
        let v = value_of_call calls x has in
        ap (λ (k : Kept). k.frozen) (stored_has s calls x v.0 (got_within calc s whole calls (runs_closed calc s whole.links o) x has) v.1)
    | inr none ↦ ap (λ (k : Kept). k.frozen) (stored_not s calls x none)
  ]

  source_same : (x : ℕ) → is_source (asked calc o s) x ≡ is_source s x
  unfolding is_source asked
  source_same x = elim (cases_Bool (has_value calls x)) [
    | inl has ↦
        let v = value_of_call calls x has in
        ap (λ (k : Kept). k.source) (stored_has s calls x v.0 (got_within calc s whole calls (runs_closed calc s whole.links o) x has) v.1)
    | inr none ↦ ap (λ (k : Kept). k.source) (stored_not s calls x none)
  ]

  -- and so does what is held back and how
  pub late_same : (x : ℕ) → is_late (asked calc o s) x ≡ is_late s x
  unfolding is_late asked stored
  late_same x =
      ap (λ (b : Bool). b || below_by (edges s.market) (is_source (asked calc o s)) (λ y. not (is_frozen (asked calc o s) y)) (suc (length s.market.objects)) x) (source_same x)
      ∙ ap (λ (b : Bool). is_source s x || b)
      (below_same (edges s.market) (is_source (asked calc o s)) (is_source s) (λ y. not (is_frozen (asked calc o s) y)) (λ y. not (is_frozen s y))
      source_same (λ y. ap not (frozen_same y)) (suc (length s.market.objects)) x)

  back_same : (x : ℕ) → is_held_back (asked calc o s) x ≡ is_held_back s x
  back_same x =
      ap (λ (b : Bool). b || is_source (asked calc o s) x) (frozen_same x) ∙ ap (λ (b : Bool). is_frozen s x || b) (source_same x)

  clear_same : (x : ℕ) → is_clear (asked calc o s) x ≡ is_clear s x
  unfolding is_clear asked stored
  clear_same x =
      ap not
      (ap (λ (b : Bool). b || below_by (edges s.market) (is_held_back (asked calc o s)) (λ y. true) (suc (length s.market.objects)) x) (back_same x)
      ∙ ap (λ (b : Bool). is_held_back s x || b)
      (below_same (edges s.market) (is_held_back (asked calc o s)) (is_held_back s) (λ y. true) (λ y. true) back_same (λ y. refl) (suc (length s.market.objects)) x))

  pub mark_same : (x : ℕ) → mark_of (asked calc o s) x ≡ mark_of s x
  unfolding mark_of
  mark_same x = rw (frozen_same x, late_same x, clear_same x) refl

  -- what is held shows the same last value
  held_last : (x : ℕ) → (is_frozen s x || is_late s x) ≡ true → last_answer (asked calc o s) x ≡ last_answer s x
  unfolding held_outcome asked
  held_last x held = elim (cases_Bool (has_value calls x)) [
    | inl has ↦
        let r = runs_closed calc s whole.links o x has in
        absurd (some_none (sym (ap (λ (b : Bool). if b then Some (last_answer s x) else None) held) ∙ r.free))
    | inr none ↦ ap (λ (k : Kept). last_of x k.last) (stored_not s calls x none)
  ]

  held_same : (x : ℕ) → held_outcome (asked calc o s) x ≡ held_outcome s x
  unfolding held_outcome
  held_same x =
      ap (λ (b : Bool). if b then Some (last_answer (asked calc o s) x) else None)
      (ap (λ (b : Bool). b || is_late (asked calc o s) x) (frozen_same x) ∙ ap (λ (b : Bool). is_frozen s x || b) (late_same x))
      ∙ by_held (is_frozen s x || is_late s x) (held_last x)
    where
      by_held : (b : Bool) → (b ≡ true → last_answer (asked calc o s) x ≡ last_answer s x)
          → (if b then Some (last_answer (asked calc o s) x) else None) ≡ (if b then Some (last_answer s x) else None)
      by_held true same = ap (λ (r : Outcome). Some r) (same refl)
      by_held false same = refl

  seen_same : (x : ℕ) → seen_outcome calc (asked calc o s) x ≡ seen_outcome calc s x
  unfolding seen_outcome asked stored
  seen_same x =
      answers_same calc s.market (held_outcome (asked calc o s)) (held_outcome s) held_same (suc (length s.market.objects)) x

  pub shows_same : (x : ℕ) → shows calc (asked calc o s) x ≡ shows calc s x
  unfolding shows asked stored
  shows_same x =
      ap (λ (b : Bool). if b then fresh calc s.market x else seen_outcome calc (asked calc o s) x) (clear_same x)
      ∙ ap (λ (r : Outcome). if is_clear s x then fresh calc s.market x else r) (seen_same x)

  pub source_found : (x : ℕ) → least_source (asked calc o s) x ≡ least_source s x
  unfolding least_source is_late_of asked stored
  source_found x =
      least_same (is_late_of (asked calc o s) x) (is_late_of s x)
      (λ y. ap (λ (b : Bool). b && ((y == x) || below_by (edges s.market) (λ z. z == y) (λ z. not (is_frozen (asked calc o s) z)) (suc (length s.market.objects)) x)) (source_same y)
      ∙ ap (λ (b : Bool). is_source s y && ((y == x) || b))
      (below_same (edges s.market) (λ z. z == y) (λ z. z == y) (λ z. not (is_frozen (asked calc o s) z)) (λ z. not (is_frozen s z)) (λ z. refl) (λ z. ap not (frozen_same z)) (suc (length s.market.objects)) x))
      (length s.market.objects)
