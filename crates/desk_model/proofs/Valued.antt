-- What a bench whose prices fit shows of an object is a value that the object may have.
use Rattle.std.proofs.Common.{◌≡◌, ℕ, zero, suc, Bool, true, false, List, length, Option, Some, None, Result, Ok, Err, refl, ap, subst}
use Rattle.std.specs.Prelude.{◌||◌, if◌then◌else◌}
use Rattle.desk_terms.specs.declared.terms.Terms.{Terms}
use Rattle.desk_terms.specs.declared.value.Value.{Value}
use Rattle.desk_terms.specs.declared.value.Input as input
use Rattle.desk_terms.specs.declared.cause.Cause.{Cause}
use Rattle.desk_terms.specs.declared.cause.Cause.TheVariants.{Unset}
use Rattle.desk_terms.specs.Reading.{Outcome, Calc, Fits, IsFitting}
use Rattle.desk_model.specs.Market.{Market, terms_at, role_of, is_lazy}
use Rattle.desk_model.specs.Uses.{input_at, uses_of, reading_at}
use Rattle.desk_model.specs.Fresh.{inputs_by, reading_over, priced, priced_by, or_priced, answer_by}
use Rattle.desk_model.specs.State.{State, kept_at, last_of, last_answer, is_frozen, is_late, held_outcome, seen_outcome, now}
use Rattle.desk_model.specs.Links.{is_lazy_at, AreOfKind, IsKinded, IsValued, IsWhole, IsRanged, AreRanged}
use Rattle.desk_model.specs.Laws.{AreValues}
use Rattle.desk_model.proofs.Wants.{well_formed}

-- A PRICE over answers that fit is a value that the object may have
priced_valued : (calc : Calc) → IsFitting calc → (m : Market) → IsKinded m → AreRanged m → (f : ℕ → Outcome) → AreValues m f
    → (o : ℕ) (value : Value) → is_lazy_at m o ≡ true → priced_by calc m f o ≡ Ok value → IsValued (terms_at m o) o value
priced_valued calc fits m kinds ranged f values o value lazy price = by_terms (terms_at m o) (kinds o) (ranged o) lazy (inputs_by f (uses_of (input_at m) m o (terms_at m o))) refl price
  where
    by_terms : (t : Option Terms) → AreOfKind m t → IsRanged t → is_lazy (role_of t) ≡ true
        → (r : Result (List input.Input) Cause) → inputs_by f (uses_of (input_at m) m o t) ≡ r
        → priced calc (reading_over m o t r) ≡ Ok value → IsValued t o value
    by_terms None kind range lazy r is price = absurd (cc)
    by_terms (Some terms) kind range lazy (Err cause) is price = absurd (cc)
    by_terms (Some terms) kind range lazy (Ok inputs) is price =
        subst (Fits (reading_at m o terms inputs)) price (fits (reading_at m o terms inputs) (well_formed m kinds f values o terms inputs range kind lazy is))

module _ (calc : Calc) (fits : IsFitting calc) (s : State) (whole : IsWhole s) (kinds : IsKinded s.market) (ranged : AreRanged s.market) where
  -- what an object is held at
  held_valued : (o : ℕ) (value : Value) (b : Bool) (otherwise : Outcome)
      → (otherwise ≡ Ok value → IsValued (terms_at s.market o) o value)
      → or_priced (if b then Some (last_answer s o) else None) otherwise ≡ Ok value → IsValued (terms_at s.market o) o value
  held_valued o value true otherwise more is = whole.valued o value (last_some (kept_at s o).last is)
    where
      last_some : (l : Option Value) → last_of o l ≡ Ok value → l ≡ Some value
      last_some None e = absurd (cc)
      last_some (Some v) e = let same : v ≡ value = cc in ap Some same
  held_valued o value false otherwise more is = more is

  answer_valued : (n : ℕ) → AreValues s.market (answer_by calc s.market (held_outcome s) n)
  unfolding answer_by held_outcome
  answer_valued zero o value lazy is = held_valued o value (is_frozen s o || is_late s o) (Err (Unset o)) (λ e. absurd (cc)) is
  answer_valued (suc n) o value lazy is = held_valued o value (is_frozen s o || is_late s o) (priced_by calc s.market (answer_by calc s.market (held_outcome s) n) o)
      (λ e. priced_valued calc fits s.market kinds ranged (answer_by calc s.market (held_outcome s) n) (answer_valued n) o value lazy e) is

  -- WHAT IS SEEN of an object
  pub seen_values : AreValues s.market (seen_outcome calc s)
  unfolding seen_outcome
  seen_values = answer_valued (suc (length s.market.objects))

  -- and its price over what is seen
  pub now_valued : (o : ℕ) → is_lazy_at s.market o ≡ true → (value : Value) → now calc s o ≡ Ok value
      → IsValued (terms_at s.market o) o value
  unfolding now
  now_valued o lazy value is = priced_valued calc fits s.market kinds ranged (seen_outcome calc s) seen_values o value lazy is
