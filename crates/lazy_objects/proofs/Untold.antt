-- Values that calls leave are stored, and nobody is told.
use Rattle.std.proofs.Common.{◌≡◌, inl, inr, ℕ, ◌+◌, true, List, length, Option, Some, None, Result, Ok, Err, refl, sym, ◌∙◌, ap, subst}
use Rattle.std.specs.Prelude.{OnErr}
use Rattle.std.proofs.lemmas.List.{get_or_past}
use Rattle.std.proofs.lemmas.Bool.{cases_lt}
use Rattle.desk_terms.specs.declared.value.Value.{Value}
use Rattle.desk_terms.specs.Reading.{Outcome}
use Rattle.desk_model.specs.declared.kept.Kept.{Kept}
use Rattle.desk_model.specs.State.{State, kept_at, unpriced, is_frozen, is_source}
use Rattle.desk_model.specs.Visit.{value_among, with_value, stored}
use Rattle.desk_model.proofs.Stores.{each_at, each_past}
use Rattle.lazy_objects.specs.Untold.{TellsNobody}

-- what is stored of an object behind calls is with a value of it, or as it was
stored_with : (s : State) (calls : List (ℕ × Outcome)) (x : ℕ) → (value : Option Value) × (kept_at (stored s calls) x ≡ with_value (kept_at s x) value)
unfolding stored
stored_with s calls x = elim (cases_lt x (length s.kept)) [
  | inl within ↦ (value_among calls (0 + x), each_at (λ o kept. with_value kept (value_among calls o)) 0 x s.kept within)
  | inr past ↦ (None, each_past (λ o kept. with_value kept (value_among calls o)) 0 x s.kept past ∙ sym (get_or_past s.kept x unpriced past))
]

with_current : (k : Kept) (value : Option Value) → k.current ≡ true → (with_value k value).current ≡ true
with_current k (Some value) is = refl
with_current k None is = is

with_source : (k : Kept) (value : Option Value) → (with_value k value).source ≡ k.source
with_source k (Some value) = refl
with_source k None = refl

with_frozen : (k : Kept) (value : Option Value) → (with_value k value).frozen ≡ k.frozen
with_frozen k (Some value) = refl
with_frozen k None = refl

stored_noticed : (s : State) (calls : List (ℕ × Outcome)) → (stored s calls).noticed ≡ s.noticed
unfolding stored
stored_noticed s calls = refl

pub stored_untold : (s t : State) (calls : List (ℕ × Outcome)) → t ≡ stored s calls → TellsNobody s t
unfolding is_source is_frozen
stored_untold s t calls is =
    subst (λ (z : State). TellsNobody s z) (sym is) (record {
      current = λ x current. let one = stored_with s calls x in ap (λ (k : Kept). k.current) one.1 ∙ with_current (kept_at s x) one.0 current;
      sources = λ x. let one = stored_with s calls x in ap (λ (k : Kept). k.source) one.1 ∙ with_source (kept_at s x) one.0;
      frozen = λ x. let one = stored_with s calls x in ap (λ (k : Kept). k.frozen) one.1 ∙ with_frozen (kept_at s x) one.0;
      noticed = stored_noticed s calls;
    })

-- what follows of an answer of want of memory
pub on_err : {X E : Type 0} (P Q : Type 0) (r : Result X E) → (P → Q) → OnErr r P → OnErr r Q
on_err P Q (Ok x) so is = tt
on_err P Q (Err e) so is = so is
