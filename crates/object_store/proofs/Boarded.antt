-- The objects of a desk over their slots and the board of quotes.
use Rattle.std.proofs.Common.{◌≡◌, ◌≢◌, inl, inr, ℕ, zero, suc, ◌+◌, ◌<◌, Bool, true, false, List, [], ◌∷◌, ◌++◌, length, Option, Some, None, refl, sym, ◌∙◌, ap, subst, arith}
use Rattle.std.specs.Prelude.{ℤ, ◌==◌, slice_index_or, slice_set, is_some, not, if◌then◌else◌, Result, Ok, Err, OnOk, OnErr}
use Rattle.std.proofs.lemmas.List.{length-set, get_or-set_same, get_or-set_other, get_or_past, get_or_read, set-get_or}
use Rattle.std.proofs.lemmas.Bool.{cases_eq, cases_lt, eq-eqb, eqb-true, false_from_ne_true, false≢true}
use Rattle.quote_board.specs.Board.{Board, entry, is_equal, IsPut, IsSame}
use Rattle.desk_terms.specs.declared.kind.Kind.TheVariants as kind
use Rattle.desk_terms.specs.declared.terms.HandleKind.TheVariants as handle
use Rattle.std.specs.Option.{option_eq}
use Rattle.std.specs.Ordering.{int_eq}
use Rattle.std.proofs.lemmas.Bool.Decides.{Decides-int_eq}
use Rattle.desk_model.specs.Changeable.{changeable}
use Rattle.flow_terms.specs.declared.flows.FlowTerms.{FlowTerms}
use Rattle.flow_terms.specs.declared.indexes.IndexTerms.{IndexTerms}
use Rattle.flow_terms.specs.Fixings.{Stored}
use Rattle.object_store.specs.Slots.{holds_value, has_fixings}
use Rattle.desk_terms.specs.declared.terms.Part.{Part}
use Rattle.desk_terms.specs.declared.terms.Terms.{Terms}
use Rattle.desk_terms.specs.declared.terms.Terms.TheVariants.{Quote, Derived, Handle, Curve, Implied, Index, Engine, Stock, Composite, Flows}
use Rattle.desk_model.specs.declared.slot.Slot.{Slot}
use Rattle.desk_model.specs.declared.slot.Slot.TheVariants.{Free, Today, Watcher, Live}
use Rattle.desk_model.specs.Market.{terms_in, kind_in}
use Rattle.object_store.specs.Objects.{quoted, with_quote, bare, has_quote, valued, joined, joined_from, objects_of, IsBoarded}
use Rattle.object_store.proofs.Kept.{same_lists}

length_from : (board : Board) (at : ℕ) (slots : List Slot) → length (joined_from board at slots) ≡ length slots
length_from board at [] = refl
length_from board at (slot ∷ slots) = ap suc (length_from board (at + 1) slots)

pub length-objects : (board : Board) (slots : List Slot) → length (objects_of board slots) ≡ length slots
length-objects board slots = length_from board 0 slots

joined_free : (e : Option (Option ℤ)) → joined e Free ≡ Free
joined_free None = refl
joined_free (Some value) = refl

there_from : (board : Board) (at x : ℕ) (slots : List Slot) → slice_index_or (joined_from board at slots) x Free ≡ joined (entry board (at + x)) (slice_index_or slots x Free)
there_from board at x [] = sym (joined_free (entry board (at + x)))
there_from board at zero (slot ∷ slots) = let e : at ≡ at + zero = omega arith in ap (λ (n : ℕ). joined (entry board n) slot) e
there_from board at (suc x) (slot ∷ slots) = there_from board (at + 1) x slots ∙ (let e : at + 1 + x ≡ at + suc x = omega arith in ap (λ (n : ℕ). joined (entry board n) (slice_index_or slots x Free)) e)

-- what stands at a number
pub object_at : (board : Board) (slots : List Slot) (x : ℕ) → slice_index_or (objects_of board slots) x Free ≡ joined (entry board x) (slice_index_or slots x Free)
object_at board slots x = there_from board 0 x slots ∙ (let e : 0 + x ≡ x = omega arith in ap (λ (n : ℕ). joined (entry board n) (slice_index_or slots x Free)) e)

if_same : {A : Type 0} (x : ℕ) (a b : A) → (if x == x then a else b) ≡ a
if_same x a b = ap (λ (c : Bool). if c then a else b) (eq-eqb x x refl)

if_other : {A : Type 0} (y x : ℕ) (a b : A) → y ≢ x → (if y == x then a else b) ≡ b
if_other y x a b other = ap (λ (c : Bool). if c then a else b) (false_from_ne_true (y == x) (λ e. other (eqb-true y x e)))

put_there : (board new : Board) (x : ℕ) (put : Option (Option ℤ)) → IsPut x put board new → entry new x ≡ put
put_there board new x put is = is x ∙ if_same x put (entry board x)

put_else : (board new : Board) (x y : ℕ) (put : Option (Option ℤ)) → IsPut x put board new → y ≢ x → entry new y ≡ entry board y
put_else board new x y put is other = is y ∙ if_other y x put (entry board y) other

-- a board stays as it is where what it has is put
pub put_held : (board : Board) (x : ℕ) → IsPut x (entry board x) board board
put_held board x y = elim (cases_eq y x) [
  | inl same ↦ ap (entry board) same ∙ sym (if_same x (entry board x) (entry board x)) ∙ ap (λ (n : ℕ). if n == x then entry board x else entry board n) (sym same)
  | inr other ↦ sym (if_other y x (entry board x) (entry board y) other)
]

-- one slot and what the board has at its number
pub objects_set : (board new : Board) (slots : List Slot) (x : ℕ) (put : Option (Option ℤ)) (slot : Slot) → x < length slots → IsPut x put board new
    → objects_of new (slice_set slots x slot) ≡ slice_set (objects_of board slots) x (joined put slot)
objects_set board new slots x put slot within is = same_lists (objects_of new (slice_set slots x slot)) (slice_set (objects_of board slots) x (joined put slot)) Free
    (length-objects new (slice_set slots x slot) ∙ length-set slots x slot ∙ sym (length-set (objects_of board slots) x (joined put slot) ∙ length-objects board slots)) each
  where
    each : (y : ℕ) → slice_index_or (objects_of new (slice_set slots x slot)) y Free ≡ slice_index_or (slice_set (objects_of board slots) x (joined put slot)) y Free
    each y = elim (cases_eq y x) [
      | inl same ↦ ap (λ (n : ℕ). slice_index_or (objects_of new (slice_set slots x slot)) n Free) same ∙ object_at new (slice_set slots x slot) x
          ∙ ap (λ (e : Option (Option ℤ)). joined e (slice_index_or (slice_set slots x slot) x Free)) (put_there board new x put is) ∙ ap (joined put) (get_or-set_same slots x slot Free within)
          ∙ sym (get_or-set_same (objects_of board slots) x (joined put slot) Free (subst (λ (n : ℕ). x < n) (sym (length-objects board slots)) within))
          ∙ ap (λ (n : ℕ). slice_index_or (slice_set (objects_of board slots) x (joined put slot)) n Free) (sym same)
      | inr other ↦ object_at new (slice_set slots x slot) y ∙ ap (λ (e : Option (Option ℤ)). joined e (slice_index_or (slice_set slots x slot) y Free)) (put_else board new x y put is other)
          ∙ ap (joined (entry board y)) (get_or-set_other slots x y slot Free other) ∙ sym (object_at board slots y) ∙ sym (get_or-set_other (objects_of board slots) x y (joined put slot) Free other)
    ]

pub boarded_set : (board new : Board) (slots : List Slot) (x : ℕ) (put : Option (Option ℤ)) (slot : Slot) → x < length slots → IsPut x put board new
    → is_some put ≡ has_quote slot → valued None slot ≡ slot → IsBoarded board slots → IsBoarded new (slice_set slots x slot)
boarded_set board new slots x put slot within is quote plain before = record { quotes = quotes; bare = naked }
  where
    quotes : (y : ℕ) → is_some (entry new y) ≡ has_quote (slice_index_or (slice_set slots x slot) y Free)
    quotes y = elim (cases_eq y x) [
      | inl same ↦ ap (λ (n : ℕ). is_some (entry new n)) same ∙ ap is_some (put_there board new x put is) ∙ quote ∙ ap has_quote (sym (get_or-set_same slots x slot Free within))
          ∙ ap (λ (n : ℕ). has_quote (slice_index_or (slice_set slots x slot) n Free)) (sym same)
      | inr other ↦ ap is_some (put_else board new x y put is other) ∙ before.quotes y ∙ ap has_quote (sym (get_or-set_other slots x y slot Free other))
    ]

    naked : (y : ℕ) → valued None (slice_index_or (slice_set slots x slot) y Free) ≡ slice_index_or (slice_set slots x slot) y Free
    naked y = elim (cases_eq y x) [
      | inl same ↦ subst (λ (n : ℕ). valued None (slice_index_or (slice_set slots x slot) n Free) ≡ slice_index_or (slice_set slots x slot) n Free) (sym same)
          (subst (λ (s : Slot). valued None s ≡ s) (sym (get_or-set_same slots x slot Free within)) plain)
      | inr other ↦ subst (λ (s : Slot). valued None s ≡ s) (sym (get_or-set_other slots x y slot Free other)) (before.bare y)
    ]

added_from : (board new : Board) (at : ℕ) (slots : List Slot) (slot : Slot) → ((y : ℕ) → y < at + length slots → entry new y ≡ entry board y)
    → joined_from new at (slots ++ slot ∷ []) ≡ joined_from board at slots ++ joined (entry new (at + length slots)) slot ∷ []
added_from board new at [] slot same = let e : at ≡ at + 0 = omega arith in ap (λ (n : ℕ). joined (entry new n) slot ∷ []) e
added_from board new at (first ∷ slots) slot same = ap (λ (e : Option (Option ℤ)). joined e first ∷ joined_from new (at + 1) (slots ++ slot ∷ [])) (same at (omega arith))
    ∙ ap (λ (l : List Slot). joined (entry board at) first ∷ l) (added_from board new (at + 1) slots slot (λ y low. same y (omega (arith, low)))
    ∙ (let e : at + 1 + length slots ≡ at + suc (length slots) = omega arith in ap (λ (n : ℕ). joined_from board (at + 1) slots ++ joined (entry new n) slot ∷ []) e))

-- one object more
pub objects_added : (board new : Board) (slots : List Slot) (put : Option (Option ℤ)) (slot : Slot) → IsPut (length slots) put board new
    → objects_of new (slots ++ slot ∷ []) ≡ objects_of board slots ++ joined put slot ∷ []
objects_added board new slots put slot is = added_from board new 0 slots slot (λ y low. put_else board new (length slots) y put is (λ e. absurd (omega (arith, low, e))))
    ∙ (let e : 0 + length slots ≡ length slots = omega arith in ap (λ (n : ℕ). objects_of board slots ++ joined (entry new n) slot ∷ []) e)
    ∙ ap (λ (e : Option (Option ℤ)). objects_of board slots ++ joined e slot ∷ []) (put_there board new (length slots) put is)

at_end : (slots : List Slot) (slot : Slot) → slice_index_or (slots ++ slot ∷ []) (length slots) Free ≡ slot
at_end [] slot = refl
at_end (first ∷ slots) slot = at_end slots slot

before_end : (slots : List Slot) (slot : Slot) (y : ℕ) → y ≢ length slots → slice_index_or (slots ++ slot ∷ []) y Free ≡ slice_index_or slots y Free
before_end [] slot zero other = absurd (other refl)
before_end [] slot (suc y) other = refl
before_end (first ∷ slots) slot zero other = refl
before_end (first ∷ slots) slot (suc y) other = before_end slots slot y (λ e. other (ap suc e))

pub boarded_added : (board new : Board) (slots : List Slot) (put : Option (Option ℤ)) (slot : Slot) → IsPut (length slots) put board new
    → is_some put ≡ has_quote slot → valued None slot ≡ slot → IsBoarded board slots → IsBoarded new (slots ++ slot ∷ [])
boarded_added board new slots put slot is quote plain before = record { quotes = quotes; bare = naked }
  where
    quotes : (y : ℕ) → is_some (entry new y) ≡ has_quote (slice_index_or (slots ++ slot ∷ []) y Free)
    quotes y = elim (cases_eq y (length slots)) [
      | inl same ↦ ap (λ (n : ℕ). is_some (entry new n)) same ∙ ap is_some (put_there board new (length slots) put is) ∙ quote ∙ ap has_quote (sym (at_end slots slot))
          ∙ ap (λ (n : ℕ). has_quote (slice_index_or (slots ++ slot ∷ []) n Free)) (sym same)
      | inr other ↦ ap is_some (put_else board new (length slots) y put is other) ∙ before.quotes y ∙ ap has_quote (sym (before_end slots slot y other))
    ]

    naked : (y : ℕ) → valued None (slice_index_or (slots ++ slot ∷ []) y Free) ≡ slice_index_or (slots ++ slot ∷ []) y Free
    naked y = elim (cases_eq y (length slots)) [
      | inl same ↦ subst (λ (n : ℕ). valued None (slice_index_or (slots ++ slot ∷ []) n Free) ≡ slice_index_or (slots ++ slot ∷ []) n Free) (sym same)
          (subst (λ (s : Slot). valued None s ≡ s) (sym (at_end slots slot)) plain)
      | inr other ↦ subst (λ (s : Slot). valued None s ≡ s) (sym (before_end slots slot y other)) (before.bare y)
    ]

-- a quote's slot, with a value
pub quote_valued : (value : Option ℤ) (slot : Slot) → has_quote slot ≡ true → valued value slot ≡ Live (Quote value)
quote_valued value Free is = absurd (false≢true is)
quote_valued value Today is = absurd (false≢true is)
quote_valued value Watcher is = absurd (false≢true is)
quote_valued value (Live terms) is = ap Live (by_kind terms is)
  where
    by_kind : (t : Terms) → is_some (quoted t) ≡ true → with_quote value t ≡ Quote value
    by_kind (Quote held) is = refl
    by_kind (Derived minus first second) is = absurd (false≢true is)
    by_kind (Handle kind target) is = absurd (false≢true is)
    by_kind (Curve terms) is = absurd (false≢true is)
    by_kind (Implied curve reference) is = absurd (false≢true is)
    by_kind (Index terms fixings) is = absurd (false≢true is)
    by_kind (Engine curve) is = absurd (false≢true is)
    by_kind (Stock quote) is = absurd (false≢true is)
    by_kind (Composite parts) is = absurd (false≢true is)
    by_kind (Flows flows engine) is = absurd (false≢true is)

-- terms that are no quote's
pub plain_terms : (value : Option ℤ) (t : Terms) → quoted t ≡ None → with_quote value t ≡ t
plain_terms value (Quote held) is = absurd (cc)
plain_terms value (Derived minus first second) is = refl
plain_terms value (Handle kind target) is = refl
plain_terms value (Curve terms) is = refl
plain_terms value (Implied curve reference) is = refl
plain_terms value (Index terms fixings) is = refl
plain_terms value (Engine curve) is = refl
plain_terms value (Stock quote) is = refl
plain_terms value (Composite parts) is = refl
plain_terms value (Flows flows engine) is = refl

twice : (a b : Option ℤ) (t : Terms) → with_quote a (with_quote b t) ≡ with_quote a t
twice a b (Quote held) = refl
twice a b (Derived minus first second) = refl
twice a b (Handle kind target) = refl
twice a b (Curve terms) = refl
twice a b (Implied curve reference) = refl
twice a b (Index terms fixings) = refl
twice a b (Engine curve) = refl
twice a b (Stock quote) = refl
twice a b (Composite parts) = refl
twice a b (Flows flows engine) = refl

-- the terms of a slot are those of the object without the value of a quote
pub bare_terms : (e : Option (Option ℤ)) (slot : Slot) → valued None slot ≡ slot → terms_in slot ≡ bare (terms_in (joined e slot))
bare_terms e slot plain = ap terms_in (sym plain) ∙ by_slot e slot
  where
    by_slot : (e : Option (Option ℤ)) (s : Slot) → terms_in (valued None s) ≡ bare (terms_in (joined e s))
    by_slot None Free = refl
    by_slot None Today = refl
    by_slot None Watcher = refl
    by_slot None (Live terms) = refl
    by_slot (Some value) Free = refl
    by_slot (Some value) Today = refl
    by_slot (Some value) Watcher = refl
    by_slot (Some value) (Live terms) = ap Some (sym (twice None value terms))

same_kind : (e : Option (Option ℤ)) (s : Slot) → kind_in s ≡ kind_in (joined e s)
same_kind None s = refl
same_kind (Some value) Free = refl
same_kind (Some value) Today = refl
same_kind (Some value) Watcher = refl
same_kind (Some value) (Live terms) = by_kind terms
  where
    by_kind : (t : Terms) → kind_in (Live t) ≡ kind_in (Live (with_quote value t))
    by_kind (Quote held) = refl
    by_kind (Derived minus first second) = refl
    by_kind (Handle kind target) = refl
    by_kind (Curve terms) = refl
    by_kind (Implied curve reference) = refl
    by_kind (Index terms fixings) = refl
    by_kind (Engine curve) = refl
    by_kind (Stock quote) = refl
    by_kind (Composite parts) = refl
    by_kind (Flows flows engine) = refl

-- the kind of an object is that of its slot
pub kind_of_slot : (board : Board) (slots : List Slot) (x : ℕ) → kind_in (slice_index_or slots x Free) ≡ kind_in (slice_index_or (objects_of board slots) x Free)
kind_of_slot board slots x = same_kind (entry board x) (slice_index_or slots x Free) ∙ ap kind_in (sym (object_at board slots x))

still_quote : (e : Option (Option ℤ)) (s : Slot) → has_quote (joined e s) ≡ has_quote s
still_quote None s = refl
still_quote (Some value) Free = refl
still_quote (Some value) Today = refl
still_quote (Some value) Watcher = refl
still_quote (Some value) (Live terms) = by_kind terms
  where
    by_kind : (t : Terms) → is_some (quoted (with_quote value t)) ≡ is_some (quoted t)
    by_kind (Quote held) = refl
    by_kind (Derived minus first second) = refl
    by_kind (Handle kind target) = refl
    by_kind (Curve terms) = refl
    by_kind (Implied curve reference) = refl
    by_kind (Index terms fixings) = refl
    by_kind (Engine curve) = refl
    by_kind (Stock quote) = refl
    by_kind (Composite parts) = refl
    by_kind (Flows flows engine) = refl

-- a quote's slot holds a quote
pub quote_of_slot : (board : Board) (slots : List Slot) (x : ℕ) → has_quote (slice_index_or (objects_of board slots) x Free) ≡ has_quote (slice_index_or slots x Free)
quote_of_slot board slots x = ap has_quote (object_at board slots x) ∙ still_quote (entry board x) (slice_index_or slots x Free)

-- what is not a quote is as its slot has it
pub plain_slot : (value : Option ℤ) (s : Slot) → has_quote s ≡ false → valued value s ≡ s
plain_slot value Free is = refl
plain_slot value Today is = refl
plain_slot value Watcher is = refl
plain_slot value (Live terms) is = ap Live (plain_terms value terms (by_test (quoted terms) is))
  where
    by_test : (q : Option (Option ℤ)) → is_some q ≡ false → q ≡ None
    by_test None is = refl
    by_test (Some v) is = absurd (false≢true (sym is))

none_of_false : {A : Type 0} (e : Option A) → is_some e ≡ false → e ≡ None
none_of_false None is = refl
none_of_false (Some a) is = absurd (false≢true (sym is))

some_apart : (e : Option (Option ℤ)) → is_some e ≡ true → e ≡ None → ⊥
some_apart e is none = false≢true (ap is_some (sym none) ∙ is)

-- where a quote stands, the board has one
pub quote_there : (board : Board) (slots : List Slot) (x : ℕ) → IsBoarded board slots → has_quote (slice_index_or (objects_of board slots) x Free) ≡ true → entry board x ≡ None → ⊥
quote_there board slots x boarded is = some_apart (entry board x) (boarded.quotes x ∙ sym (quote_of_slot board slots x) ∙ is)

quote_within : (slots : List Slot) (x : ℕ) → has_quote (slice_index_or slots x Free) ≡ true → x < length slots
quote_within slots x is = elim (cases_lt x (length slots)) [ inl within ↦ within | inr past ↦ absurd (false≢true (ap has_quote (sym (get_or_past slots x Free past)) ∙ is)) ]

-- the terms of a quote are the board's value
pub quote_terms : (board : Board) (slots : List Slot) (x : ℕ) (value : Option ℤ) → has_quote (slice_index_or (objects_of board slots) x Free) ≡ true → entry board x ≡ Some value
    → slice_index_or (objects_of board slots) x Free ≡ Live (Quote value)
quote_terms board slots x value is has = object_at board slots x ∙ ap (λ (e : Option (Option ℤ)). joined e (slice_index_or slots x Free)) has ∙ quote_valued value (slice_index_or slots x Free) (sym (quote_of_slot board slots x) ∙ is)

pub quote_set_is : (board new : Board) (slots : List Slot) (x : ℕ) (value : Option ℤ) → has_quote (slice_index_or (objects_of board slots) x Free) ≡ true → IsPut x (Some value) board new
    → objects_of new slots ≡ slice_set (objects_of board slots) x (Live (Quote value))
quote_set_is board new slots x value is put =
    let raw = sym (quote_of_slot board slots x) ∙ is in
    ap (objects_of new) (sym (set-get_or slots x Free)) ∙ objects_set board new slots x (Some value) (slice_index_or slots x Free) (quote_within slots x raw) put
    ∙ ap (slice_set (objects_of board slots) x) (quote_valued value (slice_index_or slots x Free) raw)

pub quote_set_boarded : (board new : Board) (slots : List Slot) (x : ℕ) (value : Option ℤ) → has_quote (slice_index_or (objects_of board slots) x Free) ≡ true → IsPut x (Some value) board new → IsBoarded board slots → IsBoarded new slots
quote_set_boarded board new slots x value is put before =
    let raw = sym (quote_of_slot board slots x) ∙ is in
    subst (IsBoarded new) (set-get_or slots x Free)
    (boarded_set board new slots x (Some value) (slice_index_or slots x Free) (quote_within slots x raw) put (sym raw) (before.bare x) before)

module _ (board : Board) (slots : List Slot) (x : ℕ) (terms : Terms) (within : x < length (objects_of board slots)) (boarded : IsBoarded board slots)
    (old : has_quote (slice_index_or (objects_of board slots) x Free) ≡ false) (new : has_quote (Live terms) ≡ false) where
  nothing : entry board x ≡ None
  nothing = none_of_false (entry board x) (boarded.quotes x ∙ sym (quote_of_slot board slots x) ∙ old)

  within_slots : x < length slots
  within_slots = subst (λ (n : ℕ). x < n) (length-objects board slots) within

  pub replaced_is : objects_of board (slice_set slots x (Live terms)) ≡ slice_set (objects_of board slots) x (Live terms)
  replaced_is = objects_set board board slots x (entry board x) (Live terms) within_slots (put_held board x)
      ∙ ap (λ (e : Option (Option ℤ)). slice_set (objects_of board slots) x (joined e (Live terms))) nothing

  pub replaced_boarded : IsBoarded board (slice_set slots x (Live terms))
  replaced_boarded = boarded_set board board slots x (entry board x) (Live terms) within_slots (put_held board x) (ap is_some nothing ∙ sym new) (plain_slot None (Live terms) new) boarded

module _ (board new : Board) (slots : List Slot) (x : ℕ) (within : x < length (objects_of board slots)) (boarded : IsBoarded board slots) (out : IsPut x None board new) where
  pub removed_is : objects_of new (slice_set slots x Free) ≡ slice_set (objects_of board slots) x Free
  removed_is = objects_set board new slots x None Free (subst (λ (n : ℕ). x < n) (length-objects board slots) within) out

  pub removed_boarded : IsBoarded new (slice_set slots x Free)
  removed_boarded = boarded_set board new slots x None Free (subst (λ (n : ℕ). x < n) (length-objects board slots) within) out refl refl boarded

-- nothing stands on the board behind the last number
pub nothing_past : (board : Board) (slots : List Slot) → IsBoarded board slots → entry board (length slots) ≡ None
nothing_past board slots boarded = none_of_false (entry board (length slots)) (boarded.quotes (length slots) ∙ ap has_quote (get_or_past slots (length slots) Free (omega arith)))

value_of : (t : Terms) → joined (quoted t) (Live (with_quote None t)) ≡ Live t
value_of (Quote held) = refl
value_of (Derived minus first second) = refl
value_of (Handle kind target) = refl
value_of (Curve terms) = refl
value_of (Implied curve reference) = refl
value_of (Index terms fixings) = refl
value_of (Engine curve) = refl
value_of (Stock quote) = refl
value_of (Composite parts) = refl
value_of (Flows flows engine) = refl

bare_quote : (t : Terms) → is_some (quoted t) ≡ is_some (quoted (with_quote None t))
bare_quote (Quote held) = refl
bare_quote (Derived minus first second) = refl
bare_quote (Handle kind target) = refl
bare_quote (Curve terms) = refl
bare_quote (Implied curve reference) = refl
bare_quote (Index terms fixings) = refl
bare_quote (Engine curve) = refl
bare_quote (Stock quote) = refl
bare_quote (Composite parts) = refl
bare_quote (Flows flows engine) = refl

module _ (board room new : Board) (slots : List Slot) (terms : Terms) (boarded : IsBoarded board slots) (same : IsSame board room) (put : IsPut (length slots) (quoted terms) room new) where
  over_board : IsPut (length slots) (quoted terms) board new
  over_board y = put y ∙ ap (λ (e : Option (Option ℤ)). if y == length slots then quoted terms else e) (same y)

  pub made_is : objects_of new (slots ++ Live (with_quote None terms) ∷ []) ≡ objects_of board slots ++ Live terms ∷ []
  made_is = objects_added board new slots (quoted terms) (Live (with_quote None terms)) over_board ∙ ap (λ (s : Slot). objects_of board slots ++ s ∷ []) (value_of terms)

  pub made_boarded : IsBoarded new (slots ++ Live (with_quote None terms) ∷ [])
  made_boarded = boarded_added board new slots (quoted terms) (Live (with_quote None terms)) over_board (bare_quote terms) (ap Live (twice None None terms)) boarded

-- a watcher has no quote
module _ (board : Board) (slots : List Slot) (boarded : IsBoarded board slots) where
  nothing_put : IsPut (length slots) None board board
  nothing_put = subst (λ (e : Option (Option ℤ)). IsPut (length slots) e board board) (nothing_past board slots boarded) (put_held board (length slots))

  pub watcher_is : objects_of board (slots ++ Watcher ∷ []) ≡ objects_of board slots ++ Watcher ∷ []
  watcher_is = objects_added board board slots None Watcher nothing_put

  pub watcher_boarded : IsBoarded board (slots ++ Watcher ∷ [])
  watcher_boarded = boarded_added board board slots None Watcher nothing_put refl refl boarded

-- whether the board has this value is whether the quote has it
pub value_is : (board : Board) (slots : List Slot) (x : ℕ) (value : Option ℤ) → IsBoarded board slots → has_quote (slice_index_or (objects_of board slots) x Free) ≡ true
    → is_equal (entry board x) (Some value) ≡ holds_value value (slice_index_or (objects_of board slots) x Free)
value_is board slots x value boarded is = by_entry (entry board x) refl
  where
    by_entry : (e : Option (Option ℤ)) → entry board x ≡ e → is_equal e (Some value) ≡ holds_value value (slice_index_or (objects_of board slots) x Free)
    by_entry None has = absurd (quote_there board slots x boarded is has)
    by_entry (Some held) has = sym (ap (holds_value value) (quote_terms board slots x held is has))

same_value : (held value : Option ℤ) → option_eq int_eq held value ≡ true → held ≡ value
same_value None None is = refl
same_value None (Some b) is = absurd (false≢true is)
same_value (Some a) None is = absurd (false≢true is)
same_value (Some a) (Some b) is = ap Some ((Decides-int_eq a b).0 is)

held_slot : (value : Option ℤ) (s : Slot) → holds_value value s ≡ true → s ≡ Live (Quote value)
held_slot value Free is = absurd (false≢true is)
held_slot value Today is = absurd (false≢true is)
held_slot value Watcher is = absurd (false≢true is)
held_slot value (Live (Quote held)) is = ap (λ (v : Option ℤ). Live (Quote v)) (same_value held value is)
held_slot value (Live (Derived minus first second)) is = absurd (false≢true is)
held_slot value (Live (Handle kind target)) is = absurd (false≢true is)
held_slot value (Live (Curve terms)) is = absurd (false≢true is)
held_slot value (Live (Implied curve reference)) is = absurd (false≢true is)
held_slot value (Live (Index terms fixings)) is = absurd (false≢true is)
held_slot value (Live (Engine curve)) is = absurd (false≢true is)
held_slot value (Live (Stock quote)) is = absurd (false≢true is)
held_slot value (Live (Composite parts)) is = absurd (false≢true is)
held_slot value (Live (Flows flows engine)) is = absurd (false≢true is)

-- the value that a quote has changes nothing
pub held_same : (slots : List Slot) (x : ℕ) (value : Option ℤ) → holds_value value (slice_index_or slots x Free) ≡ true → slice_set slots x (Live (Quote value)) ≡ slots
held_same slots x value is = ap (slice_set slots x) (sym (held_slot value (slice_index_or slots x Free) is)) ∙ set-get_or slots x Free

pub unless_not : (b : Bool) → not b ≡ true → b ≡ false
unless_not true is = absurd (false≢true is)
unless_not false is = refl

pub if_not : (b : Bool) → not b ≡ false → b ≡ true
if_not true is = refl
if_not false is = absurd (false≢true (sym is))

pub kind_quote : (s : Slot) → kind_in s ≡ Some kind.Quote → has_quote s ≡ true
kind_quote Free is = absurd (cc)
kind_quote Today is = absurd (cc)
kind_quote Watcher is = absurd (cc)
kind_quote (Live (Quote held)) is = refl
kind_quote (Live (Derived minus first second)) is = absurd (cc)
kind_quote (Live (Handle handle.Quote target)) is = absurd (cc)
kind_quote (Live (Handle handle.Curve target)) is = absurd (cc)
kind_quote (Live (Curve terms)) is = absurd (cc)
kind_quote (Live (Implied curve reference)) is = absurd (cc)
kind_quote (Live (Index terms fixings)) is = absurd (cc)
kind_quote (Live (Engine curve)) is = absurd (cc)
kind_quote (Live (Stock quote)) is = absurd (cc)
kind_quote (Live (Composite parts)) is = absurd (cc)
kind_quote (Live (Flows flows engine)) is = absurd (cc)

-- what has the terms of no quote
pub terms_plain : (s : Slot) (terms : Terms) → terms_in s ≡ Some terms → is_some (quoted terms) ≡ false → has_quote s ≡ false
terms_plain Free terms is plain = refl
terms_plain Today terms is plain = refl
terms_plain Watcher terms is plain = refl
terms_plain (Live t) terms is plain = ap (λ (u : Terms). is_some (quoted u)) (some_same is) ∙ plain
  where
    some_same : {a b : Terms} → Some a ≡ Some b → a ≡ b
    some_same e = cc

-- an object that has terms is there
pub terms_within : (slots : List Slot) (x : ℕ) (terms : Terms) → terms_in (slice_index_or slots x Free) ≡ Some terms → x < length slots
terms_within slots x terms is = elim (cases_lt x (length slots)) [ inl within ↦ within | inr past ↦ absurd (none_some (ap terms_in (sym (get_or_past slots x Free past)) ∙ is)) ]
  where
    none_some : None ≡ Some terms → ⊥
    none_some e = absurd (cc)

-- where no quote stands, the object is what its slot has
pub plain_is : (board : Board) (slots : List Slot) (x : ℕ) → IsBoarded board slots → has_quote (slice_index_or (objects_of board slots) x Free) ≡ false
    → slice_index_or slots x Free ≡ slice_index_or (objects_of board slots) x Free
plain_is board slots x boarded plain =
    sym (object_at board slots x ∙ ap (λ (e : Option (Option ℤ)). joined e (slice_index_or slots x Free)) (none_of_false (entry board x) (boarded.quotes x ∙ sym (quote_of_slot board slots x) ∙ plain)))

pub flows_slot : (s : Slot) → kind_in s ≡ Some kind.Flows → (flows : FlowTerms) × (held : Option ℕ) × (terms_in s ≡ Some (Flows flows held))
flows_slot Free is = absurd (cc)
flows_slot Today is = absurd (cc)
flows_slot Watcher is = absurd (cc)
flows_slot (Live (Quote held)) is = absurd (cc)
flows_slot (Live (Derived minus first second)) is = absurd (cc)
flows_slot (Live (Handle handle.Quote target)) is = absurd (cc)
flows_slot (Live (Handle handle.Curve target)) is = absurd (cc)
flows_slot (Live (Curve terms)) is = absurd (cc)
flows_slot (Live (Implied curve reference)) is = absurd (cc)
flows_slot (Live (Index terms fixings)) is = absurd (cc)
flows_slot (Live (Engine curve)) is = absurd (cc)
flows_slot (Live (Stock quote)) is = absurd (cc)
flows_slot (Live (Composite parts)) is = absurd (cc)
flows_slot (Live (Flows flows engine)) is = (flows, engine, refl)

pub parts_slot : (s : Slot) → kind_in s ≡ Some kind.Composite → (parts : List Part) × (terms_in s ≡ Some (Composite parts))
parts_slot Free is = absurd (cc)
parts_slot Today is = absurd (cc)
parts_slot Watcher is = absurd (cc)
parts_slot (Live (Quote held)) is = absurd (cc)
parts_slot (Live (Derived minus first second)) is = absurd (cc)
parts_slot (Live (Handle handle.Quote target)) is = absurd (cc)
parts_slot (Live (Handle handle.Curve target)) is = absurd (cc)
parts_slot (Live (Curve terms)) is = absurd (cc)
parts_slot (Live (Implied curve reference)) is = absurd (cc)
parts_slot (Live (Index terms fixings)) is = absurd (cc)
parts_slot (Live (Engine curve)) is = absurd (cc)
parts_slot (Live (Stock quote)) is = absurd (cc)
parts_slot (Live (Composite parts)) is = (parts, refl)
parts_slot (Live (Flows flows engine)) is = absurd (cc)

pub index_slot : (s : Slot) → has_fixings (changeable (terms_in s)) ≡ true → (terms : IndexTerms) × (fixings : Stored) × (terms_in s ≡ Some (Index terms fixings))
index_slot Free is = absurd (false≢true is)
index_slot Today is = absurd (false≢true is)
index_slot Watcher is = absurd (false≢true is)
index_slot (Live (Quote held)) is = absurd (false≢true is)
index_slot (Live (Derived minus first second)) is = absurd (false≢true is)
index_slot (Live (Handle kind target)) is = absurd (false≢true is)
index_slot (Live (Curve terms)) is = absurd (false≢true is)
index_slot (Live (Implied curve reference)) is = absurd (false≢true is)
index_slot (Live (Index terms fixings)) is = (terms, fixings, refl)
index_slot (Live (Engine curve)) is = absurd (false≢true is)
index_slot (Live (Stock quote)) is = absurd (false≢true is)
index_slot (Live (Composite parts)) is = absurd (false≢true is)
index_slot (Live (Flows flows engine)) is = absurd (false≢true is)

-- a slot that is changed in its place, where no quote stands
module _ (board : Board) (slots : List Slot) (x : ℕ) (held : Terms) (boarded : IsBoarded board slots) (is : terms_in (slice_index_or (objects_of board slots) x Free) ≡ Some held) (plain : is_some (quoted held) ≡ false) where
  pub no_quote : has_quote (slice_index_or (objects_of board slots) x Free) ≡ false
  no_quote = terms_plain (slice_index_or (objects_of board slots) x Free) held is plain

  pub slot_within : x < length slots
  slot_within = subst (λ (n : ℕ). x < n) (length-objects board slots) (terms_within (objects_of board slots) x held is)

  pub read_terms : (slot : Slot) → slot ≡ slice_index_or slots x slot → terms_in slot ≡ Some held
  read_terms slot read = ap terms_in (get_or_read slots x slot slot_within read Free ∙ plain_is board slots x boarded no_quote) ∙ is

  pub changed_is : (slot : Slot) (terms : Terms) → slot ≡ Live terms → has_quote (Live terms) ≡ false → objects_of board (slice_set slots x slot) ≡ slice_set (objects_of board slots) x (Live terms)
  changed_is slot terms new bare = ap (λ (s : Slot). objects_of board (slice_set slots x s)) new ∙ replaced_is board slots x terms (terms_within (objects_of board slots) x held is) boarded no_quote bare

  pub changed_boarded : (slot : Slot) (terms : Terms) → slot ≡ Live terms → has_quote (Live terms) ≡ false → IsBoarded board (slice_set slots x slot)
  changed_boarded slot terms new bare = subst (λ (s : Slot). IsBoarded board (slice_set slots x s)) (sym new) (replaced_boarded board slots x terms (terms_within (objects_of board slots) x held is) boarded no_quote bare)

  pub same_slot : (slot old : Slot) → old ≡ slice_index_or slots x old → slot ≡ old → slice_set slots x slot ≡ slots
  same_slot slot old read same = ap (slice_set slots x) (same ∙ get_or_read slots x old slot_within read Free) ∙ set-get_or slots x Free

-- what holds after an answer and after a refusal holds
pub either_way : {V E C A B : Type 0} (r : Result V E) → OnOk r A → OnErr r B → (A → C) → (B → C) → C
either_way (Ok v) ok err by_ok by_err = by_ok ok
either_way (Err e) ok err by_ok by_err = by_err err

pub on_ok : {V E A B : Type 0} (r : Result V E) → OnOk r A → (A → B) → OnOk r B
on_ok (Ok v) ok f = f ok
on_ok (Err e) ok f = ok

pub on_err : {V E A B : Type 0} (r : Result V E) → OnErr r A → (A → B) → OnErr r B
on_err (Ok v) err f = err
on_err (Err e) err f = f err
