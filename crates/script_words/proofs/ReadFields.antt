-- What the fields of a line that was read hold.
use Rattle.std.proofs.Common.{◌≡◌, ℕ, ◌<◌, ◌≤◌, Bool, true, false, not, ◌||◌, cond, List, [], ◌∷◌, ◌++◌, length, nat_lt, nat_le, slice_get, Option, Some, None, is_some, Result, Ok, Err, ℤ, unsigned_abs, codes, refl, sym, ap, subst, ◌∙◌, ⊎_elim, length-append, arith}
use Rattle.std.specs.Str.{bytes_eq}
use Rattle.std.proofs.lemmas.Bool.{cases_Bool, or_cases, ltb-true, leb-true}
use Rattle.std.proofs.lemmas.List.{get_or_push}
use Rattle.std.proofs.lemmas.Option.{slice_get-get_or, slice_get_within}
use Rattle.fixed_amount.specs.declared.decimal.DecimalFault.{DecimalFault}
use Rattle.fixed_amount.specs.Decimal.{decimal_value}
use Rattle.day_number.specs.Text.{day_of_text}
use Rattle.day_number.proofs.TextLemmas.{passed, reads_what_is_printed}
use Rattle.desk_names.specs.Name.{is_name}
use Rattle.desk_names.specs.Names.{has_text, with_text, place_of, most_names, IsNames}
use Rattle.desk_names.proofs.NameLaws.{IsNames-with_text, known_stays, new_goes_last, slice_get-place_of}
use Rattle.session_commands.specs.declared.table.Kind.{Kind}
use Rattle.session_commands.specs.declared.table.Kind.TheVariants as kind
use Rattle.session_commands.specs.declared.field.Field.{Field}
use Rattle.session_commands.specs.declared.field.Field.TheVariants.{Nothing, Name, Value, Number, Day, Weight, Engine, Flag, Action}
use Rattle.session_commands.specs.declared.script_kind.ScriptKind.{ScriptKind}
use Rattle.session_commands.specs.declared.script_kind.ScriptKind.TheVariants as fault
use Rattle.script_words.specs.Given.{◌>>=◌, Grows}
use Rattle.script_words.specs.Word.{within, number_within, unsigned_part, weight_of, unless, fault_of, numbered, number_field, day_field, weight_field, value_of, plain_field, field_of}
use Rattle.session_commands.specs.Whole.{IsValue, Fits}
use Rattle.script_words.proofs.Interning.{grows_with, grows_same, place_absent}

-- a step that went on had a value
pub bind_ok : {A B C : Type 0} (r : Result A C) (f : A → Result B C) (y : B) → (r >>= f) ≡ Ok y → (x : A) × (r ≡ Ok x) × (f x ≡ Ok y)
bind_ok (Ok x) f y h = (x, refl, h)
bind_ok (Err e) f y h = absurd (cc)

-- a test without its fault
pub went_on : {B C : Type 0} (b : Bool) (e : C) (r : Result B C) (y : B) → cond b (Err e) r ≡ Ok y → (b ≡ false) × (r ≡ Ok y)
went_on true e r y h = absurd (cc)
went_on false e r y h = (refl, h)

-- the same where the fault comes last
pub went_in : {B C : Type 0} (b : Bool) (e : C) (r : Result B C) (y : B) → cond b r (Err e) ≡ Ok y → (b ≡ true) × (r ≡ Ok y)
went_in true e r y h = (refl, h)
went_in false e r y h = absurd (cc)

-- a value without a fault
abbrev pub okay : {B : Type 0} → B → Result B ScriptKind
okay x = Ok x

abbrev made_with : (ℕ → Field) → ℕ × List (List ℕ) → Result (Field × List (List ℕ)) ScriptKind
made_with make n = Ok (make n.0, n.1)

abbrev fine : Field → List (List ℕ) → Result (Field × List (List ℕ)) ScriptKind
fine f names = Ok (f, names)

pub ok_is : {B : Type 0} (x y : B) → okay x ≡ okay y → x ≡ y
ok_is x y h = cc

not_false_is : (b : Bool) → not b ≡ false → b ≡ true
not_false_is true h = refl
not_false_is false h = absurd (cc)

-- a name that was numbered
pub record Numbered (names after : List (List ℕ)) (word : List ℕ) (n : ℕ) : Type 0 where
  pub kept : IsNames after
  pub grows : Grows names after
  pub at : slice_get after n ≡ Some word
  pub whole : after ≡ with_text names word

placed : (names : List (List ℕ)) (word : List ℕ) → slice_get (with_text names word) (place_of names word) ≡ Some word
placed names word = ⊎_elim
    (λ h. ap (λ l. slice_get l (place_of names word)) (known_stays names word h) ∙ slice_get-place_of names word h)
    (λ h. ap (λ l. slice_get l (place_of names word)) (new_goes_last names word h) ∙ ap (slice_get (names ++ word ∷ [])) (place_absent names word h)
    ∙ slice_get-get_or (names ++ word ∷ []) (length names) [] (simp length-append (omega arith)) ∙ ap Some (get_or_push names word [] (length names) refl))
    (cases_Bool (has_text names word))

had_room : (names : List (List ℕ)) (word : List ℕ) → (has_text names word || nat_lt (length names) most_names) ≡ true → has_text names word ≡ false → length names < most_names
had_room names word h new = ⊎_elim (λ known. absurd (let e : true ≡ false = sym known ∙ new in cc)) (λ room. ltb-true (length names) most_names room) (or_cases (has_text names word) (nat_lt (length names) most_names) h)

pub numbered_is : (names : List (List ℕ)) (word : List ℕ) (n : ℕ) (after : List (List ℕ)) → IsNames names → numbered names word ≡ Ok (n, after) → Numbered names after word n
unfolding numbered
numbered_is names word n after sound h =
    let good = went_on (not (is_name word)) fault.Name (cond (has_text names word || nat_lt (length names) most_names) (Ok (place_of names word, with_text names word)) (Err fault.Names)) (n, after) h in
    let room = went_in (has_text names word || nat_lt (length names) most_names) fault.Names (Ok (place_of names word, with_text names word)) (n, after) good.1 in
    let same : (place_of names word, with_text names word) ≡ (n, after) = ok_is (place_of names word, with_text names word) (n, after) room.1 in
    let place : place_of names word ≡ n = ap (λ z. z.0) same in
    let whole : with_text names word ≡ after = ap (λ z. z.1) same in
    record {
      kept = subst IsNames whole (IsNames-with_text names word sound (not_false_is (is_name word) good.0) (had_room names word room.0));
      grows = subst (Grows names) whole (grows_with names word);
      at = ap (λ i. slice_get after i) (sym place) ∙ ap (λ l. slice_get l (place_of names word)) (sym whole) ∙ placed names word;
      whole = sym whole;
    }

-- a field that was read
pub record FieldRead (names after : List (List ℕ)) (k : Kind) (f : Field) : Type 0 where
  pub kept : IsNames after
  pub grows : Grows names after
  pub fits : Fits (length after) (length after) k f

named_field_read : (names after : List (List ℕ)) (word : List ℕ) (k : Kind) (make : ℕ → Field) (f : Field) → ((n : ℕ) → n < length after → Fits (length after) (length after) k (make n)) → IsNames names → (numbered names word >>= made_with make) ≡ fine f after → FieldRead names after k f
named_field_read names after word k make f fits sound h =
    let got = bind_ok (numbered names word) (made_with make) (f, after) h in
    let same : (make got.0.0, got.0.1) ≡ (f, after) = ok_is (make got.0.0, got.0.1) (f, after) got.2 in
    let is : make got.0.0 ≡ f = ap (λ z. z.0) same in
    let there : got.0.1 ≡ after = ap (λ z. z.1) same in
    let n = numbered_is names word got.0.0 after sound (got.1 ∙ ap (λ l. Ok (got.0.0, l)) there) in
    record { kept = n.kept; grows = n.grows; fits = subst (Fits (length after) (length after) k) is (fits got.0.0 (slice_get_within after got.0.0 word n.at)) }

plain_field_read : (names after : List (List ℕ)) (k : Kind) (g f : Field) → ((m : ℕ) → Fits m m k g) → IsNames names → fine g names ≡ fine f after → FieldRead names after k f
plain_field_read names after k g f fits sound h =
    let same : (g, names) ≡ (f, after) = ok_is (g, names) (f, after) h in
    let is : g ≡ f = ap (λ z. z.0) same in
    let there : names ≡ after = ap (λ z. z.1) same in
    record { kept = subst IsNames there sound; grows = subst (Grows names) there (grows_same names); fits = subst (Fits (length after) (length after) k) is (fits (length after)) }

within_fits : (limit : ℕ) (u : ℤ) (r : Result ℤ DecimalFault) → within limit r ≡ Some u → unsigned_abs u ≤ limit
within_fits limit u (Ok units) h =
    let got = passed (nat_le (unsigned_abs units) limit) (Some units) u h in
    let same : units ≡ u = cc (got.1) in
    subst (λ z. unsigned_abs z ≤ limit) same (leb-true (unsigned_abs units) limit got.0)
within_fits limit u (Err e) h = absurd (cc)

some_of : (o : Option ℤ) (e : ScriptKind) → unless (is_some o) e ≡ None → (u : ℤ) × (o ≡ Some u)
some_of (Some u) e h = (u, refl)
some_of None e h = absurd (cc)

value_fits : (o : Option ℤ) → ((u : ℤ) → o ≡ Some u → unsigned_abs u ≤ 1_000_000_000_000_000_000) → IsValue o
value_fits None h = tt
value_fits (Some u) h = h u refl

value_within : (unset : Bool) (o : Option ℤ) → IsValue o → IsValue (cond unset None o)
value_within true o h = tt
value_within false o h = h

pub weight_fits : (word : List ℕ) (u : ℤ) → weight_of word ≡ Some u → unsigned_abs u ≤ 1_000_000
unfolding weight_of
weight_fits word u h = within_fits 1_000_000 u (decimal_value word 0) (passed (nat_le (length (unsigned_part word)) 7) (number_within 0 1_000_000 word) u h).1

engine_read : (none : Bool) (names after : List (List ℕ)) (word : List ℕ) (f : Field) → IsNames names → cond (not none) (numbered names word >>= made_with (λ n. Engine (Some n))) (fine (Engine None) names) ≡ fine f after → FieldRead names after kind.Engine f
engine_read true names after word f sound h = plain_field_read names after kind.Engine (Engine None) f (λ m. tt) sound h
engine_read false names after word f sound h = named_field_read names after word kind.Engine (λ n. Engine (Some n)) f (λ n lt. lt) sound h

-- a word without a fault that was read
pub field_read : (names : List (List ℕ)) (k : Kind) (word : List ℕ) (f : Field) (after : List (List ℕ)) → IsNames names → fault_of k word ≡ None → field_of names k word ≡ Ok (f, after) → FieldRead names after k f
unfolding fault_of field_of plain_field
field_read names kind.Nothing word f after sound good h = plain_field_read names after kind.Nothing Nothing f (λ m. tt) sound h
field_read names kind.Name word f after sound good h = named_field_read names after word kind.Name Name f (λ n lt. lt) sound h
field_read names kind.Action word f after sound good h = named_field_read names after word kind.Action Action f (λ n lt. lt) sound h
field_read names kind.Engine word f after sound good h = engine_read (bytes_eq word (codes "none")) names after word f sound h
field_read names kind.Value word f after sound good h = plain_field_read names after kind.Value (Value (value_of word)) f (λ m. value_within (bytes_eq word (codes "unset")) (number_within 9 1_000_000_000_000_000_000 word) (value_fits (number_within 9 1_000_000_000_000_000_000 word) (λ u e. within_fits 1_000_000_000_000_000_000 u (decimal_value word 9) e))) sound h
field_read names kind.Number word f after sound good h =
    let got = some_of (number_within 9 1_000_000_000_000_000_000 word) fault.Number good in
    plain_field_read names after kind.Number (Number got.0) f (λ m. within_fits 1_000_000_000_000_000_000 got.0 (decimal_value word 9) got.1) sound (ap (λ o. Ok (number_field o, names)) (sym got.1) ∙ h)
field_read names kind.Rate word f after sound good h =
    let got = some_of (number_within 9 10_000_000_000 word) fault.Number good in
    plain_field_read names after kind.Rate (Number got.0) f (λ m. within_fits 10_000_000_000 got.0 (decimal_value word 9) got.1) sound (ap (λ o. Ok (number_field o, names)) (sym got.1) ∙ h)
field_read names kind.Weight word f after sound good h =
    let got = some_of (weight_of word) fault.Number good in
    plain_field_read names after kind.Weight (Weight got.0) f (λ m. weight_fits word got.0 got.1) sound (ap (λ o. Ok (weight_field o, names)) (sym got.1) ∙ h)
field_read names kind.Day word f after sound good h =
    let got = some_of (day_of_text word) fault.Date good in
    plain_field_read names after kind.Day (Day got.0) f (λ m. ((reads_what_is_printed word got.0).0 got.1).0) sound (ap (λ o. Ok (day_field o, names)) (sym got.1) ∙ h)
field_read names kind.Target word f after sound good h = plain_field_read names after kind.Target (Flag (bytes_eq word (codes "curve"))) f (λ m. tt) sound h
field_read names kind.Switch word f after sound good h = plain_field_read names after kind.Switch (Flag (bytes_eq word (codes "on"))) f (λ m. tt) sound h
