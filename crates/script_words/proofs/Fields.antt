-- A printed field is read back.
use Rattle.std.proofs.Common.{◌≡◌, ℕ, ◌<◌, ◌≤◌, Bool, true, false, not, ◌&&◌, ◌||◌, cond, List, [], length, nat_le, slice_index_or, Option, Some, None, is_some, Ok, slice_get, ℤ, unsigned_abs, codes, refl, sym, ap, subst, ◌∙◌, ⊎_elim, arith, All, lit<}
use Rattle.std.specs.Str.{bytes_eq}
use Rattle.std.proofs.lemmas.Bool.{cases_Bool}
use Rattle.std.proofs.lemmas.Option.{slice_get-get_or}
use Rattle.std.proofs.lemmas.List.Elements.{All-get_or}
use Rattle.std.proofs.lemmas.Slice.Eq.{bytes_eq-Decides}
use Rattle.fixed_amount.specs.Decimal.{decimal_text, decimal_value}
use Rattle.day_number.specs.Day.{IsDayNumber}
use Rattle.desk_names.specs.Name.{is_name, has_form, is_reserved}
use Rattle.desk_names.specs.Names.{IsNames}
use Rattle.desk_names.proofs.NameLaws.{IsName-at}
use Rattle.session_commands.specs.declared.table.Kind.{Kind}
use Rattle.session_commands.specs.declared.table.Kind.TheVariants as kind
use Rattle.session_commands.specs.declared.field.Field.{Field}
use Rattle.session_commands.specs.declared.field.Field.TheVariants.{Nothing, Name, Value, Number, Day, Weight, Engine, Flag, Action}
use Rattle.session_commands.specs.declared.script_kind.ScriptKind.TheVariants as fault
use Rattle.script_words.specs.Given.{◌>>=◌}
use Rattle.session_commands.specs.Table.{words_at}
use Rattle.script_words.specs.Word.{number_within, weight_of, unless, fault_of, numbered, named_field, number_field, day_field, weight_field, plain_field, field_of}
use Rattle.session_commands.specs.Sorts.{IsOf}
use Rattle.session_commands.specs.Whole.{name_text}
use Rattle.script_words.specs.WordText.{field_text}
use Rattle.session_commands.specs.Whole.{Fits}
use Rattle.script_words.proofs.WordBytes.{IsWord, name_word, decimal_word, day_word}
use Rattle.script_words.proofs.Words.{name_again, decimal_again, weight_again, day_again}

-- a field as it is read: an action by the number of its name
abbrev pub as_read : List (List ℕ) → List ℕ → Field → Field
as_read names an (Action action) = Action (slice_index_or an action (length names))
as_read names an f = f

-- a word of the kind has no fault and is read as the field
pub record Back (names : List (List ℕ)) (an : List ℕ) (k : Kind) (f : Field) (word : List ℕ) : Type 0 where
  pub good : fault_of k word ≡ None
  pub read : field_of names k word ≡ Ok (as_read names an f, names)

-- the printed field is such a word
pub record Printed (names : List (List ℕ)) (an : List ℕ) (k : Kind) (f : Field) : Type 0 where
  pub word : IsWord (field_text names an k f)
  pub back : Back names an k f (field_text names an k f)

-- where no word stands
pub nothing_back : (names : List (List ℕ)) (an : List ℕ) (word : List ℕ) → Back names an kind.Nothing Nothing word
unfolding fault_of field_of plain_field
nothing_back names an word = record { good = refl; read = refl }

-- a number within its limit
pub number_said : (names : List (List ℕ)) (an word : List ℕ) (units : ℤ) → number_within 9 1_000_000_000_000_000_000 word ≡ Some units → Back names an kind.Number (Number units) word
unfolding fault_of field_of plain_field
number_said names an word units e = record { good = ap (λ o. unless (is_some o) fault.Number) e; read = ap (λ o. Ok (number_field o, names)) e }

-- a weight
pub weight_said : (names : List (List ℕ)) (an word : List ℕ) (weight : ℤ) → weight_of word ≡ Some weight → Back names an kind.Weight (Weight weight) word
unfolding fault_of field_of plain_field
weight_said names an word weight e = record { good = ap (λ o. unless (is_some o) fault.Number) e; read = ap (λ o. Ok (weight_field o, names)) e }

third_true : (a b c : Bool) → (a && b && c) ≡ true → c ≡ true
third_true true true c h = h
third_true true false c h = absurd (cc)
third_true false b c h = absurd (cc)

left_false : (a b : Bool) → not (a || b) ≡ true → a ≡ false
left_false true b h = absurd (cc)
left_false false b h = refl

not_none : (text : List ℕ) → is_name text ≡ true → bytes_eq text (codes "none") ≡ false
unfolding is_name is_reserved
not_none text h = left_false (bytes_eq text (codes "none")) (bytes_eq text (codes "unset")) (third_true (has_form text) (nat_le (length text) 32) (not (is_reserved text)) h)

or_true : (b c : Bool) → c ≡ true → (b || c) ≡ true
or_true true c h = refl
or_true false c h = h

unset_number : number_within 9 1_000_000_000_000_000_000 (codes "unset") ≡ None
unfolding decimal_value
unset_number = refl

not_unset : (text : List ℕ) (units : ℤ) → number_within 9 1_000_000_000_000_000_000 text ≡ Some units → bytes_eq text (codes "unset") ≡ false
not_unset text units h = ⊎_elim (λ same. clash ((bytes_eq-Decides text (codes "unset")).0 same)) (λ no. no) (cases_Bool (bytes_eq text (codes "unset")))
  where
    clash : text ≡ codes "unset" → bytes_eq text (codes "unset") ≡ false
    clash e = let both : Some units ≡ None = sym h ∙ ap (number_within 9 1_000_000_000_000_000_000) e ∙ unset_number in cc

module _ (names : List (List ℕ)) (an : List ℕ) (sound : IsNames names) where
  name_is : (name : ℕ) → name < length names → is_name (name_text names name) ≡ true
  name_is name lt = IsName-at names (name_text names name) sound name (slice_get-get_or names name [] lt)

  -- a name that is kept is read as its number
  pub name_said : (name : ℕ) (word : List ℕ) → slice_get names name ≡ Some word → Back names an kind.Name (Name name) word
  unfolding fault_of field_of
  name_said name word at = record {
    good = ap (λ b. unless b fault.Name) (IsName-at names word sound name at);
    read = ap (λ r. r >>= (λ n. Ok (named_field kind.Name n.0, n.1))) (name_again names name word sound at);
  }

  name_numbered : (name : ℕ) → name < length names → numbered names (name_text names name) ≡ Ok (name, names)
  name_numbered name lt = name_again names name (name_text names name) sound (slice_get-get_or names name [] lt)

  name_back : (name : ℕ) → name < length names → Printed names an kind.Name (Name name)
  name_back name lt = record {
    word = name_word (name_text names name) (name_is name lt);
    back = name_said name (name_text names name) (slice_get-get_or names name [] lt);
  }

  action_back : (action : ℕ) → slice_index_or an action (length names) < length names → Printed names an kind.Action (Action action)
  unfolding fault_of field_of
  action_back action lt = record {
    word = name_word (name_text names (slice_index_or an action (length names))) (name_is (slice_index_or an action (length names)) lt);
    back = record {
      good = ap (λ b. unless b fault.Name) (name_is (slice_index_or an action (length names)) lt);
      read = ap (λ r. r >>= (λ n. Ok (named_field kind.Action n.0, n.1))) (name_numbered (slice_index_or an action (length names)) lt);
    };
  }

  engine_back : (engine : Option ℕ) → Fits (length names) (length an) kind.Engine (Engine engine) → Printed names an kind.Engine (Engine engine)
  unfolding fault_of field_of plain_field
  engine_back None fits = record { word = record { some = lit< tt; bytes = refl }; back = record { good = refl; read = refl } }
  engine_back (Some name) lt =
      let other : bytes_eq (name_text names name) (codes "none") ≡ false = not_none (name_text names name) (name_is name lt) in
      record {
        word = name_word (name_text names name) (name_is name lt);
        back = record {
          good = ap (λ b. unless b fault.Name) (or_true (bytes_eq (name_text names name) (codes "none")) (is_name (name_text names name)) (name_is name lt));
          read = ap (λ b. cond (not b) (numbered names (name_text names name) >>= (λ n. Ok (named_field kind.Engine n.0, n.1))) (Ok (plain_field kind.Engine (name_text names name), names))) other
              ∙ ap (λ r. r >>= (λ n. Ok (named_field kind.Engine n.0, n.1))) (name_numbered name lt);
        };
      }

  value_back : (value : Option ℤ) → Fits (length names) (length an) kind.Value (Value value) → Printed names an kind.Value (Value value)
  unfolding fault_of field_of plain_field
  value_back None fits = record { word = record { some = lit< tt; bytes = refl }; back = record { good = refl; read = refl } }
  value_back (Some units) fits =
      let e : number_within 9 1_000_000_000_000_000_000 (decimal_text units 9) ≡ Some units = decimal_again units 1_000_000_000_000_000_000 (lit< tt) fits in
      let other : bytes_eq (decimal_text units 9) (codes "unset") ≡ false = not_unset (decimal_text units 9) units e in
      record {
        word = decimal_word units 9 (omega arith);
        back = record {
          good = ap (λ b. unless b fault.Number) (or_true (bytes_eq (decimal_text units 9) (codes "unset")) (is_some (number_within 9 1_000_000_000_000_000_000 (decimal_text units 9))) (ap (λ o. is_some o) e));
          read = ap (λ b. Ok (Value (cond b None (number_within 9 1_000_000_000_000_000_000 (decimal_text units 9))), names)) other ∙ ap (λ o. Ok (Value o, names)) e;
        };
      }

  number_back : (units : ℤ) → unsigned_abs units ≤ 1_000_000_000_000_000_000 → Printed names an kind.Number (Number units)
  number_back units fits = record {
    word = decimal_word units 9 (omega arith);
    back = number_said names an (decimal_text units 9) units (decimal_again units 1_000_000_000_000_000_000 (lit< tt) fits);
  }

  rate_back : (units : ℤ) → unsigned_abs units ≤ 10_000_000_000 → Printed names an kind.Rate (Number units)
  unfolding fault_of field_of plain_field
  rate_back units fits =
      let e : number_within 9 10_000_000_000 (decimal_text units 9) ≡ Some units = decimal_again units 10_000_000_000 (lit< tt) fits in
      record {
        word = decimal_word units 9 (omega arith);
        back = record { good = ap (λ o. unless (is_some o) fault.Number) e; read = ap (λ o. Ok (number_field o, names)) e };
      }

  weight_back : (weight : ℤ) → unsigned_abs weight ≤ 1_000_000 → Printed names an kind.Weight (Weight weight)
  weight_back weight fits = record {
    word = decimal_word weight 0 (omega arith);
    back = weight_said names an (decimal_text weight 0) weight (weight_again weight fits);
  }

  day_back : (day : ℤ) → IsDayNumber day → Printed names an kind.Day (Day day)
  unfolding fault_of field_of plain_field
  day_back day fits =
      let e = day_again day fits in
      record {
        word = day_word day fits;
        back = record { good = ap (λ o. unless (is_some o) fault.Date) e; read = ap (λ o. Ok (day_field o, names)) e };
      }

  target_back : (flag : Bool) → Printed names an kind.Target (Flag flag)
  unfolding fault_of field_of plain_field
  target_back true = record { word = record { some = lit< tt; bytes = refl }; back = record { good = refl; read = refl } }
  target_back false = record { word = record { some = lit< tt; bytes = refl }; back = record { good = refl; read = refl } }

  switch_back : (flag : Bool) → Printed names an kind.Switch (Flag flag)
  unfolding fault_of field_of plain_field
  switch_back true = record { word = record { some = lit< tt; bytes = refl }; back = record { good = refl; read = refl } }
  switch_back false = record { word = record { some = lit< tt; bytes = refl }; back = record { good = refl; read = refl } }

  at_field : (k : Kind) (f g : Field) → f ≡ g → (Fits (length names) (length an) k g → Printed names an k g) → Fits (length names) (length an) k f → Printed names an k f
  at_field k f g e more = subst (λ h. Fits (length names) (length an) k h → Printed names an k h) (sym e) more

  -- a field of its kind's sort that fits is read back
  pub field_back : All (λ name. name < length names) an → (k : Kind) (f : Field) → words_at k ≡ 1 → IsOf k f → Fits (length names) (length an) k f → Printed names an k f
  field_back known kind.Nothing f there of = absurd (omega arith)
  field_back known kind.Name f there of = at_field kind.Name f (Name of.0) of.1 (name_back of.0)
  field_back known kind.Value f there of = at_field kind.Value f (Value of.0) of.1 (value_back of.0)
  field_back known kind.Number f there of = at_field kind.Number f (Number of.0) of.1 (number_back of.0)
  field_back known kind.Rate f there of = at_field kind.Rate f (Number of.0) of.1 (rate_back of.0)
  field_back known kind.Day f there of = at_field kind.Day f (Day of.0) of.1 (day_back of.0)
  field_back known kind.Weight f there of = at_field kind.Weight f (Weight of.0) of.1 (weight_back of.0)
  field_back known kind.Engine f there of = at_field kind.Engine f (Engine of.0) of.1 (engine_back of.0)
  field_back known kind.Target f there of = at_field kind.Target f (Flag of.0) of.1 (λ _. target_back of.0)
  field_back known kind.Switch f there of = at_field kind.Switch f (Flag of.0) of.1 (λ _. switch_back of.0)
  field_back known kind.Action f there of = at_field kind.Action f (Action of.0) of.1 (λ lt. action_back of.0 (All-get_or (λ name. name < length names) an of.0 (length names) lt known))
