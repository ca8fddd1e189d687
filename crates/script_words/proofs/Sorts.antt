-- A word without a fault gives a field of its kind's sort, and fields of a row's sorts make a command.
use Rattle.std.proofs.Common.{◌≡◌, ℕ, Bool, true, false, not, cond, List, [], codes, Option, Some, None, is_some, Result, Ok, Err, ℤ, refl, sym, ap, ◌∙◌}
use Rattle.std.specs.Str.{bytes_eq}
use Rattle.day_number.specs.Text.{day_of_text}
use Rattle.session_commands.specs.declared.table.Kind.{Kind}
use Rattle.session_commands.specs.declared.table.Kind.TheVariants as kind
use Rattle.session_commands.specs.declared.field.Field.{Field}
use Rattle.session_commands.specs.declared.field.Field.TheVariants.{Nothing, Name, Value, Number, Day, Weight, Engine, Flag, Action}
use Rattle.session_commands.specs.declared.script_kind.ScriptKind.{ScriptKind}
use Rattle.session_commands.specs.declared.script_kind.ScriptKind.TheVariants as fault
use Rattle.script_words.specs.Given.{◌>>=◌}
use Rattle.script_words.specs.Word.{number_within, weight_of, unless, fault_of, numbered, number_field, day_field, weight_field, value_of, plain_field, names_one, named_field, field_of}
use Rattle.session_commands.specs.Sorts.{IsOf}

abbrev fine : Field → List (List ℕ) → Result (Field × List (List ℕ)) ScriptKind
fine f names = Ok (f, names)

abbrev made_with : (ℕ → Field) → ℕ × List (List ℕ) → Result (Field × List (List ℕ)) ScriptKind
made_with make n = Ok (make n.0, n.1)

abbrev field_in : Field → Result (Field × List (List ℕ)) ScriptKind → Field
field_in none (Ok read) = read.0
field_in none (Err e) = none

named_is : (make : ℕ → Field) (r : Result (ℕ × List (List ℕ)) ScriptKind) (f : Field) (after : List (List ℕ)) → (r >>= made_with make) ≡ fine f after → (n : ℕ) × (f ≡ make n)
named_is make (Ok n) f after h = (n.0, sym (ap (field_in (make n.0)) h))
named_is make (Err e) f after h = cc

plain_is : (g f : Field) (names after : List (List ℕ)) → fine g names ≡ fine f after → f ≡ g
plain_is g f names after h = sym (ap (field_in g) h)

number_is : (o : Option ℤ) → unless (is_some o) fault.Number ≡ None → (u : ℤ) × (number_field o ≡ Number u)
number_is (Some u) h = (u, refl)
number_is None h = cc

weight_is : (o : Option ℤ) → unless (is_some o) fault.Number ≡ None → (u : ℤ) × (weight_field o ≡ Weight u)
weight_is (Some u) h = (u, refl)
weight_is None h = cc

day_is : (o : Option ℤ) → unless (is_some o) fault.Date ≡ None → (u : ℤ) × (day_field o ≡ Day u)
day_is (Some u) h = (u, refl)
day_is None h = cc

engine_is : (none : Bool) (names : List (List ℕ)) (r : Result (ℕ × List (List ℕ)) ScriptKind) (f : Field) (after : List (List ℕ)) → cond (not none) (r >>= made_with (λ n. Engine (Some n))) (fine (Engine None) names) ≡ fine f after → (e : Option ℕ) × (f ≡ Engine e)
engine_is true names r f after h = (None, plain_is (Engine None) f names after h)
engine_is false names r f after h = let n : (n : ℕ) × (f ≡ Engine (Some n)) = named_is (λ n. Engine (Some n)) r f after h in (Some n.0, n.1)

-- a word without a fault gives a field of its kind's sort
pub field_sorted : (names : List (List ℕ)) (k : Kind) (word : List ℕ) (f : Field) (after : List (List ℕ)) → fault_of k word ≡ None → field_of names k word ≡ Ok (f, after) → IsOf k f
unfolding fault_of field_of plain_field
field_sorted names kind.Nothing word f after good h = plain_is Nothing f names after h
field_sorted names kind.Name word f after good h = named_is Name (numbered names word) f after h
field_sorted names kind.Action word f after good h = named_is Action (numbered names word) f after h
field_sorted names kind.Engine word f after good h = engine_is (bytes_eq word (codes "none")) names (numbered names word) f after h
field_sorted names kind.Value word f after good h = (value_of word, plain_is (Value (value_of word)) f names after h)
field_sorted names kind.Number word f after good h = let u : (u : ℤ) × (number_field (number_within 9 1_000_000_000_000_000_000 word) ≡ Number u) = number_is (number_within 9 1_000_000_000_000_000_000 word) good in (u.0, plain_is (number_field (number_within 9 1_000_000_000_000_000_000 word)) f names after h ∙ u.1)
field_sorted names kind.Rate word f after good h = let u : (u : ℤ) × (number_field (number_within 9 10_000_000_000 word) ≡ Number u) = number_is (number_within 9 10_000_000_000 word) good in (u.0, plain_is (number_field (number_within 9 10_000_000_000 word)) f names after h ∙ u.1)
field_sorted names kind.Weight word f after good h = let u : (u : ℤ) × (weight_field (weight_of word) ≡ Weight u) = weight_is (weight_of word) good in (u.0, plain_is (weight_field (weight_of word)) f names after h ∙ u.1)
field_sorted names kind.Day word f after good h = let u : (u : ℤ) × (day_field (day_of_text word) ≡ Day u) = day_is (day_of_text word) good in (u.0, plain_is (day_field (day_of_text word)) f names after h ∙ u.1)
field_sorted names kind.Target word f after good h = (bytes_eq word (codes "curve"), plain_is (Flag (bytes_eq word (codes "curve"))) f names after h)
field_sorted names kind.Switch word f after good h = (bytes_eq word (codes "on"), plain_is (Flag (bytes_eq word (codes "on"))) f names after h)

-- so does one that holds no name, apart from names
pub plain_sorted : (k : Kind) (word : List ℕ) (f : Field) → fault_of k word ≡ None → f ≡ plain_field k word → names_one k word ≡ false → IsOf k f
unfolding field_of
plain_sorted k word f good is one =
    field_sorted [] k word f [] good (ap (λ b. cond b (numbered [] word >>= made_with (named_field k)) (fine (plain_field k word) [])) one ∙ ap (λ g. fine g []) (sym is))
