-- What a further word of a command says.
use Rattle.std.specs.Prelude.{ℕ, Bool, true, false, not, ◌&&◌, ◌||◌, ◌==◌, nat_le, nat_lt, if◌then◌else◌, List, [], ◌∷◌, length, codes, Option, Some, None, is_some, Result, Ok, Err, ℤ, unsigned_abs}
use Rattle.std.specs.Str.{bytes_eq}
use Rattle.fixed_amount.specs.Decimal.{decimal_value}
use Rattle.fixed_amount.specs.declared.decimal.DecimalFault.{DecimalFault}
use Rattle.day_number.specs.Text.{day_of_text}
use Rattle.desk_names.specs.Name.{is_name}
use Rattle.desk_names.specs.Names.{has_text, with_text, place_of, most_names}
use Rattle.session_commands.specs.declared.table.Kind.{Kind}
use Rattle.session_commands.specs.declared.table.Kind.TheVariants as kind
use Rattle.session_commands.specs.declared.field.Field.{Field}
use Rattle.session_commands.specs.declared.field.Field.TheVariants.{Nothing, Name, Value, Number, Day, Weight, Engine, Flag, Action}
use Rattle.session_commands.specs.declared.script_kind.ScriptKind.{ScriptKind}
use Rattle.session_commands.specs.declared.script_kind.ScriptKind.TheVariants as fault
use Rattle.script_words.specs.Given.{◌>>=◌}

-- a value whose magnitude is within the limit
abbrev pub within : ℕ → Result ℤ DecimalFault → Option ℤ
within limit (Ok units) = if nat_le (unsigned_abs units) limit then Some units else None
within limit (Err e) = None

-- a decimal with at most this many places, within the limit either way, in units of its last place
abbrev pub number_within : ℕ → ℕ → List ℕ → Option ℤ
number_within places limit word = within limit (decimal_value word places)

-- what stands behind an optional `-`
abbrev pub unsigned_part : List ℕ → List ℕ
unsigned_part [] = []
unsigned_part (byte ∷ rest) = if byte == 45 then rest else byte ∷ rest

-- a whole number within 1,000,000 either way, of one to seven digits (this project's profile)
unfoldable pub weight_of : List ℕ → Option ℤ
weight_of word = if nat_le (length (unsigned_part word)) 7 then number_within 0 1_000_000 word else None

-- the fault, unless the word is good
abbrev pub unless : Bool → ScriptKind → Option ScriptKind
unless good f = if good then None else Some f

-- the fault of a word where a kind is asked for; the limits are 10^9 and 10, in units of 10^-9 (this project's profile)
unfoldable pub fault_of : Kind → List ℕ → Option ScriptKind
fault_of kind.Nothing word = None
fault_of kind.Name word = unless (is_name word) fault.Name
fault_of kind.Action word = unless (is_name word) fault.Name
fault_of kind.Engine word = unless (bytes_eq word (codes "none") || is_name word) fault.Name
fault_of kind.Value word = unless (bytes_eq word (codes "unset") || is_some (number_within 9 1_000_000_000_000_000_000 word)) fault.Number
fault_of kind.Number word = unless (is_some (number_within 9 1_000_000_000_000_000_000 word)) fault.Number
fault_of kind.Rate word = unless (is_some (number_within 9 10_000_000_000 word)) fault.Number
fault_of kind.Weight word = unless (is_some (weight_of word)) fault.Number
fault_of kind.Day word = unless (is_some (day_of_text word)) fault.Date
fault_of kind.Target word = unless (bytes_eq word (codes "quote") || bytes_eq word (codes "curve")) fault.Choice
fault_of kind.Switch word = unless (bytes_eq word (codes "off") || bytes_eq word (codes "on")) fault.Choice

-- a name's number, and the names with it; there is room for 65,536
unfoldable pub numbered : List (List ℕ) → List ℕ → Result (ℕ × List (List ℕ)) ScriptKind
numbered names word =
    if not (is_name word) then Err fault.Name
    else (if has_text names word || nat_lt (length names) most_names
    then Ok (place_of names word, with_text names word) else Err fault.Names)

-- the field of a decimal, where there is one
abbrev pub number_field : Option ℤ → Field
number_field (Some units) = Number units
number_field None = Nothing

-- the field of a day, where there is one
abbrev pub day_field : Option ℤ → Field
day_field (Some day) = Day day
day_field None = Nothing

-- the field of a weight, where there is one
abbrev pub weight_field : Option ℤ → Field
weight_field (Some weight) = Weight weight
weight_field None = Nothing

-- a quote's value, or none for `unset`
abbrev pub value_of : List ℕ → Option ℤ
value_of word = if bytes_eq word (codes "unset") then None else number_within 9 1_000_000_000_000_000_000 word

-- what a word without a name in it says
unfoldable pub plain_field : Kind → List ℕ → Field
plain_field kind.Nothing word = Nothing
plain_field kind.Name word = Nothing
plain_field kind.Action word = Nothing
plain_field kind.Engine word = Engine None
plain_field kind.Value word = Value (value_of word)
plain_field kind.Number word = number_field (number_within 9 1_000_000_000_000_000_000 word)
plain_field kind.Rate word = number_field (number_within 9 10_000_000_000 word)
plain_field kind.Weight word = weight_field (weight_of word)
plain_field kind.Day word = day_field (day_of_text word)
plain_field kind.Target word = Flag (bytes_eq word (codes "curve"))
plain_field kind.Switch word = Flag (bytes_eq word (codes "on"))

-- the field, unless there is a fault
abbrev pub said : Option ScriptKind → Field → Result Field ScriptKind
said (Some f) field = Err f
said None field = Ok field

-- what a word says apart from a name, or its fault
abbrev pub word_said : Kind → List ℕ → Result Field ScriptKind
word_said k word = said (fault_of k word) (plain_field k word)

-- whether a name stands where a kind is asked for
abbrev pub names_one : Kind → List ℕ → Bool
names_one kind.Name word = true
names_one kind.Action word = true
names_one kind.Engine word = not (bytes_eq word (codes "none"))
names_one kind.Nothing word = false
names_one kind.Value word = false
names_one kind.Number word = false
names_one kind.Rate word = false
names_one kind.Weight word = false
names_one kind.Day word = false
names_one kind.Target word = false
names_one kind.Switch word = false

-- whether a word names one that is new
abbrev pub names_new : List (List ℕ) → Kind → List ℕ → Bool
names_new names k word = names_one k word && not (has_text names word)

-- the names with the one in a word, where a name stands in it
abbrev pub with_name : Kind → List ℕ → List (List ℕ) → List (List ℕ)
with_name k word names = if names_one k word then with_text names word else names

-- the field of a name's number
abbrev pub named_field : Kind → ℕ → Field
named_field kind.Name name = Name name
named_field kind.Action name = Action name
named_field kind.Engine name = Engine (Some name)
named_field kind.Nothing name = Nothing
named_field kind.Value name = Nothing
named_field kind.Number name = Nothing
named_field kind.Rate name = Nothing
named_field kind.Weight name = Nothing
named_field kind.Day name = Nothing
named_field kind.Target name = Nothing
named_field kind.Switch name = Nothing

-- what a word says by its kind, and the names with the one in it
unfoldable pub field_of : List (List ℕ) → Kind → List ℕ → Result (Field × List (List ℕ)) ScriptKind
field_of names k word = if names_one k word
    then numbered names word >>= (λ n. Ok (named_field k n.0, n.1))
    else Ok (plain_field k word, names)
