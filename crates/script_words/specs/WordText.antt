-- The text of a word.
use Rattle.std.specs.Prelude.{ℕ, Bool, true, false, ◌==◌, if◌then◌else◌, List, [], ◌∷◌, length, codes, slice_index_or, Option, Some, None, ℤ}
use Rattle.fixed_amount.specs.Decimal.{decimal_text}
use Rattle.day_number.specs.Day.{day_text}
use Rattle.session_commands.specs.declared.table.Kind.{Kind}
use Rattle.session_commands.specs.declared.table.Kind.TheVariants as kind
use Rattle.session_commands.specs.declared.field.Field.{Field}
use Rattle.session_commands.specs.declared.field.Field.TheVariants.{Nothing, Name, Value, Number, Day, Weight, Engine, Flag, Action}
use Rattle.session_commands.specs.Table.{words_at}
use Rattle.session_commands.specs.Whole.{name_text}

-- the name of an action, by its number
abbrev pub action_text : List (List ℕ) → List ℕ → ℕ → List ℕ
action_text names action_names action = name_text names (slice_index_or action_names action (length names))

-- a quote's value with nine places, or `unset`
abbrev pub value_text : Option ℤ → List ℕ
value_text (Some units) = decimal_text units 9
value_text None = codes "unset"

-- an engine's name, or `none`
abbrev pub engine_text : List (List ℕ) → Option ℕ → List ℕ
engine_text names (Some name) = name_text names name
engine_text names None = codes "none"

-- the two words of a kind of flag; the other kinds have none
abbrev pub flag_text : Kind → Bool → List ℕ
flag_text kind.Target true = codes "curve"
flag_text kind.Target false = codes "quote"
flag_text kind.Switch true = codes "on"
flag_text kind.Switch false = codes "off"
flag_text kind.Nothing flag = []
flag_text kind.Name flag = []
flag_text kind.Value flag = []
flag_text kind.Number flag = []
flag_text kind.Rate flag = []
flag_text kind.Day flag = []
flag_text kind.Weight flag = []
flag_text kind.Engine flag = []
flag_text kind.Action flag = []

-- the word of a field
abbrev pub field_text : List (List ℕ) → List ℕ → Kind → Field → List ℕ
field_text names action_names k Nothing = []
field_text names action_names k (Name name) = name_text names name
field_text names action_names k (Value value) = value_text value
field_text names action_names k (Number units) = decimal_text units 9
field_text names action_names k (Day day) = day_text day
field_text names action_names k (Weight weight) = decimal_text weight 0
field_text names action_names k (Engine engine) = engine_text names engine
field_text names action_names k (Flag flag) = flag_text k flag
field_text names action_names k (Action action) = action_text names action_names action

-- a space before each word behind the first
unfoldable pub word_text : List (List ℕ) → List ℕ → Kind → Field → List ℕ
word_text names action_names k field = if words_at k == 0 then [] else 32 ∷ field_text names action_names k field
