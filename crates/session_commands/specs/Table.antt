-- The table of commands: one row for each.
use Rattle.std.specs.Prelude.{ℕ, ◌+◌, List, [], ◌∷◌, codes, Option}
use Rattle.std.specs.List.{find}
use Rattle.std.specs.Str.{bytes_eq}
use Rattle.session_commands.specs.declared.table.Verb.{Verb}
use Rattle.session_commands.specs.declared.table.Verb.TheVariants as verb
use Rattle.session_commands.specs.declared.table.Kind.{Kind}
use Rattle.session_commands.specs.declared.table.Kind.TheVariants.{Nothing, Name, Value, Number, Rate, Day, Weight, Engine, Target, Switch, Action}

-- a command's first word, and the kinds of the words behind it, of which there are at most three
pub record Row : Type 0 where
  pub word : List ℕ
  pub first : Kind
  pub second : Kind
  pub third : Kind

-- a row, written in one line
abbrev pub row : List ℕ → Kind → Kind → Kind → Row
row word first second third = record { word = word; first = first; second = second; third = third }

-- the language: what each command looks like (this project's profile)
unfoldable pub row_of : Verb → Row
row_of verb.Quote = row (codes "quote") Name Value Nothing
row_of verb.Sum = row (codes "sum") Name Name Name
row_of verb.Difference = row (codes "difference") Name Name Name
row_of verb.Handle = row (codes "handle") Name Target Nothing
row_of verb.Stock = row (codes "stock") Name Name Nothing
row_of verb.Composite = row (codes "composite") Name Nothing Nothing
row_of verb.Member = row (codes "member") Name Name Weight
row_of verb.Set = row (codes "set") Name Number Nothing
row_of verb.Unset = row (codes "unset") Name Nothing Nothing
row_of verb.Link = row (codes "link") Name Name Nothing
row_of verb.Unlink = row (codes "unlink") Name Nothing Nothing
row_of verb.Engine = row (codes "engine") Name Engine Nothing
row_of verb.Today = row (codes "today") Day Nothing Nothing
row_of verb.Fixing = row (codes "fixing") Name Day Rate
row_of verb.Freeze = row (codes "freeze") Name Nothing Nothing
row_of verb.Thaw = row (codes "thaw") Name Nothing Nothing
row_of verb.Recalc = row (codes "recalc") Name Nothing Nothing
row_of verb.Forward = row (codes "forward") Name Switch Nothing
row_of verb.Defer = row (codes "defer") Nothing Nothing Nothing
row_of verb.Resume = row (codes "resume") Nothing Nothing Nothing
row_of verb.Watch = row (codes "watch") Name Action Nothing
row_of verb.Register = row (codes "register") Name Name Nothing
row_of verb.Unregister = row (codes "unregister") Name Name Nothing
row_of verb.Drop = row (codes "drop") Name Nothing Nothing
row_of verb.Ask = row (codes "ask") Name Nothing Nothing
row_of verb.Df = row (codes "df") Name Day Nothing

-- all the commands
abbrev pub verbs : List Verb
verbs =
    verb.Quote ∷ verb.Sum ∷ verb.Difference ∷ verb.Handle ∷ verb.Stock ∷ verb.Composite ∷ verb.Member ∷ verb.Set ∷ verb.Unset ∷ verb.Link ∷ verb.Unlink ∷ verb.Engine ∷ verb.Today ∷ verb.Fixing ∷ verb.Freeze ∷ verb.Thaw ∷ verb.Recalc ∷ verb.Forward ∷ verb.Defer ∷ verb.Resume ∷ verb.Watch ∷ verb.Register ∷ verb.Unregister ∷ verb.Drop ∷ verb.Ask ∷ verb.Df ∷ []

-- the command with this first word
unfoldable pub verb_of : List ℕ → Option Verb
verb_of word = find (λ v. bytes_eq (row_of v).word word) verbs

-- whether a word stands there
abbrev pub words_at : Kind → ℕ
words_at Nothing = 0
words_at Name = 1
words_at Value = 1
words_at Number = 1
words_at Rate = 1
words_at Day = 1
words_at Weight = 1
words_at Engine = 1
words_at Target = 1
words_at Switch = 1
words_at Action = 1

-- how many words a command has behind its first
abbrev pub words_in : Row → ℕ
words_in r = words_at r.first + words_at r.second + words_at r.third
