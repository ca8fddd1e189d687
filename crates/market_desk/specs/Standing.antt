-- A desk with the names of its objects, and the object that a name stands for (this project's profile).
use Rattle.std.specs.Prelude.{ℕ, if◌then◌else◌, List, ◌++◌, codes, Option, None, Some, Result, Ok, Err}
use Rattle.desk_names.specs.Names.{has_text, place_of}
use Rattle.desk_terms.specs.declared.kind.Kind as kind
use Rattle.desk_terms.specs.declared.kind.Wanted.{Wanted}
use Rattle.desk_terms.specs.Kind.{serves}
use Rattle.desk_model.specs.Market.{Market, kind_at}
use Rattle.desk_model.specs.State.{State}
use Rattle.market_file.specs.Market as file
use Rattle.market_desk.specs.declared.named.Unnamed.{Unnamed}
use Rattle.market_desk.specs.declared.named.Unnamed.TheVariants.{Unknown, Kind}
use Rattle.market_desk.specs.Making.{desk_with, names_with}

-- a desk with the names of its objects
pub record Standing : Type 0 where
  pub names : List (List ℕ)
  pub of_object : List ℕ
  pub state : State

abbrev pub standing : List (List ℕ) → List ℕ → State → Standing
standing names of_object state = record { names = names; of_object = of_object; state = state }

-- the desk of a market
abbrev pub standing_of : file.Market → Standing
standing_of market = standing market.names (names_with market.made) (desk_with market.today market.made)

-- the number of a name, if there is such a name
abbrev pub number_of : List (List ℕ) → List ℕ → Option ℕ
number_of names text = if has_text names text then Some (place_of names text) else None

-- an object by its kind: it serves as what is wanted, or it does not
abbrev pub by_kind : Wanted → ℕ → Option kind.Kind → Result ℕ Unnamed
by_kind wanted o None = Err Unknown
by_kind wanted o (Some kind) = if serves kind wanted then Ok o else Err Kind

abbrev pub by_number : Wanted → Market → Option ℕ → Result ℕ Unnamed
by_number wanted market None = Err Unknown
by_number wanted market (Some o) = by_kind wanted o (kind_at market o)

-- THE OBJECT THAT HAS A NAME, or why it does not serve as what is wanted: the number of an object is that of its name
abbrev pub object_named : Wanted → Market → List (List ℕ) → List ℕ → Result ℕ Unnamed
object_named wanted market names text = by_number wanted market (number_of names text)

abbrev pub unnamed_word : Unnamed → List ℕ
unnamed_word Unknown = codes "unknown"
unnamed_word Kind = codes "kind"

-- `refused TOOL unknown NAME` or `refused TOOL kind NAME`, and a newline
unfoldable pub unnamed_line : List ℕ → Unnamed → List ℕ → List ℕ
unnamed_line tool why name =
    codes "refused " ++ tool ++ codes " " ++ unnamed_word why ++ codes " " ++ name ++ codes "\n"
