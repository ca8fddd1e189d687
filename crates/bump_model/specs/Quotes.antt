-- Which objects of a market are quotes, and which of them lie beneath an object.
use Rattle.std.specs.Prelude.{ℕ, zero, suc, ◌==◌, Bool, true, false, ◌||◌, if◌then◌else◌, List, [], ◌∷◌, ◌++◌, length, Option, None, Some}
use Rattle.std.specs.List.{filter}
use Rattle.desk_terms.specs.declared.kind.Kind as kind
use Rattle.desk_model.specs.Market.{Market, kind_at}
use Rattle.desk_model.specs.Links.{reaches}

abbrev pub is_quote : Option kind.Kind → Bool
is_quote None = false
is_quote (Some kind.TheVariants.Today) = false
is_quote (Some kind.TheVariants.Quote) = true
is_quote (Some kind.TheVariants.Derived) = false
is_quote (Some kind.TheVariants.QuoteHandle) = false
is_quote (Some kind.TheVariants.CurveHandle) = false
is_quote (Some kind.TheVariants.Index) = false
is_quote (Some kind.TheVariants.Engine) = false
is_quote (Some kind.TheVariants.Curve) = false
is_quote (Some kind.TheVariants.Implied) = false
is_quote (Some kind.TheVariants.Stock) = false
is_quote (Some kind.TheVariants.Composite) = false
is_quote (Some kind.TheVariants.Flows) = false
is_quote (Some kind.TheVariants.Watcher) = false

-- an object where it is a quote
abbrev pub quote_by : ℕ → Option kind.Kind → List ℕ
quote_by o found = if is_quote found then o ∷ [] else []

-- the quotes among the first objects, as many as are given, in order of creation
unfoldable pub quotes_below : Market → ℕ → List ℕ
quotes_below market zero = []
quotes_below market (suc o) = quotes_below market o ++ quote_by o (kind_at market o)

-- THE QUOTES OF A MARKET in order of creation
abbrev pub quotes_in : Market → List ℕ
quotes_in market = quotes_below market (length market.objects)

-- whether an object is another, or stands on it: it names it, or an object that stands on it
abbrev pub stands_on : Market → ℕ → ℕ → Bool
stands_on market o q = (o == q) || reaches market o q

-- OF THESE QUOTES THOSE BENEATH AN OBJECT, in their order
abbrev pub beneath : Market → ℕ → List ℕ → List ℕ
beneath market o quotes = filter (stands_on market o) quotes
