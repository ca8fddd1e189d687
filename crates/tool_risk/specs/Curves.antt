-- Which objects of a market are curves that are built from helpers, and which of them lie beneath an object.
use Rattle.std.specs.Prelude.{ℕ, zero, suc, Bool, true, false, ◌&&◌, if◌then◌else◌, List, [], ◌∷◌, ◌++◌, length, Option, None, Some}
use Rattle.desk_terms.specs.declared.kind.Kind as kind
use Rattle.desk_model.specs.Market.{Market, kind_at}
use Rattle.bump_model.specs.Quotes.{stands_on}

abbrev pub is_curve : Option kind.Kind → Bool
is_curve None = false
is_curve (Some kind.TheVariants.Today) = false
is_curve (Some kind.TheVariants.Quote) = false
is_curve (Some kind.TheVariants.Derived) = false
is_curve (Some kind.TheVariants.QuoteHandle) = false
is_curve (Some kind.TheVariants.CurveHandle) = false
is_curve (Some kind.TheVariants.Index) = false
is_curve (Some kind.TheVariants.Engine) = false
is_curve (Some kind.TheVariants.Curve) = true
is_curve (Some kind.TheVariants.Implied) = false
is_curve (Some kind.TheVariants.Stock) = false
is_curve (Some kind.TheVariants.Composite) = false
is_curve (Some kind.TheVariants.Flows) = false
is_curve (Some kind.TheVariants.Watcher) = false

-- whether c is a curve beneath o
abbrev pub is_beneath : Market → ℕ → ℕ → Bool
is_beneath market o c = is_curve (kind_at market c) && stands_on market o c

-- an object where it passes
abbrev pub where_so : Bool → ℕ → List ℕ
where_so passes c = if passes then c ∷ [] else []

-- the curves beneath o among the first objects, as many as are given
unfoldable pub curves_below : Market → ℕ → ℕ → List ℕ
curves_below market o zero = []
curves_below market o (suc c) = curves_below market o c ++ where_so (is_beneath market o c) c

-- THE CURVES BENEATH AN OBJECT, in order of creation
abbrev pub curves_in : Market → ℕ → List ℕ
curves_in market o = curves_below market o (length market.objects)
