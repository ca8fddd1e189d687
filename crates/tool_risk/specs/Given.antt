-- The curves that the engines and indexes beneath an object give, each price afresh from the market alone.
use Rattle.std.specs.Prelude.{ℕ, zero, suc, ◌==◌, Bool, false, ◌&&◌, ◌||◌, if◌then◌else◌, List, [], ◌∷◌, ◌++◌, length, Option, None, Some, Result, Ok, Err}
use Rattle.curve_points.specs.Curve.{Curve}
use Rattle.desk_terms.specs.declared.cause.Cause.{Cause}
use Rattle.desk_terms.specs.declared.kind.Kind.{Kind}
use Rattle.desk_terms.specs.declared.kind.Wanted as wanted
use Rattle.desk_terms.specs.Kind.{serves}
use Rattle.desk_terms.specs.Reading.{Calc}
use Rattle.desk_model.specs.Market.{Market, kind_at}
use Rattle.desk_model.specs.State.{State}
use Rattle.bump_model.specs.Asking.{Asking, each_asking}
use Rattle.bump_model.specs.Quotes.{stands_on}
use Rattle.bump_ladder.specs.Curves.{curve_given, given_asking}
use Rattle.tool_risk.specs.declared.given.GivenCurve.{GivenCurve}
use Rattle.tool_risk.specs.Curves.{where_so}

-- an engine, or an index
abbrev pub names_curve : Option Kind → Bool
names_curve None = false
names_curve (Some kind) = serves kind wanted.TheVariants.Engine || serves kind wanted.TheVariants.Index

-- whether x is one beneath o
abbrev pub is_naming : Market → ℕ → ℕ → Bool
is_naming market o x = names_curve (kind_at market x) && stands_on market o x

-- those beneath o among the first objects, as many as are given
unfoldable pub naming_below : Market → ℕ → ℕ → List ℕ
naming_below market o zero = []
naming_below market o (suc x) = naming_below market o x ++ where_so (is_naming market o x) x

-- THE ENGINES AND INDEXES BENEATH AN OBJECT, in order of creation
abbrev pub naming_in : Market → ℕ → List ℕ
naming_in market o = naming_below market o (length market.objects)

abbrev pub where_given : ℕ → Result Curve Cause → List GivenCurve
where_given x (Err cause) = []
where_given x (Ok curve) = record { by = x; curve = curve } ∷ []

-- THE CURVES that these give, each that has one
unfoldable pub curves_given : Calc → Market → List ℕ → List GivenCurve
curves_given calc market [] = []
curves_given calc market (x ∷ names) = where_given x (curve_given calc market x) ++ curves_given calc market names

-- of these curves that which x gives
abbrev pub curve_by : List GivenCurve → ℕ → Option Curve
curve_by [] x = None
curve_by (given ∷ curves) x = if given.by == x then Some given.curve else curve_by curves x

-- THE ASKS for them, in order
abbrev pub curves_asking : Calc → List ℕ → State → Asking
curves_asking calc names s = each_asking (given_asking calc) names s
