-- What names stand for among the objects of a market (this project's profile).
use Rattle.std.specs.Prelude.{◌≡◌, ℕ, zero, suc, Bool, true, false, ◌||◌, if◌then◌else◌, List, [], ◌∷◌, ◌++◌, length, All, codes, Option, Result, Ok, Err, Vec}
use Rattle.std.specs.declared.alloc.Global.{Global}
use Rattle.desk_terms.specs.declared.kind.Kind as kind
use Rattle.desk_terms.specs.declared.kind.Wanted.TheVariants.{CurveTarget}
use Rattle.desk_model.specs.Links.{serves_as}
use Rattle.desk_model.specs.Market.{Market, kind_at}
use Rattle.market_desk.specs.declared.named.Unnamed.{Unnamed}
use Rattle.market_desk.specs.Standing.{object_named, unnamed_line}

-- whether an object is a curve: one that a handle of curves may be linked to
abbrev pub is_curve : Option kind.Kind → Bool
is_curve found = serves_as found CurveTarget

-- whether any of the first objects is a curve, as many as are given
unfoldable pub curve_below : Market → ℕ → Bool
curve_below market zero = false
curve_below market (suc o) = is_curve (kind_at market o) || curve_below market o

abbrev pub object_in : Result ℕ Unnamed → List ℕ
object_in (Ok o) = o ∷ []
object_in (Err why) = []

abbrev pub line_in : List ℕ → Result ℕ Unnamed → List ℕ
line_in text (Ok o) = []
line_in text (Err why) = unnamed_line (codes "curve") why text

-- the curves that names stand for, in order
unfoldable pub objects_named : Market → List (List ℕ) → List (List ℕ) → List ℕ
objects_named market names [] = []
objects_named market names (text ∷ texts) =
    object_in (object_named CurveTarget market names text) ++ objects_named market names texts

-- the lines of the names that stand for none, in order
unfoldable pub lines_named : Market → List (List ℕ) → List (List ℕ) → List ℕ
lines_named market names [] = []
lines_named market names (text ∷ texts) =
    line_in text (object_named CurveTarget market names text) ++ lines_named market names texts

-- the curves, where no line stands against them
abbrev pub unless : {A : Type 0} → List ℕ → A → Result A (List ℕ)
unless [] curves = Ok curves
unless (byte ∷ bytes) curves = Err (byte ∷ bytes)

-- WHAT NAMES STAND FOR: curves, or lines of what stands against that. A market without a curve has a line of its own.
unfoldable pub named_of : Market → List (List ℕ) → List (List ℕ) → Result (List ℕ) (List ℕ)
named_of market names texts =
    if curve_below market (length market.objects)
    then unless (lines_named market names texts) (objects_named market names texts)
    else Err (codes "refused curve none\n")

-- what the code found, or wrote, is this
abbrev pub ItemsAre : Result (Vec ℕ Global) (Vec ℕ Global) → Result (List ℕ) (List ℕ) → Type 0
ItemsAre (Ok curves) named = named ≡ Ok curves.items
ItemsAre (Err lines) named = named ≡ Err lines.items

-- each of these objects is a curve
abbrev pub AreCurves : Market → List ℕ → Type 0
AreCurves market curves = All (λ o. serves_as (kind_at market o) CurveTarget ≡ true) curves
