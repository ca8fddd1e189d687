-- What terms name.
use Rattle.std.specs.Prelude.{ℕ, Bool, true, false, List, [], ◌∷◌, ◌++◌, Option, Some, None}
use Rattle.desk_terms.specs.declared.terms.Terms.{Terms}
use Rattle.desk_terms.specs.declared.terms.Terms.TheVariants.{Quote, Derived, Handle, Curve, Implied, Index, Engine, Stock, Composite, Flows}
use Rattle.desk_terms.specs.declared.terms.HandleKind as handle
use Rattle.desk_terms.specs.declared.terms.Part.{Part}
use Rattle.curve_terms.specs.declared.terms.CurveStart.{CurveStart}
use Rattle.curve_terms.specs.declared.terms.CurveStart.TheVariants.{Moving, Fixed}
use Rattle.curve_terms.specs.declared.terms.Helper.{Helper}
use Rattle.desk_terms.specs.declared.kind.Kind as kind
use Rattle.desk_terms.specs.declared.kind.Wanted as wanted
use Rattle.desk_terms.specs.declared.reference.Reference.{Reference}

-- what an object with these terms is
abbrev pub kind_of : Terms → kind.Kind
kind_of (Quote value) = kind.TheVariants.Quote
kind_of (Derived minus first second) = kind.TheVariants.Derived
kind_of (Handle handle.TheVariants.Quote target) = kind.TheVariants.QuoteHandle
kind_of (Handle handle.TheVariants.Curve target) = kind.TheVariants.CurveHandle
kind_of (Curve terms) = kind.TheVariants.Curve
kind_of (Implied curve reference) = kind.TheVariants.Implied
kind_of (Index terms fixings) = kind.TheVariants.Index
kind_of (Engine curve) = kind.TheVariants.Engine
kind_of (Stock quote) = kind.TheVariants.Stock
kind_of (Composite parts) = kind.TheVariants.Composite
kind_of (Flows flows engine) = kind.TheVariants.Flows

abbrev pub reference_to : wanted.Wanted → ℕ → Reference
reference_to wanted object = record { object = object; wanted = wanted }

abbrev pub optional_reference : wanted.Wanted → Option ℕ → List Reference
optional_reference wanted None = []
optional_reference wanted (Some object) = reference_to wanted object ∷ []

abbrev pub helper_references : List Helper → List Reference
helper_references [] = []
helper_references (helper ∷ helpers) =
    reference_to wanted.TheVariants.QuoteInput helper.quote ∷ helper_references helpers

abbrev pub part_references : List Part → List Reference
part_references [] = []
part_references (part ∷ parts) = reference_to wanted.TheVariants.Member part.member ∷ part_references parts

-- THE TABLE OF INPUTS: the objects that these terms name, in order, each with what is wanted of it there. Edges, the
-- condition of a link and the condition of making an object are read off it.
abbrev pub inputs_of : Terms → List Reference
inputs_of (Quote value) = []
inputs_of (Derived minus first second) =
    reference_to wanted.TheVariants.QuoteInput first ∷ reference_to wanted.TheVariants.QuoteInput second ∷ []
inputs_of (Handle handle.TheVariants.Quote target) = optional_reference wanted.TheVariants.QuoteTarget target
inputs_of (Handle handle.TheVariants.Curve target) = optional_reference wanted.TheVariants.CurveTarget target
inputs_of (Curve terms) = helper_references terms.helpers
inputs_of (Implied curve reference) = reference_to wanted.TheVariants.CurveInput curve ∷ []
inputs_of (Index terms fixings) = reference_to wanted.TheVariants.CurveInput terms.curve ∷ []
inputs_of (Engine curve) = reference_to wanted.TheVariants.CurveInput curve ∷ []
inputs_of (Stock quote) = reference_to wanted.TheVariants.QuoteInput quote ∷ []
inputs_of (Composite parts) = part_references parts
inputs_of (Flows flows engine) =
    optional_reference wanted.TheVariants.Engine engine ++ optional_reference wanted.TheVariants.Index flows.index

-- whether the start of a curve moves with the evaluation date
abbrev pub moves : CurveStart → Bool
moves (Moving settlement) = true
moves (Fixed day) = false

-- whether an object with these terms observes the evaluation date: a curve with a reference day of its own does not
abbrev pub observes_today : Terms → Bool
observes_today (Quote value) = false
observes_today (Derived minus first second) = false
observes_today (Handle kind target) = false
observes_today (Curve terms) = moves terms.start
observes_today (Implied curve reference) = false
observes_today (Index terms fixings) = true
observes_today (Engine curve) = false
observes_today (Stock quote) = false
observes_today (Composite parts) = false
observes_today (Flows flows engine) = true

-- whether the price of an object with these terms reads the evaluation date
abbrev pub prices_today : Terms → Bool
prices_today (Quote value) = false
prices_today (Derived minus first second) = false
prices_today (Handle kind target) = false
prices_today (Curve terms) = moves terms.start
prices_today (Implied curve reference) = false
prices_today (Index terms fixings) = false
prices_today (Engine curve) = false
prices_today (Stock quote) = false
prices_today (Composite parts) = false
prices_today (Flows flows engine) = true
