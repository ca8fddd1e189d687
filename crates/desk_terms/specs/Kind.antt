-- What the kinds of objects are good for (this project's profile, after QuantLib's class hierarchy).
use Rattle.std.specs.Prelude.{ℕ, Bool, ◌==◌, List, [], ◌∷◌}
use Rattle.std.specs.List.{list_any}
use Rattle.desk_terms.specs.declared.kind.Kind.{Kind}
use Rattle.desk_terms.specs.declared.kind.Kind.TheVariants.{Today, Quote, Derived, QuoteHandle, CurveHandle, Index, Engine, Curve, Implied, Stock, Composite, Flows, Watcher}
use Rattle.desk_terms.specs.declared.kind.Wanted as wanted

-- what an object of each kind may be named for: a handle stands for its target wherever that may stand, but no handle
-- is linked to a handle
abbrev pub offers : Kind → List wanted.Wanted
offers Today = []
offers Quote = wanted.TheVariants.QuoteInput ∷ wanted.TheVariants.QuoteTarget ∷ []
offers Derived = wanted.TheVariants.QuoteInput ∷ wanted.TheVariants.QuoteTarget ∷ []
offers QuoteHandle = wanted.TheVariants.QuoteInput ∷ []
offers CurveHandle = wanted.TheVariants.CurveInput ∷ []
offers Index = wanted.TheVariants.Index ∷ []
offers Engine = wanted.TheVariants.Engine ∷ []
offers Curve = wanted.TheVariants.CurveInput ∷ wanted.TheVariants.CurveTarget ∷ []
offers Implied = wanted.TheVariants.CurveInput ∷ wanted.TheVariants.CurveTarget ∷ []
offers Stock = wanted.TheVariants.Member ∷ []
offers Composite = wanted.TheVariants.Member ∷ []
offers Flows = wanted.TheVariants.Member ∷ []
offers Watcher = []

-- a number of its own for each thing that may be wanted
abbrev pub wanted_number : wanted.Wanted → ℕ
wanted_number wanted.TheVariants.QuoteInput = 0
wanted_number wanted.TheVariants.CurveInput = 1
wanted_number wanted.TheVariants.QuoteTarget = 2
wanted_number wanted.TheVariants.CurveTarget = 3
wanted_number wanted.TheVariants.Member = 4
wanted_number wanted.TheVariants.Engine = 5
wanted_number wanted.TheVariants.Index = 6

-- whether an object of this kind is what is wanted
abbrev pub serves : Kind → wanted.Wanted → Bool
serves kind wanted = list_any (λ offered. wanted_number offered == wanted_number wanted) (offers kind)

-- How an object takes a notice: a source gets none; a forwarder passes it on; a lazy object keeps its value and, where it
-- is not frozen, passes it on if that value was current or it always forwards; a watcher is due (QuantLib's `Observer`,
-- `LazyObject`).
pub data Role : Type 0 where
  Source : Role
  Forwarder : Role
  Lazy : Role
  Watching : Role

abbrev pub role : Kind → Role
role Today = Source
role Quote = Source
role Derived = Forwarder
role QuoteHandle = Forwarder
role CurveHandle = Forwarder
role Index = Forwarder
role Engine = Forwarder
role Curve = Lazy
role Implied = Lazy
role Stock = Lazy
role Composite = Lazy
role Flows = Lazy
role Watcher = Watching
