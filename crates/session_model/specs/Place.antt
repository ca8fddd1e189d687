-- Which objects a command takes in the place of a name (this project's profile).
use Rattle.std.specs.Prelude.{ℕ, ◌==◌, Bool, false, not, ◌||◌, Option, Some, None}
use Rattle.desk_terms.specs.declared.kind.Kind.{Kind}
use Rattle.desk_terms.specs.declared.kind.Kind.TheVariants as kind
use Rattle.desk_terms.specs.Kind.{serves, role}
use Rattle.desk_model.specs.Market.{is_lazy}
use Rattle.session_model.specs.declared.place.Place.{Place}
use Rattle.session_model.specs.declared.place.Place.TheVariants.{Input, Quote, Composite, Handle, Flows, Priced, Droppable, Watcher, Observable}

-- a number of its own for each kind
abbrev pub kind_number : Kind → ℕ
kind_number kind.Today = 0
kind_number kind.Quote = 1
kind_number kind.Derived = 2
kind_number kind.QuoteHandle = 3
kind_number kind.CurveHandle = 4
kind_number kind.Index = 5
kind_number kind.Engine = 6
kind_number kind.Curve = 7
kind_number kind.Implied = 8
kind_number kind.Stock = 9
kind_number kind.Composite = 10
kind_number kind.Flows = 11
kind_number kind.Watcher = 12

abbrev pub is_kind : Kind → Kind → Bool
is_kind wanted k = kind_number k == kind_number wanted

abbrev pub takes : Place → Kind → Bool
takes (Input wanted) k = serves k wanted
takes Quote k = is_kind kind.Quote k
takes Composite k = is_kind kind.Composite k
takes Handle k = is_kind kind.QuoteHandle k || is_kind kind.CurveHandle k
takes Flows k = is_kind kind.Flows k
takes Priced k = is_lazy (role k)
takes Droppable k = not (is_kind kind.Today k)
takes Watcher k = is_kind kind.Watcher k
takes Observable k = not (is_kind kind.Watcher k)

-- nothing is taken where no live object is
abbrev pub takes_found : Place → Option Kind → Bool
takes_found place None = false
takes_found place (Some k) = takes place k
