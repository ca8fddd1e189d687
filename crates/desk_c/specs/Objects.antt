-- What stands at a number of a session.
use Rattle.std.specs.Prelude.{◌≡◌, ℕ, ℤ, pos, List, length, Option, Some, None}
use Rattle.desk_model.specs.Changeable.{Changeable, HasValue, HasTarget, HasFixings, HasParts, HasEngine, HasNone, changeable}
use Rattle.desk_model.specs.Market.{kind_at, terms_at}
use Rattle.desk_terms.specs.declared.kind.Kind.{Kind}
use Rattle.price_report.specs.Namer.{object_text}
use Rattle.session_model.specs.Place.{kind_number}
use Rattle.session_model.specs.Standing.{Standing}
use Rattle.desk_c.specs.Texts.{laid}

-- the value of a quote; none of what is no quote
abbrev pub quote_in : Changeable → Option ℤ
quote_in (HasValue value) = value
quote_in (HasTarget kind target) = None
quote_in (HasFixings terms fixings) = None
quote_in (HasParts parts) = None
quote_in (HasEngine flows engine) = None
quote_in HasNone = None

-- whether there is a value, and the value
abbrev pub IsTold : Option ℤ → ℕ → ℤ → Type 0
IsTold None is_set units = (is_set ≡ 0) × (units ≡ pos 0)
IsTold (Some value) is_set units = (is_set ≡ 1) × (units ≡ value)

-- the name of an object
abbrev pub name_at : Standing → ℕ → List ℕ
name_at p number = object_text p.names p.of_object number

-- A LIVE OBJECT has the number: its kind, its name, and the value of a quote
pub record IsObject (number : ℕ) (p : Standing) (name_old name_new : List ℕ) (size kind is_set : ℕ) (units : ℤ) : Type 0 where
  pub known : Kind
  pub is_known : kind_at p.state.market number ≡ Some known
  pub kind_is : kind ≡ kind_number known
  pub name : name_new ≡ laid (name_at p number) name_old
  pub size_is : size ≡ length (name_at p number)
  pub value : IsTold (quote_in (changeable (terms_at p.state.market number))) is_set units
