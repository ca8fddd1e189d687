-- What is known of an act that a command resolves to.
use Rattle.std.specs.Prelude.{◌≡◌, ◌<◌, ◌≤◌, ℕ, true, false, length, ℤ, unsigned_abs, Option, Some, None, IfSome}
use Rattle.desk_terms.specs.declared.terms.Terms.{Terms}
use Rattle.desk_terms.specs.Reading.{AreInRange}
use Rattle.desk_terms.specs.declared.kind.Kind.TheVariants as kind
use Rattle.desk_terms.specs.declared.kind.Wanted.TheVariants as wanted
use Rattle.desk_terms.specs.Terms.{optional_reference}
use Rattle.flow_terms.specs.Fixings.{IsRate}
use Rattle.desk_model.specs.Market.{Market, slot_at, kind_at, is_watcher, is_observable, least_user}
use Rattle.desk_model.specs.Links.{AreOfKind, Serve, serves_as, is_lazy_at}
use Rattle.desk_model.specs.State.{State, least_source}
use Rattle.desk_model.specs.Told.{is_registered}
use Rattle.session_model.specs.declared.act.Act.{Act}
use Rattle.session_model.specs.declared.act.Act.TheVariants as act
use Rattle.session_model.specs.declared.act.Change.{Change}
use Rattle.session_model.specs.declared.act.Change.TheVariants as change
use Rattle.session_model.specs.declared.act.Growth.{Growth}
use Rattle.session_model.specs.declared.act.Growth.TheVariants as growth
use Rattle.session_model.specs.declared.act.How.{How}
use Rattle.session_model.specs.declared.act.How.TheVariants as how
use Rattle.session_model.specs.declared.place.Place.TheVariants as place
use Rattle.session_model.specs.Place.{takes_found}
use Rattle.session_model.specs.Standing.{Standing, object_named, is_full}
use Rattle.session_model.specs.Resolve.{closes, joins, rate_at, target_of}

-- its name is one of the session's and free, there is room, its terms are in range and its inputs of their kinds
pub record MayMake (p : Standing) (name : ℕ) (terms : Terms) : Type 0 where
  pub named : name < length p.names
  pub free : object_named p name ≡ None
  pub room : is_full p.state.market ≡ false
  pub ranged : AreInRange terms
  pub inputs : AreOfKind p.state.market (Some terms)

-- its name is one of the session's and free, and there is room
pub record MayWatch (p : Standing) (name : ℕ) : Type 0 where
  pub named : name < length p.names
  pub free : object_named p name ≡ None
  pub room : is_full p.state.market ≡ false

-- a watcher, and an object that it may watch
pub record MayPair (s : State) (w o : ℕ) : Type 0 where
  pub watcher : is_watcher (slot_at s.market w) ≡ true
  pub subject : is_observable (slot_at s.market o) ≡ true

-- with which it is not registered
pub record MayRegister (s : State) (watcher object : ℕ) : Type 0 where
  pub pair : MayPair s watcher object
  pub free : is_registered s watcher object ≡ false

-- an instrument and a composite that it does not reach, unless the weight is 0; the weight is within its limit
pub record MayWeigh (s : State) (k x : ℕ) (weight : ℤ) : Type 0 where
  pub composite : kind_at s.market k ≡ Some kind.Composite
  pub member : serves_as (kind_at s.market x) wanted.Member ≡ true
  pub opens : joins weight s.market k x ≡ false
  pub limit : unsigned_abs weight ≤ 1_000_000

-- what a handle may be linked to, from which it is not reached
pub record IsTarget (market : Market) (h target : ℕ) : Type 0 where
  pub taken : takes_found (target_of market h) (kind_at market target) ≡ true
  pub opens : closes market h target ≡ false

-- a handle, and its target, where it gets one
pub record MayRelink (s : State) (h : ℕ) (to : Option ℕ) : Type 0 where
  pub handle : takes_found place.Handle (kind_at s.market h) ≡ true
  pub target : IfSome to (IsTarget s.market h)

-- a bond, swap or forward rate agreement, and its engine, where it gets one
pub record MayEngage (s : State) (i : ℕ) (e : Option ℕ) : Type 0 where
  pub instrument : kind_at s.market i ≡ Some kind.Flows
  pub engine : Serve s.market (optional_reference wanted.Engine e)

-- an index that has no rate stored for this day, and a rate within its limit
pub record MayFix (s : State) (x : ℕ) (day r : ℤ) : Type 0 where
  pub index : kind_at s.market x ≡ Some kind.Index
  pub rate : IsRate r
  pub free : rate_at s.market x day ≡ None

-- a lazy object that no deferred source makes late
pub record MayRecalc (s : State) (object : ℕ) : Type 0 where
  pub lazy : is_lazy_at s.market object ≡ true
  pub early : least_source s object ≡ None

-- it is no `today`, and no object has it among its edges
pub record MayDrop (s : State) (object : ℕ) : Type 0 where
  pub taken : takes_found place.Droppable (kind_at s.market object) ≡ true
  pub unused : least_user s.market object ≡ None

-- what is known of a change
abbrev pub MayChange : State → Change → Type 0
MayChange s (change.Set quote value) = kind_at s.market quote ≡ Some kind.Quote
MayChange s (change.Link handle target) = MayRelink s handle target
MayChange s (change.Engine instrument engine) = MayEngage s instrument engine
MayChange s (change.Today day) = Unit {0}
MayChange s (change.Freeze object) = is_lazy_at s.market object ≡ true
MayChange s (change.Thaw object) = is_lazy_at s.market object ≡ true
MayChange s (change.Forward object is_on) = is_lazy_at s.market object ≡ true
MayChange s change.Defer = Unit {0}
MayChange s change.Resume = Unit {0}
MayChange s (change.Unregister watcher object) = MayPair s watcher object
MayChange s (change.Drop object) = MayDrop s object

abbrev pub MayGrow : State → Growth → Type 0
MayGrow s (growth.Member composite member weight) = MayWeigh s composite member weight
MayGrow s (growth.Fixing index day rate) = MayFix s index day rate
MayGrow s (growth.Register watcher object) = MayRegister s watcher object

abbrev pub MayPrice : State → ℕ → How → Type 0
MayPrice s object how.Ask = is_lazy_at s.market object ≡ true
MayPrice s object (how.Df day) = is_lazy_at s.market object ≡ true
MayPrice s object how.Recalc = MayRecalc s object

abbrev pub IsAllowed : Standing → Act → Type 0
IsAllowed p (act.Make name terms) = MayMake p name terms
IsAllowed p (act.Watch name action) = MayWatch p name
IsAllowed p (act.Quiet change) = MayChange p.state change
IsAllowed p (act.Grow growth) = MayGrow p.state growth
IsAllowed p (act.Price name object how) = MayPrice p.state object how
