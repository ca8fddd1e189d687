-- How the objects of a state hang together, whatever their values: the shape that every session keeps.
use Rattle.std.specs.Prelude.{◌≡◌, ◌≢◌, ◌⊎◌, ◌==◌, ℕ, suc, Bool, true, false, List, [], ◌∷◌, length, Option, Some, None}
use Rattle.walks.specs.Walk.{below_by, Among, IsWithin, IsAcyclic}
use Rattle.desk_terms.specs.declared.terms.Terms.{Terms}
use Rattle.desk_terms.specs.declared.kind.Kind.{Kind}
use Rattle.desk_terms.specs.declared.reference.Reference.{Reference}
use Rattle.desk_terms.specs.declared.kind.Wanted.{Wanted}
use Rattle.desk_terms.specs.Kind.{serves}
use Rattle.desk_terms.specs.declared.value.Value.{Value}
use Rattle.desk_terms.specs.Terms.{kind_of, inputs_of}
use Rattle.desk_terms.specs.Reading.{AreInRange, IsValueOf}
use Rattle.desk_model.specs.declared.slot.Slot.TheVariants.{Today}
use Rattle.desk_model.specs.Market.{Market, slot_at, terms_at, kind_at, is_observable, is_watcher, edges_of, edges, is_lazy, role_of}
use Rattle.desk_model.specs.State.{State, kept_at}
use Rattle.desk_model.specs.Told.{registered}

-- edges lead to live objects that are no watchers, and none leads back
pub record IsLinked (market : Market) : Type 0 where
  pub within : IsWithin (edges market) (length market.objects)
  pub observed : (o x : ℕ) → Among x (edges market o) → is_observable (slot_at market x) ≡ true
  pub acyclic : IsAcyclic (edges market)

-- whether a bench prices o
abbrev pub is_lazy_at : Market → ℕ → Bool
is_lazy_at market o = is_lazy (role_of (terms_at market o))

-- a watcher watches a live object that is no watcher
pub record IsRegistration (market : Market) (w o : ℕ) : Type 0 where
  pub watcher : is_watcher (slot_at market w) ≡ true
  pub observed : is_observable (slot_at market o) ≡ true

-- WHERE A NOTICE GOES: edges lead downwards, watchers watch live objects that are no watchers, and only watchers are
-- noticed
pub record CanTell (market : Market) (registrations : List (ℕ × ℕ)) (noticed : List ℕ) : Type 0 where
  pub links : IsLinked market
  pub registered : (w o : ℕ) → Among o (registered registrations w) → IsRegistration market w o
  pub watchers : (w : ℕ) → Among w noticed → is_watcher (slot_at market w) ≡ true

-- what an object with these terms may be worth
abbrev pub IsValued : Option Terms → ℕ → Value → Type 0
IsValued None o value = ⊥
IsValued (Some terms) o value = IsValueOf (kind_of terms) o value

-- THE SHAPE OF A STATE: object 0 is `today`, edges lead downwards, only lazy objects have flags, a last value is one
-- that its object may have, and watchers watch live objects.
pub record IsWhole (state : State) : Type 0 where
  pub length : length state.kept ≡ length state.market.objects
  pub today : slot_at state.market 0 ≡ Today
  pub links : IsLinked state.market
  pub lazy : (o : ℕ) → (kept_at state o).current ≡ true → is_lazy_at state.market o ≡ true
  pub frozen : (o : ℕ) → (kept_at state o).frozen ≡ true → is_lazy_at state.market o ≡ true
  pub forward : (o : ℕ) → (kept_at state o).forward ≡ true → is_lazy_at state.market o ≡ true
  pub valued : (o : ℕ) (value : Value) → (kept_at state o).last ≡ Some value → IsValued (terms_at state.market o) o value
  pub registered : (w o : ℕ) → Among o (registered state.registrations w) → IsRegistration state.market w o
  pub noticed : (w : ℕ) → Among w state.noticed → is_watcher (slot_at state.market w) ≡ true

-- whether an object reaches another by edges (the path that a new edge must not close)
unfoldable pub reaches : Market → ℕ → ℕ → Bool
reaches market o x = below_by (edges market) (λ y. y == x) (λ y. true) (suc (length market.objects)) o

-- Terms that x may be given: their edges stand already, or one target is new, which is live and no watcher, is not x
-- and does not reach x.
pub data MayStand (market : Market) (x : ℕ) (terms : Terms) : Type 0 where
  keeps : ((y : ℕ) → Among y (edges_of (Some terms)) → Among y (edges market x)) → MayStand market x terms
  joins : (target : ℕ) → is_observable (slot_at market target) ≡ true → target ≢ x → reaches market target x ≡ false
      → ((y : ℕ) → Among y (edges_of (Some terms)) → Among y (edges market x) ⊎ (y ≡ target)) → MayStand market x terms

-- whether what stands at a number is what is wanted
abbrev pub serves_as : Option Kind → Wanted → Bool
serves_as None wanted = false
serves_as (Some kind) wanted = serves kind wanted

abbrev pub Serve : Market → List Reference → Type 0
Serve market [] = Unit {0}
Serve market (reference ∷ references) = (serves_as (kind_at market reference.object) reference.wanted ≡ true)
    × Serve market references

-- THE CONDITION OF MAKING: each input of these terms is live and of the kind that is wanted there
abbrev pub AreOfKind : Market → Option Terms → Type 0
AreOfKind market None = Unit {0}
AreOfKind market (Some terms) = Serve market (inputs_of terms)

-- each object names others of the right kinds
abbrev pub IsKinded : Market → Type 0
IsKinded market = (o : ℕ) → AreOfKind market (terms_at market o)

-- the terms of each object are in range
abbrev pub IsRanged : Option Terms → Type 0
IsRanged None = Unit {0}
IsRanged (Some terms) = AreInRange terms

abbrev pub AreRanged : Market → Type 0
AreRanged market = (o : ℕ) → IsRanged (terms_at market o)
