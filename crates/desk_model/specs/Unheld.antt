-- What is held back in a state, and what each mark says of it.
use Rattle.std.specs.Prelude.{◌≡◌, ◌⊎◌, ◌↔◌, ℕ, Bool, true, false, not, ℤ, Option}
use Rattle.walks.specs.Walk.{Below}
use Rattle.desk_terms.specs.declared.asked.Mark.TheVariants.{Fresh, Frozen, Late}
use Rattle.desk_terms.specs.declared.terms.Terms.{Terms}
use Rattle.desk_terms.specs.Reading.{Calc}
use Rattle.desk_model.specs.Market.{edges}
use Rattle.desk_model.specs.Fresh.{fresh}
use Rattle.desk_model.specs.State.{State, is_frozen, is_source, is_held_back, is_clear, mark_of, shows}
use Rattle.desk_model.specs.Links.{IsWhole}
use Rattle.desk_model.specs.Visit.{asked}
use Rattle.desk_model.specs.Effect.{made, watching, quote_set, relinked, engine_set, member_set, fixing_added, today_set, dropped, registered_with, unregistered, handed_out, forward_set, thawed, resumed}
use Rattle.desk_model.specs.Recalc.{recalced}

-- o is a deferred source, or one lies beneath it on a path of edges whose inner objects are not frozen
abbrev pub HasSource : State → ℕ → Type 0
HasSource s o = (is_source s o ≡ true) ⊎ Below (edges s.market) (is_source s) (λ x. not (is_frozen s x)) o

-- an object that is frozen or a deferred source lies beneath o, on a path of edges
abbrev pub HasHeldBeneath : State → ℕ → Type 0
HasHeldBeneath s o = Below (edges s.market) (is_held_back s) (λ x. true) o

-- EACH MARK: `frozen` exactly where the object is frozen, whatever else it is; `late` exactly where it is not, and has a
-- deferred source; `fresh` exactly where it is clear, which is where neither it nor any object beneath it is held back.
pub record MarksSay (s : State) (o : ℕ) : Type 0 where
  pub frozen : (mark_of s o ≡ Frozen) ↔ (is_frozen s o ≡ true)
  pub late : (mark_of s o ≡ Late) ↔ ((is_frozen s o ≡ false) × HasSource s o)
  pub fresh : (mark_of s o ≡ Fresh) ↔ (is_clear s o ≡ true)
  pub clear : (is_clear s o ≡ true) ↔ ((is_held_back s o ≡ false) × (HasHeldBeneath s o → ⊥))

abbrev pub MarksAreExact : Type 0
MarksAreExact = (s : State) → IsWhole s → (o : ℕ) → MarksSay s o

-- NOTHING IS HELD BACK: deferral is off, and no object is frozen or a deferred source
pub record HoldsNothing (s : State) : Type 0 where
  pub off : s.deferring ≡ false
  pub free : (o : ℕ) → is_held_back s o ≡ false

-- then an ask shows the price afresh, and marks it fresh
pub record IsAfresh (calc : Calc) (s : State) (o : ℕ) : Type 0 where
  pub mark : mark_of s o ≡ Fresh
  pub value : shows calc s o ≡ fresh calc s.market o

abbrev pub UnheldIsFresh : Type 0
UnheldIsFresh = (calc : Calc) (s : State) → HoldsNothing s → (o : ℕ) → IsAfresh calc s o

-- what neither freezes nor defers holds nothing back
pub record HoldNothing (s : State) : Type 0 where
  pub quote : (q : ℕ) (value : Option ℤ) → HoldsNothing (quote_set q value s)
  pub link : (h : ℕ) (target : Option ℕ) → HoldsNothing (relinked h target s)
  pub engine : (i : ℕ) (engine : Option ℕ) → HoldsNothing (engine_set i engine s)
  pub member : (k member : ℕ) (weight : ℤ) → HoldsNothing (member_set k member weight s)
  pub fixing : (x : ℕ) (day rate : ℤ) → HoldsNothing (fixing_added x day rate s)
  pub today : (day : ℤ) → HoldsNothing (today_set day s)
  pub make : (terms : Terms) → HoldsNothing (made terms s)
  pub watch : HoldsNothing (watching s)
  pub drop : (x : ℕ) → HoldsNothing (dropped x s)
  pub register : (w o : ℕ) → HoldsNothing (registered_with w o s)
  pub unregister : (w o : ℕ) → HoldsNothing (unregistered w o s)
  pub hand_out : (w : ℕ) → HoldsNothing (handed_out w s)
  pub thaw : (x : ℕ) → HoldsNothing (thawed x s)
  pub forward : (x : ℕ) (on : Bool) → HoldsNothing (forward_set x on s)
  pub resume : HoldsNothing (resumed s)
  pub ask : (calc : Calc) (o : ℕ) → HoldsNothing (asked calc o s)
  pub recalc : (calc : Calc) (o : ℕ) → HoldsNothing (recalced calc o s)

abbrev pub OthersHoldNothing : Type 0
OthersHoldNothing = (s : State) → HoldsNothing s → HoldNothing s
