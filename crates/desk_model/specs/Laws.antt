-- What is proved of these definitions, for every bench and every market.
use Rattle.std.specs.Prelude.{◌≡◌, ◌≢◌, ◌↔◌, ◌==◌, ℕ, suc, ◌<◌, ◌≤◌, Bool, true, false, not, List, [], length, ℤ, pos, Option, Some, None, Ok, is_some}
use Rattle.std.specs.Ordering.{int_eq}
use Rattle.walks.specs.Walk.{below_by, Below, Among}
use Rattle.desk_terms.specs.declared.terms.Terms.{Terms}
use Rattle.desk_terms.specs.declared.terms.Terms.TheVariants.{Handle}
use Rattle.desk_terms.specs.declared.terms.HandleKind.{HandleKind}
use Rattle.desk_terms.specs.declared.kind.Wanted as wanted
use Rattle.desk_terms.specs.declared.value.Value.{Value}
use Rattle.desk_terms.specs.declared.value.Input as input
use Rattle.desk_terms.specs.Reading.{Outcome, Calc, IsWellFormed, IsFitting}
use Rattle.desk_terms.specs.Terms.{kind_of, optional_reference}
use Rattle.desk_model.specs.declared.slot.Slot.{Slot}
use Rattle.desk_model.specs.Market.{Market, IsSame, slot_at, terms_in, terms_at, kind_at, is_observable, is_forwarder, edges_of, edges}
use Rattle.desk_model.specs.Uses.{input_by, input_at, uses, needs, reading_at}
use Rattle.desk_model.specs.Fresh.{inputs_by, priced_by, answer_by, fresh}
use Rattle.desk_model.specs.State.{State, kept_at, last_answer, is_frozen, is_source, is_late, is_held_back, is_clear, least_source, held_outcome, seen_outcome, now, shows}
use Rattle.desk_model.specs.Told.{subjects, forwards, told}
use Rattle.desk_model.specs.Links.{is_lazy_at, IsLinked, IsRegistration, IsWhole, reaches, MayStand, serves_as, Serve, AreOfKind, IsKinded, IsValued, IsRanged, AreRanged}
use Rattle.desk_model.specs.Sound.{has_source, IsSound, KeepsCurrent}
use Rattle.desk_model.specs.Visit.{visit_by, runs, asked}
use Rattle.desk_model.specs.Effect.{start, made, watching, revised, quote_set, relinked, engine_set, member_set, fixing_added, today_set, dropped, registered_with, unregistered, handed_out, frozen_set, forward_set, thawed, deferred, resumed}
use Rattle.desk_model.specs.Recalc.{recalced}

-- NO BOUND MATTERS that is above the number of objects.
abbrev pub FreshHasNoBound : Type 0
FreshHasNoBound = (calc : Calc) (market : Market) → IsLinked market → (n o : ℕ) → length market.objects < n
    → answer_by calc market (λ x. None) n o ≡ fresh calc market o

abbrev pub SeenHasNoBound : Type 0
SeenHasNoBound = (calc : Calc) (state : State) → IsLinked state.market → (n o : ℕ) → length state.market.objects < n
    → answer_by calc state.market (held_outcome state) n o ≡ seen_outcome calc state o

abbrev pub InputsHaveNoBound : Type 0
InputsHaveNoBound = (market : Market) → IsLinked market → (n o : ℕ) → length market.objects < n
    → input_by market n o ≡ input_at market o

abbrev pub RunsHaveNoBound : Type 0
RunsHaveNoBound = (calc : Calc) (state : State) → IsLinked state.market → (n o : ℕ) → length state.market.objects < n
    → (visit_by calc state n [] o).calls ≡ runs calc state o

-- WHAT A WALK FINDS is a least set: paths of edges, whatever their length.
pub record WalksFindPaths (state : State) : Type 0 where
  pub late : (o : ℕ)
      → (below_by (edges state.market) (is_source state) (λ x. not (is_frozen state x)) (suc (length state.market.objects)) o ≡ true) ↔ Below (edges state.market) (is_source state) (λ x. not (is_frozen state x)) o
  pub clear : (o : ℕ)
      → (below_by (edges state.market) (is_held_back state) (λ x. true) (suc (length state.market.objects)) o ≡ true) ↔ Below (edges state.market) (is_held_back state) (λ x. true) o
  pub near : (o : ℕ)
      → (has_source state o ≡ true) ↔ Below (edges state.market) (is_source state) (is_forwarder state.market) o
  pub reaches : (o x : ℕ) → (reaches state.market o x ≡ true) ↔ Below (edges state.market) (λ y. y == x) (λ y. true) o
  pub told : (from : ℕ → Bool) (o : ℕ) → (told state from o ≡ true) ↔ Below (subjects state) from (forwards state) o

abbrev pub WalksAreLeast : Type 0
WalksAreLeast = (state : State) → IsWhole state → WalksFindPaths state

-- THE PRICE AFRESH is the price over the prices afresh.
abbrev pub FreshIsPriced : Type 0
FreshIsPriced = (calc : Calc) (market : Market) → IsLinked market → (o : ℕ)
    → fresh calc market o ≡ priced_by calc market (fresh calc market) o

-- LOCALITY: where two markets hold the same at an object and at all that is near it, it uses the same, and its
-- readings are the same.
pub record IsLocal (m n : Market) (o : ℕ) : Type 0 where
  pub uses : uses n o ≡ uses m o
  pub reading : (terms : Terms) (inputs : List input.Input) → terms_at m o ≡ Some terms
      → reading_at n o terms inputs ≡ reading_at m o terms inputs

abbrev pub UsesAreLocal : Type 0
UsesAreLocal = (m n : Market) → IsLinked m → length m.objects ≤ length n.objects → (o : ℕ) → IsSame m n o
    → ((x : ℕ) → Below (edges m) (λ y. y == x) (is_forwarder m) o → IsSame m n x) → IsLocal m n o

-- each value that an object that is priced answers is one that it may have
abbrev pub AreValues : Market → (ℕ → Outcome) → Type 0
AreValues market answer = (o : ℕ) (value : Value) → is_lazy_at market o ≡ true → answer o ≡ Ok value
    → IsValued (terms_at market o) o value

-- THE INPUTS of a price are those that its terms ask for, and what it needs is priced by the bench.
abbrev pub ReadingsAreWellFormed : Type 0
ReadingsAreWellFormed = (market : Market) → IsKinded market
    → (answer : ℕ → Outcome) → AreValues market answer
    → (o : ℕ) (terms : Terms) (inputs : List input.Input) → terms_at market o ≡ Some terms
    → is_lazy_at market o ≡ true → IsRanged (Some terms)
    → inputs_by answer (uses market o) ≡ Ok inputs → IsWellFormed (reading_at market o terms inputs)

abbrev pub NeedsAreLazy : Type 0
NeedsAreLazy = (market : Market) → IsKinded market → (o x : ℕ) → Among x (needs market o) → is_lazy_at market x ≡ true

-- A BENCH THAT FITS shows of each object a value that it may have.
abbrev pub SeenIsValued : Type 0
SeenIsValued = (calc : Calc) → IsFitting calc → (state : State) → IsWhole state → IsKinded state.market
    → AreRanged state.market → AreValues state.market (seen_outcome calc state)

-- A CHANGE keeps the shape of a state, and, over data alone, all that is current.
pub record Keeps (s t : State) : Type 0 where
  pub whole : IsWhole t
  pub current : KeepsCurrent s t

abbrev pub KeptIsSound : Type 0
KeptIsSound = (s t : State) → KeepsCurrent s t → (calc : Calc) → IsSound calc s → IsSound calc t

-- what may be made: all that it observes is live and no watcher
abbrev pub MayBeMade : Market → Slot → Type 0
MayBeMade market slot = (y : ℕ) → Among y (edges_of (terms_in slot)) → is_observable (slot_at market y) ≡ true

-- what x may be linked to: nothing, or a live object that is no watcher, is not x and does not reach x
abbrev pub MayLink : Market → ℕ → Option ℕ → Type 0
MayLink market x None = Unit {0}
MayLink market x (Some target) = (is_observable (slot_at market target) ≡ true) × (target ≢ x)
    × (reaches market target x ≡ false)

-- other terms of the same kind, of which at most one edge is new
abbrev pub RevisionsKeep : Type 0
RevisionsKeep = (s : State) → IsWhole s → (x : ℕ) (terms : Terms) → kind_at s.market x ≡ Some (kind_of terms)
    → MayStand s.market x terms → Keeps s (revised x terms s)

pub record CommandsKeep (s : State) : Type 0 where
  pub quote : (q : ℕ) (value : Option ℤ) → Keeps s (quote_set q value s)
  pub link : (h : ℕ) (target : Option ℕ) → MayLink s.market h target → Keeps s (relinked h target s)
  pub engine : (i : ℕ) (engine : Option ℕ) → MayLink s.market i engine → Keeps s (engine_set i engine s)
  pub member : (k member : ℕ) (weight : ℤ) → (int_eq weight (pos 0) ≡ false → MayLink s.market k (Some member))
      → Keeps s (member_set k member weight s)
  pub fixing : (x : ℕ) (day rate : ℤ) → Keeps s (fixing_added x day rate s)
  pub today : (day : ℤ) → Keeps s (today_set day s)
  pub make : (terms : Terms) → AreOfKind s.market (Some terms) → Keeps s (made terms s)
  pub watch : Keeps s (watching s)
  pub drop : (x : ℕ) → x ≢ 0 → ((o : ℕ) → Among x (edges s.market o) → ⊥) → Keeps s (dropped x s)
  pub register : (w o : ℕ) → IsRegistration s.market w o → Keeps s (registered_with w o s)
  pub unregister : (w o : ℕ) → Keeps s (unregistered w o s)
  pub hand_out : (w : ℕ) → Keeps s (handed_out w s)
  pub freeze : (x : ℕ) → is_lazy_at s.market x ≡ true → Keeps s (frozen_set x s)
  pub thaw : (x : ℕ) → is_lazy_at s.market x ≡ true → Keeps s (thawed x s)
  pub forward : (x : ℕ) (on : Bool) → is_lazy_at s.market x ≡ true → Keeps s (forward_set x on s)
  pub defer : Keeps s (deferred s)
  pub resume : Keeps s (resumed s)

abbrev pub ChangesKeep : Type 0
ChangesKeep = (s : State) → IsWhole s → CommandsKeep s

-- The same changes keep the kinds: each object names others of the kinds that its terms want. (The others leave the
-- market as it is.)
pub record CommandsKeepKinds (s : State) : Type 0 where
  pub quote : (q : ℕ) (value : Option ℤ) → IsKinded (quote_set q value s).market
  pub link : (h : ℕ) (target : Option ℕ)
      → ((kind : HandleKind) (held : Option ℕ) → terms_at s.market h ≡ Some (Handle kind held) → AreOfKind s.market (Some (Handle kind target)))
      → IsKinded (relinked h target s).market
  pub engine : (i : ℕ) (engine : Option ℕ) → Serve s.market (optional_reference wanted.TheVariants.Engine engine)
      → IsKinded (engine_set i engine s).market
  pub member : (k member : ℕ) (weight : ℤ)
      → (int_eq weight (pos 0) ≡ false → serves_as (kind_at s.market member) wanted.TheVariants.Member ≡ true)
      → IsKinded (member_set k member weight s).market
  pub fixing : (x : ℕ) (day rate : ℤ) → IsKinded (fixing_added x day rate s).market
  pub today : (day : ℤ) → IsKinded (today_set day s).market
  pub make : (terms : Terms) → AreOfKind s.market (Some terms) → IsKinded (made terms s).market
  pub watch : IsKinded (watching s).market
  pub drop : (x : ℕ) → x ≢ 0 → ((o : ℕ) → Among x (edges s.market o) → ⊥) → IsKinded (dropped x s).market

abbrev pub ChangesKeepKinds : Type 0
ChangesKeepKinds = (s : State) → IsWhole s → IsKinded s.market → CommandsKeepKinds s

-- A BENCH THAT IS ASKED, and whose prices fit, leaves a state whole, and sound for its calc.
pub record IsKept (calc : Calc) (t : State) : Type 0 where
  pub whole : IsWhole t
  pub sound : IsSound calc t

abbrev pub AsksKeep : Type 0
AsksKeep = (calc : Calc) → IsFitting calc → (s : State) (o : ℕ) → IsWhole s → IsKinded s.market → AreRanged s.market
    → is_lazy_at s.market o ≡ true
    → IsSound calc s → IsKept calc (asked calc o s)

abbrev pub RecalcsKeep : Type 0
RecalcsKeep = (calc : Calc) → IsFitting calc → (s : State) (o : ℕ) → IsWhole s → IsKinded s.market
    → AreRanged s.market → is_lazy_at s.market o ≡ true
    → is_late s o ≡ false → IsSound calc s → IsKept calc (recalced calc o s)

-- a new session is whole, and sound for every bench
abbrev pub StartsAreSound : Type 0
StartsAreSound = (today : ℤ) (calc : Calc) → IsKept calc (start today)

-- WHAT AN ASK SHOWS: a current object that is not held its last value, a clear one its price afresh.
abbrev pub CurrentIsShown : Type 0
CurrentIsShown = (calc : Calc) (s : State) → IsWhole s → IsSound calc s → (o : ℕ) → (kept_at s o).current ≡ true
    → held_outcome s o ≡ None → seen_outcome calc s o ≡ last_answer s o

abbrev pub ClearIsFresh : Type 0
ClearIsFresh = (calc : Calc) (s : State) → IsLinked s.market → (o : ℕ) → is_clear s o ≡ true
    → seen_outcome calc s o ≡ fresh calc s.market o

abbrev pub ShownIsSeen : Type 0
ShownIsSeen = (calc : Calc) (s : State) → IsLinked s.market → (o : ℕ) → shows calc s o ≡ seen_outcome calc s o

-- an object that is neither held nor without a value is worth its price over what is seen
abbrev pub SeenIsPriced : Type 0
SeenIsPriced = (calc : Calc) (s : State) → IsLinked s.market → (o : ℕ) → held_outcome s o ≡ None → seen_outcome calc s o ≡ now calc s o

-- after an ask that shows a value, the object that is not held has it as its last value
abbrev pub AsksStore : Type 0
AsksStore = (calc : Calc) (s : State) (o : ℕ) (value : Value) → IsWhole s → IsSound calc s → held_outcome s o ≡ None
    → seen_outcome calc s o ≡ Ok value → (kept_at (asked calc o s) o).last ≡ Some value

-- an object is late exactly where some deferred source makes it late, and the least of these is named
abbrev pub LateHasLeastSource : Type 0
LateHasLeastSource = (s : State) → IsWhole s → (o : ℕ) → is_late s o ≡ is_some (least_source s o)
