-- What a desk holds while the objects of a market are made on it: each next one finds room, and inputs of the kinds that
-- it wants.
use Rattle.std.proofs.Common.{◌≡◌, ℕ, zero, suc, ◌+◌, ◌<◌, ◌≤◌, ◌^◌, List, [], ◌∷◌, ◌++◌, length, Option, Some, None, ℤ, slice_get, refl, sym, ◌∙◌, ap, subst, arith}
use Rattle.std.specs.Prelude.{slice_index_or}
use Rattle.std.proofs.lemmas.List.{length-append}
use Rattle.desk_terms.specs.declared.kind.Kind.{Kind}
use Rattle.desk_terms.specs.declared.kind.Kind.TheVariants as kind
use Rattle.desk_terms.specs.declared.kind.Wanted.{Wanted}
use Rattle.desk_terms.specs.declared.reference.Reference.{Reference}
use Rattle.desk_terms.specs.declared.terms.Terms.{Terms}
use Rattle.desk_terms.specs.Terms.{kind_of, inputs_of}
use Rattle.desk_terms.specs.Reading.{AreInRange}
use Rattle.desk_model.specs.declared.slot.Slot.{Slot}
use Rattle.desk_model.specs.declared.slot.Slot.TheVariants.{Free, Live}
use Rattle.desk_model.specs.Market.{Market, kind_in}
use Rattle.desk_model.specs.Links.{serves_as, Serve, AreOfKind}
use Rattle.desk_model.specs.State.{State}
use Rattle.desk_model.specs.Effect.{start, made}
use Rattle.desk_model.specs.Unheld.{HoldsNothing}
use Rattle.desk_model.proofs.Unheld.{others_hold_nothing, start_unheld}
use Rattle.market_file.specs.Standing.{is_served, AreServed, AreInOrder}
use Rattle.market_desk.specs.Making.{with_made}

-- the objects stand, each of its kind
abbrev pub AreStanding : List Kind → List Slot → Type 0
AreStanding [] [] = Unit {0}
AreStanding [] (slot ∷ slots) = ⊥
AreStanding (k ∷ kinds) [] = ⊥
AreStanding (k ∷ kinds) (slot ∷ slots) = (kind_in slot ≡ Some k) × AreStanding kinds slots

-- THE OBJECTS THAT A DESK MAY TAKE NEXT
pub record MayTake (state : State) (rest : List (ℕ × Terms)) : Type 0 where
  pub kinds : List Kind
  pub standing : AreStanding kinds state.market.objects
  pub order : AreInOrder kinds rest
  pub room : length kinds + length rest ≤ 4096

-- ---- what was made, and what is left

-- after one object more, those that are left leave the same state
pub left_more : (items rest : List (ℕ × Terms)) (entry : ℕ × Terms) (old new : State) → items ≡ entry ∷ rest
    → new ≡ made entry.1 old → with_made rest new ≡ with_made items old
unfolding with_made
left_more items rest entry old new steps makes = rw (steps, makes) refl

pub left_none : (items : List (ℕ × Terms)) (state : State) → length items ≡ 0 → with_made items state ≡ state
unfolding with_made
left_none [] state e = refl
left_none (entry ∷ items) state e = absurd (omega (arith, e))

-- all that is left at first leaves the desk with all objects
pub left_all : (items entries : List (ℕ × Terms)) (state first : State) → items ≡ entries → state ≡ first
    → with_made items state ≡ with_made entries first
left_all items entries state first gives start = rw (gives, start) refl

-- ---- inputs

kind_standing : (kinds : List Kind) (slots : List Slot) → AreStanding kinds slots → (o : ℕ)
    → kind_in (slice_index_or slots o Free) ≡ slice_get kinds o
kind_standing [] [] h o = refl
kind_standing [] (slot ∷ slots) h o = absurd h
kind_standing (k ∷ kinds) [] h o = absurd h
kind_standing (k ∷ kinds) (slot ∷ slots) h zero = h.0
kind_standing (k ∷ kinds) (slot ∷ slots) h (suc o) = kind_standing kinds slots h.1 o

serves_so : (found : Option Kind) (wanted : Wanted) → serves_as found wanted ≡ is_served found wanted
serves_so None wanted = refl
serves_so (Some k) wanted = refl

pub serve : (kinds : List Kind) (market : Market) → AreStanding kinds market.objects → (references : List Reference)
    → AreServed kinds references → Serve market references
serve kinds market h [] served = tt
serve kinds market h (r ∷ references) served = (
  ap (λ (found : Option Kind). serves_as found r.wanted) (kind_standing kinds market.objects h r.object)
      ∙ serves_so (slice_get kinds r.object) r.wanted ∙ served.0,
  serve kinds market h references served.1,
)

pub standing_length : (kinds : List Kind) (slots : List Slot) → AreStanding kinds slots → length slots ≡ length kinds
standing_length [] [] h = refl
standing_length [] (slot ∷ slots) h = absurd h
standing_length (k ∷ kinds) [] h = absurd h
standing_length (k ∷ kinds) (slot ∷ slots) h = ap suc (standing_length kinds slots h.1)

-- ---- the next object

module _ (state : State) (items rest : List (ℕ × Terms)) (entry : ℕ × Terms) (steps : items ≡ entry ∷ rest)
    (may : MayTake state items) where
  h : MayTake state (entry ∷ rest)
  h = subst (λ (all : List (ℕ × Terms)). MayTake state all) steps may

  pub next_ranged : AreInRange entry.1
  next_ranged = h.order.0.ranged

  pub next_of_kind : AreOfKind state.market (Some entry.1)
  next_of_kind = serve h.kinds state.market h.standing (inputs_of entry.1) h.order.0.inputs

  pub next_room : length state.market.objects < 2 ^ 16
  next_room =
      let same = standing_length h.kinds state.market.objects h.standing in
      let few = h.room in omega (arith)

pub more_standing : (kinds : List Kind) (slots : List Slot) (terms : Terms) → AreStanding kinds slots
    → AreStanding (kinds ++ kind_of terms ∷ []) (slots ++ Live terms ∷ [])
more_standing [] [] terms h = (refl, tt)
more_standing [] (slot ∷ slots) terms h = absurd h
more_standing (k ∷ kinds) [] terms h = absurd h
more_standing (k ∷ kinds) (slot ∷ slots) terms h = (h.0, more_standing kinds slots terms h.1)

-- after it the desk may take the others
may_rest : (state : State) (entry : ℕ × Terms) (rest : List (ℕ × Terms)) → MayTake state (entry ∷ rest)
    → MayTake (made entry.1 state) rest
unfolding made
may_rest state entry rest h = record {
  kinds = h.kinds ++ kind_of entry.1 ∷ [];
  standing = more_standing h.kinds state.market.objects entry.1 h.standing;
  order = h.order.1;
  room = let few = h.room in let longer = length-append h.kinds (kind_of entry.1 ∷ []) in omega (arith);
}

pub may_more : (old new : State) (items rest : List (ℕ × Terms)) (entry : ℕ × Terms) → items ≡ entry ∷ rest
    → new ≡ made entry.1 old → MayTake old items → MayTake new rest
may_more old new items rest entry steps makes may =
    subst (λ (s : State). MayTake s rest) (sym makes)
    (may_rest old entry rest (subst (λ (all : List (ℕ × Terms)). MayTake old all) steps may))

pub made_unheld : (old new : State) (terms : Terms) → new ≡ made terms old → HoldsNothing old → HoldsNothing new
made_unheld old new terms makes none = subst HoldsNothing (sym makes) ((others_hold_nothing old none).make terms)

pub start_holds : (today : ℤ) (state : State) → state ≡ start today → HoldsNothing state
start_holds today state is = subst HoldsNothing (sym is) (start_unheld today)

-- ---- the first object

begins : (today : ℤ) (entries : List (ℕ × Terms)) → AreInOrder (kind.Today ∷ []) entries → length entries < 4096
    → MayTake (start today) entries
begins today entries order few = record {
  kinds = kind.Today ∷ [];
  standing = (refl, tt);
  order = order;
  room = omega (arith, few);
}

pub may_begin : (today : ℤ) (entries items : List (ℕ × Terms)) (state : State)
    → AreInOrder (kind.Today ∷ []) entries → length entries < 4096 → state ≡ start today → items ≡ entries
    → MayTake state items
may_begin today entries items state order few is gives = rw (is, gives) (begins today entries order few)
