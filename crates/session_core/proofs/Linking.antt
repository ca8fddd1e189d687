-- What a handle may be linked to, and what a session asks of it.
use Rattle.std.proofs.Common.{◌≡◌, ℕ, ◌==◌, ◌||◌, Bool, true, false, if◌then◌else◌, Option, Some, None, refl, sym, ◌∙◌, ap, subst}
use Rattle.std.specs.Prelude.{IfSome}
use Rattle.std.proofs.lemmas.Bool.{false≢true, eq-eqb}
use Rattle.desk_terms.specs.declared.terms.Terms.{Terms}
use Rattle.desk_terms.specs.declared.terms.Terms.TheVariants as terms
use Rattle.desk_terms.specs.declared.terms.HandleKind as handle
use Rattle.desk_terms.specs.declared.kind.Kind.{Kind}
use Rattle.desk_terms.specs.declared.kind.Kind.TheVariants as kind
use Rattle.desk_terms.specs.declared.kind.Wanted.{Wanted}
use Rattle.desk_terms.specs.declared.kind.Wanted.TheVariants as wanted
use Rattle.desk_terms.specs.Terms.{kind_of}
use Rattle.desk_model.specs.declared.slot.Slot.{Slot}
use Rattle.desk_model.specs.declared.slot.Slot.TheVariants.{Free, Today, Watcher, Live}
use Rattle.desk_model.specs.Market.{Market, slot_at, terms_in, terms_at, kind_in, kind_at, is_observable}
use Rattle.desk_model.specs.Links.{AreOfKind, reaches, serves_as}
use Rattle.desk_model.specs.Laws.{MayLink}
use Rattle.object_store.specs.Slots.{is_handle}
use Rattle.session_model.specs.declared.place.Place.TheVariants as place
use Rattle.session_model.specs.Place.{takes_found}
use Rattle.session_core.specs.Allowed.{IsTarget}

-- terms of a handle
abbrev AreOfHandle : Option Terms → Type 0
AreOfHandle t = (kind : handle.HandleKind) × (held : Option ℕ) × (t ≡ Some (terms.Handle kind held))

handle_terms : (terms : Terms) → takes_found place.Handle (Some (kind_of terms)) ≡ true → AreOfHandle (Some terms)
handle_terms (terms.Handle kind target) e = (kind, target, refl)
handle_terms t e = absurd (false≢true e)

handle_in : (slot : Slot) → takes_found place.Handle (kind_in slot) ≡ true → AreOfHandle (terms_in slot)
handle_in (Live terms) e = handle_terms terms e
handle_in slot e = absurd (false≢true e)

pub handle_there : (m : Market) (h : ℕ) → takes_found place.Handle (kind_at m h) ≡ true
    → is_handle (terms_at m h) ≡ true
handle_there m h e = ap is_handle (handle_in (slot_at m h) e).2

-- what may be linked to is live, and is no watcher
input_observable : (w : Wanted) (slot : Slot) → takes_found (place.Input w) (kind_in slot) ≡ true
    → is_observable slot ≡ true
input_observable w Free e = absurd (false≢true e)
input_observable w Today e = refl
input_observable w Watcher e = absurd (false≢true e)
input_observable w (Live terms) e = refl

target_observable : (b : Bool) (slot : Slot)
    → takes_found (if b then place.Input wanted.CurveTarget else place.Input wanted.QuoteTarget) (kind_in slot) ≡ true
    → is_observable slot ≡ true
target_observable true slot e = input_observable wanted.CurveTarget slot e
target_observable false slot e = input_observable wanted.QuoteTarget slot e

or_false : (a b : Bool) → (a || b) ≡ false → (a ≡ false) × (b ≡ false)
or_false false b e = (refl, e)
or_false true b e = absurd (false≢true (sym e))

pub may_link : (m : Market) (h : ℕ) (target : Option ℕ) → IfSome target (IsTarget m h) → MayLink m h target
may_link m h None is = tt
may_link m h (Some t) is =
    let none = or_false (t == h) (reaches m t h) is.opens in (
      target_observable (takes_found (place.Input wanted.CurveInput) (kind_at m h)) (slot_at m t) is.taken,
      λ same. false≢true (sym none.0 ∙ eq-eqb t h same),
      none.1,
    )

input_serves : (k : Option Kind) (w : Wanted) → takes_found (place.Input w) k ≡ true → serves_as k w ≡ true
input_serves None w e = e
input_serves (Some k) w e = e

kind_of_terms : (slot : Slot) (terms : Terms) → terms_in slot ≡ Some terms → kind_in slot ≡ Some (kind_of terms)
kind_of_terms Free terms e = absurd (cc)
kind_of_terms Today terms e = absurd (cc)
kind_of_terms Watcher terms e = absurd (cc)
kind_of_terms (Live t) terms e = let same : t ≡ terms = cc in ap (λ (x : Terms). Some (kind_of x)) same

pub target_kinds : (m : Market) (h : ℕ) (target : Option ℕ) → IfSome target (IsTarget m h)
    → (kind : handle.HandleKind) (held : Option ℕ) → terms_at m h ≡ Some (terms.Handle kind held)
    → AreOfKind m (Some (terms.Handle kind target))
target_kinds m h None is handle.TheVariants.Quote held e = tt
target_kinds m h None is handle.TheVariants.Curve held e = tt
target_kinds m h (Some t) is handle.TheVariants.Quote held e = (
  input_serves (kind_at m t) wanted.QuoteTarget (by (kind_at m h)
      (kind_of_terms (slot_at m h) (terms.Handle handle.TheVariants.Quote held) e) is.taken),
  tt,
)
  where
    by : (k : Option Kind) → k ≡ Some kind.QuoteHandle
        → takes_found (if takes_found (place.Input wanted.CurveInput) k then place.Input wanted.CurveTarget
        else place.Input wanted.QuoteTarget) (kind_at m t) ≡ true
        → takes_found (place.Input wanted.QuoteTarget) (kind_at m t) ≡ true
    by k same taken = subst (λ (x : Option Kind). takes_found (if takes_found (place.Input wanted.CurveInput) x
        then place.Input wanted.CurveTarget else place.Input wanted.QuoteTarget) (kind_at m t) ≡ true) same taken
target_kinds m h (Some t) is handle.TheVariants.Curve held e = (
  input_serves (kind_at m t) wanted.CurveTarget (by (kind_at m h)
      (kind_of_terms (slot_at m h) (terms.Handle handle.TheVariants.Curve held) e) is.taken),
  tt,
)
  where
    by : (k : Option Kind) → k ≡ Some kind.CurveHandle
        → takes_found (if takes_found (place.Input wanted.CurveInput) k then place.Input wanted.CurveTarget
        else place.Input wanted.QuoteTarget) (kind_at m t) ≡ true
        → takes_found (place.Input wanted.CurveTarget) (kind_at m t) ≡ true
    by k same taken = subst (λ (x : Option Kind). takes_found (if takes_found (place.Input wanted.CurveInput) x
        then place.Input wanted.CurveTarget else place.Input wanted.QuoteTarget) (kind_at m t) ≡ true) same taken
