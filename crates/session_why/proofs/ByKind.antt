-- The terms of an object of a kind, and what its workings are where they are written.
use Rattle.std.proofs.Common.{◌≡◌, ℕ, ℤ, true, List, Option, Some, None, Result, Ok, Err, refl, sym}
use Rattle.std.proofs.Common.{◌∙◌, ap, subst}
use Rattle.std.specs.Prelude.{IsSome, IsOk}
use Rattle.std.proofs.lemmas.Bool.{false≢true}
use Rattle.curve_terms.specs.declared.terms.CurveTerms.{CurveTerms}
use Rattle.flow_terms.specs.declared.flows.FlowTerms.{FlowTerms}
use Rattle.desk_terms.specs.declared.terms.Part.{Part}
use Rattle.desk_terms.specs.declared.terms.Terms.{Terms}
use Rattle.desk_terms.specs.declared.terms.Terms.TheVariants as terms
use Rattle.desk_terms.specs.declared.terms.HandleKind as handle
use Rattle.desk_terms.specs.declared.kind.Kind.{Kind}
use Rattle.desk_terms.specs.declared.kind.Kind.TheVariants as kind
use Rattle.desk_terms.specs.declared.value.Value.{Value}
use Rattle.desk_terms.specs.declared.value.Input as input
use Rattle.desk_terms.specs.Kind.{role}
use Rattle.desk_terms.specs.Terms.{kind_of}
use Rattle.desk_model.specs.declared.slot.Slot.{Slot}
use Rattle.desk_model.specs.declared.slot.Slot.TheVariants as slot
use Rattle.desk_model.specs.Market.{terms_in, terms_at, kind_in, is_lazy}
use Rattle.desk_model.specs.State.{kept_at}
use Rattle.session_model.specs.Standing.{Standing}
use Rattle.why_model.specs.Answer.{workings_over, workings_by}
use Rattle.session_why.specs.Lasts.{CanWork, last_inputs, workings_in}

-- what terms are by their kind
abbrev pub OfKind : Kind → Terms → Type 0
OfKind kind.Today t = Unit {0}
OfKind kind.Quote t = Unit {0}
OfKind kind.Derived t = Unit {0}
OfKind kind.QuoteHandle t = Unit {0}
OfKind kind.CurveHandle t = Unit {0}
OfKind kind.Index t = Unit {0}
OfKind kind.Engine t = Unit {0}
OfKind kind.Curve t = (curve : CurveTerms) × (t ≡ terms.Curve curve)
OfKind kind.Implied t = (curve : ℕ) × (reference : ℤ) × (t ≡ terms.Implied curve reference)
OfKind kind.Stock t = Unit {0}
OfKind kind.Composite t = (parts : List Part) × (t ≡ terms.Composite parts)
OfKind kind.Flows t = (flows : FlowTerms) × (engine : Option ℕ) × (t ≡ terms.Flows flows engine)
OfKind kind.Watcher t = Unit {0}

of_kind : (t : Terms) → OfKind (kind_of t) t
of_kind (terms.Quote value) = tt
of_kind (terms.Derived minus first second) = tt
of_kind (terms.Handle handle.TheVariants.Quote target) = tt
of_kind (terms.Handle handle.TheVariants.Curve target) = tt
of_kind (terms.Index index fixings) = tt
of_kind (terms.Engine curve) = tt
of_kind (terms.Curve curve) = (curve, refl)
of_kind (terms.Implied curve reference) = (curve, reference, refl)
of_kind (terms.Stock quote) = tt
of_kind (terms.Composite parts) = (parts, refl)
of_kind (terms.Flows flows engine) = (flows, engine, refl)

same_kind : (a b : Kind) → Some a ≡ Some b → a ≡ b
same_kind a b e = cc

-- the terms of a priced object
pub terms_of_kind : (s : Slot) (k : Kind) → kind_in s ≡ Some k → is_lazy (role k) ≡ true
    → (t : Terms) × (terms_in s ≡ Some t) × OfKind k t
terms_of_kind slot.Free k is lazy = absurd (cc)
terms_of_kind slot.Today k is lazy =
    absurd (false≢true (subst (λ (z : Kind). is_lazy (role z) ≡ true) (sym (same_kind kind.Today k is)) lazy))
terms_of_kind slot.Watcher k is lazy =
    absurd (false≢true (subst (λ (z : Kind). is_lazy (role z) ≡ true) (sym (same_kind kind.Watcher k is)) lazy))
terms_of_kind (slot.Live t) k is lazy =
    (t, refl, subst (λ (z : Kind). OfKind z t) (same_kind (kind_of t) k is) (of_kind t))

-- what stands at a number that has terms
pub slot_live : (s : Slot) (t : Terms) → terms_in s ≡ Some t → s ≡ slot.Live t
slot_live slot.Free t is = absurd (cc)
slot_live slot.Today t is = absurd (cc)
slot_live slot.Watcher t is = absurd (cc)
slot_live (slot.Live held) t is = let same : held ≡ t = cc in ap slot.Live same

-- what is there
pub some_there : {A : Type 0} (o : Option A) → IsSome o → (x : A) × (o ≡ Some x)
some_there None there = absurd (false≢true there)
some_there (Some x) there = (x, refl)

pub ok_there : {A E : Type 0} (r : Result A E) → IsOk r → (x : A) × (r ≡ Ok x)
ok_there (Ok x) there = (x, refl)
ok_there (Err e) there = absurd (false≢true there)

-- THE WORKINGS of an object with these terms, where they are written
pub record Working (p : Standing) (o : ℕ) (t : Terms) : Type 0 where
  pub shown : Value
  pub inputs : List input.Input
  pub last : (kept_at p.state o).last ≡ Some shown
  pub given : last_inputs p.state o ≡ Ok inputs
  pub text : workings_in p o (terms_at p.state.market o) (kept_at p.state o).last ≡ workings_over p o t shown inputs

pub working : (p : Standing) (o : ℕ) (t : Terms) → terms_at p.state.market o ≡ Some t → CanWork p.state o
    → Working p o t
working p o t are can =
    let v = some_there (kept_at p.state o).last can.last in
    let i = ok_there (last_inputs p.state o) can.inputs in
    record {
      shown = v.0;
      inputs = i.0;
      last = v.1;
      given = i.1;
      text = ap (λ (f : Option Terms). workings_in p o f (kept_at p.state o).last) are
          ∙ ap (workings_in p o (Some t)) v.1
          ∙ ap (workings_by p o t v.0) i.1;
    }
