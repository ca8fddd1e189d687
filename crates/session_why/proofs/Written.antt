-- A priced object, asked for and written.
use Rattle.std.proofs.Common.{◌≡◌, ◌⊎◌, inl, inr, ℕ, true, false, List, ◌++◌, Option, Some, None, refl, sym, ◌∙◌, ap}
use Rattle.std.proofs.Common.{subst}
use Rattle.std.proofs.lemmas.Bool.{cases_Bool}
use Rattle.desk_terms.specs.declared.terms.Terms.{Terms}
use Rattle.desk_terms.specs.declared.terms.Terms.TheVariants.{Quote, Derived, Handle, Curve, Implied, Index, Engine}
use Rattle.desk_terms.specs.declared.terms.Terms.TheVariants.{Stock, Composite, Flows}
use Rattle.desk_terms.specs.declared.terms.HandleKind as handle
use Rattle.desk_terms.specs.declared.cause.Cause.{Cause}
use Rattle.desk_terms.specs.declared.asked.Mark.{Mark}
use Rattle.desk_terms.specs.Asked.{Shows}
use Rattle.desk_terms.specs.Reading.{Outcome, Calc}
use Rattle.desk_model.specs.declared.slot.Slot.TheVariants as slot
use Rattle.desk_model.specs.Market.{Market, role_of, slot_at, terms_at, is_lazy}
use Rattle.desk_model.specs.State.{State, kept_at, is_frozen, mark_of, held_outcome, shows}
use Rattle.desk_model.specs.Sound.{IsSound}
use Rattle.desk_model.specs.Links.{IsWhole, is_lazy_at}
use Rattle.desk_model.specs.Visit.{stored, asked}
use Rattle.desk_model.proofs.Clear.{shows_seen}
use Rattle.desk_model.proofs.Shown.{early_of, free_held}
use Rattle.session_model.specs.Standing.{Standing}
use Rattle.why_model.proofs.Alike.{frozen_same, late_same, mark_same, shows_same}
use Rattle.why_model.specs.Answer.{behind, priced_text, slot_text, object_lines}
use Rattle.session_why.specs.Lasts.{HasWorkings, priced_line, line_in, behind_in}
use Rattle.desk_terms.specs.declared.asked.Asked.{Asked}
use Rattle.session_why.specs.Computed.{IsAsked}
use Rattle.session_why.proofs.Alike.{with_state, lines_alike}
use Rattle.session_why.proofs.ByKind.{slot_live}
use Rattle.session_why.proofs.Behind.{fits, current_then, behind_is}

pub lazy_terms : (found : Option Terms) → is_lazy (role_of found) ≡ true → (terms : Terms) × (found ≡ Some terms)
lazy_terms None lazy = absurd (cc)
lazy_terms (Some terms) lazy = (terms, refl)

module _ (calc : Calc) (q : Standing) (o : ℕ) where
  live_text : (terms : Terms) → is_lazy (role_of (Some terms)) ≡ true
      → slot_text calc q o (slot.Live terms) ≡ priced_text calc q o terms
  live_text (Quote value) lazy = absurd (cc)
  live_text (Derived minus first second) lazy = absurd (cc)
  live_text (Handle handle.TheVariants.Quote target) lazy = absurd (cc)
  live_text (Handle handle.TheVariants.Curve target) lazy = absurd (cc)
  live_text (Index terms fixings) lazy = absurd (cc)
  live_text (Engine curve) lazy = absurd (cc)
  live_text (Curve terms) lazy = refl
  live_text (Implied curve reference) lazy = refl
  live_text (Stock quote) lazy = refl
  live_text (Composite parts) lazy = refl
  live_text (Flows flows engine) lazy = refl

  priced_lines : (terms : Terms) → terms_at q.state.market o ≡ Some terms → is_lazy (role_of (Some terms)) ≡ true
      → object_lines calc q o
      ≡ priced_line q o terms (mark_of q.state o) (shows calc q.state o) ++ behind calc q o terms
  unfolding object_lines
  priced_lines terms are lazy =
      ap (slot_text calc q o) (slot_live (slot_at q.state.market o) terms are) ∙ live_text terms lazy

none_some : {A : Type 0} {a : A} → Some a ≡ None → ⊥
none_some e = cc

-- an ask, and what is written of it
pub record IsWritten (calc : Calc) (p q : Standing) (o : ℕ) (mark : Mark) (cause : Option Cause) : Type 0 where
  pub shown : Shows cause (kept_at q.state o).last (shows calc p.state o)
  pub text : object_lines calc p o
      ≡ line_in q o (terms_at q.state.market o) mark (shows calc p.state o) ++ behind_in q o mark cause
  pub can : HasWorkings q.state o mark cause

module _ (calc : Calc) (p : Standing) (o : ℕ) (whole : IsWhole p.state) (lazy : is_lazy_at p.state.market o ≡ true)
  where
    abbrev t : State
    t = asked calc o p.state

    abbrev q : Standing
    q = with_state p t

    market_same : t.market ≡ p.state.market
    unfolding asked stored
    market_same = refl

    free_before : IsWhole t → held_outcome t o ≡ None → held_outcome p.state o ≡ None
    free_before then free =
        free_held p.state o (sym (frozen_same calc p.state whole o o) ∙ thawed (cases_Bool (is_frozen t o)))
        (sym (late_same calc p.state whole o o) ∙ early_of t o free)
      where
        thawed : ((is_frozen t o ≡ true) ⊎ (is_frozen t o ≡ false)) → is_frozen t o ≡ false
        thawed (inl frozen) = absurd (none_some (sym ((fits t then).frozen o frozen) ∙ free))
        thawed (inr is) = is

    pub written : (mark : Mark) (cause : Option Cause) → IsWhole t → IsSound calc t → mark ≡ mark_of p.state o
        → Shows cause (kept_at t o).last (shows calc p.state o) → IsWritten calc p q o mark cause
    written mark cause then sound is shown =
        let lazy_then : is_lazy_at t.market o ≡ true = ap (λ (m : Market). is_lazy_at m o) market_same ∙ lazy in
        let terms = lazy_terms (terms_at t.market o) lazy_then in
        let shown_then =
        subst (λ (r : Outcome). Shows cause (kept_at t o).last r) (sym (shows_same calc p.state whole o o)) shown in
        let mark_then : mark ≡ mark_of t o = is ∙ sym (mark_same calc p.state whole o o) in
        let b = behind_is calc q o terms.0 then sound terms.1 lazy_then
        (λ v seen free. current_then calc p.state o v whole (free_before then free)
        (sym (shows_seen p.state whole.links calc o) ∙ sym (shows_same calc p.state whole o o) ∙ seen)) mark cause
        mark_then shown_then in
        record {
          shown = shown;
          text = sym (lines_alike calc p whole o o)
              ∙ priced_lines calc q o terms.0 terms.1
              (subst (λ (f : Option Terms). is_lazy (role_of f) ≡ true) terms.1 lazy_then)
              ∙ ap (λ (l : List ℕ). priced_line q o terms.0 (mark_of t o) (shows calc t o) ++ l) b.text
              ∙ ap (λ (m : Mark). priced_line q o terms.0 m (shows calc t o) ++ behind_in q o mark cause)
              (sym mark_then)
              ∙ ap (λ (r : Outcome). priced_line q o terms.0 mark r ++ behind_in q o mark cause)
              (shows_same calc p.state whole o o)
              ∙ ap (λ (f : Option Terms). line_in q o f mark (shows calc p.state o) ++ behind_in q o mark cause)
              (sym terms.1);
          can = b.can;
        }

-- the same of a session behind an ask
pub written_then : (calc : Calc) (p q : Standing) (o : ℕ) (answer : Asked) → IsWhole p.state → IsWhole q.state
    → IsSound calc q.state
    → is_lazy_at p.state.market o ≡ true → IsAsked calc o p q answer → IsWritten calc p q o answer.mark answer.cause
written_then calc p q o answer before after sound lazy is =
    let r : Standing = with_state p (asked calc o p.state) in
    let same : q ≡ r = is.next in
    subst (λ (z : Standing). IsWritten calc p z o answer.mark answer.cause) (sym same)
    (written calc p o before lazy answer.mark answer.cause
    (subst (λ (z : Standing). IsWhole z.state) same after) (subst (λ (z : Standing). IsSound calc z.state) same sound)
    is.mark
    (subst (λ (z : Standing). Shows answer.cause (kept_at z.state o).last (shows calc p.state o)) same is.shown))
