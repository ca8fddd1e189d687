-- What is stored of an object after an ask that shows a value, and of what it needs, is what is shown.
use Rattle.std.proofs.Common.{◌≡◌, inl, inr, ℕ, Bool, true, false, List, [], Option, Some, None, Result, Ok, refl, sym}
use Rattle.std.proofs.Common.{◌∙◌, ap, subst}
use Rattle.std.specs.Prelude.{◌&&◌, if◌then◌else◌, IsSome, IsOk}
use Rattle.std.proofs.lemmas.Bool.{cases_Bool, or_from}
use Rattle.walks.specs.Walk.{Among}
use Rattle.desk_terms.specs.declared.terms.Terms.{Terms}
use Rattle.desk_terms.specs.declared.value.Value.{Value}
use Rattle.desk_terms.specs.declared.value.Input as input
use Rattle.desk_terms.specs.declared.cause.Cause.{Cause}
use Rattle.desk_terms.specs.declared.asked.Mark.{Mark}
use Rattle.desk_terms.specs.declared.asked.Mark.TheVariants.{Fresh, Frozen, Late, Held}
use Rattle.desk_terms.specs.Asked.{Shows}
use Rattle.desk_terms.specs.Reading.{Calc}
use Rattle.desk_model.specs.declared.kept.Kept.{Kept}
use Rattle.desk_model.specs.Market.{role_of, terms_at, is_lazy}
use Rattle.desk_model.specs.Uses.{uses, needs}
use Rattle.desk_model.specs.Fresh.{inputs_by}
use Rattle.desk_model.specs.State.{State, kept_at, last_answer, is_frozen, is_late, is_clear, least_source, mark_of}
use Rattle.desk_model.specs.State.{held_outcome, seen_outcome, shows}
use Rattle.desk_model.specs.Sound.{IsSound}
use Rattle.desk_model.specs.Links.{IsWhole, is_lazy_at}
use Rattle.desk_model.specs.Visit.{has_value, runs, asked}
use Rattle.desk_model.proofs.Bounds.{same_inputs}
use Rattle.desk_model.proofs.Clear.{shows_seen}
use Rattle.desk_model.proofs.Shown.{HoldsFit, holds_fit, free_held, ready_shows}
use Rattle.desk_model.proofs.Watchers.{thawed_forwarder}
use Rattle.desk_model.proofs.Visits.{runs_closed, runs_idle}
use Rattle.desk_model.proofs.Asked.{stored_not, got, idle_current}
use Rattle.session_model.specs.Standing.{Standing}
use Rattle.why_model.specs.Answer.{workings_by, workings_of, source_text, behind}
use Rattle.why_model.proofs.Shown.{inputs_of_shown}
use Rattle.session_why.specs.Lasts.{CanWork, HasWorkings, last_inputs, workings_in, behind_in}

pub fits : (s : State) → IsWhole s → HoldsFit s
fits s whole = holds_fit s whole.links (thawed_forwarder s whole)

-- an object that is asked for, is not held and is seen with a value, is current then
pub current_then : (calc : Calc) (s : State) (o : ℕ) (value : Value) → IsWhole s → held_outcome s o ≡ None
    → seen_outcome calc s o ≡ Ok value → (kept_at (asked calc o s) o).current ≡ true
unfolding asked
current_then calc s o value whole free is = elim (cases_Bool (has_value (runs calc s o) o)) [
  | inl has ↦
      ap (λ (k : Kept). k.current) (got calc s whole (runs calc s o) (runs_closed calc s whole.links o) o has)
  | inr none ↦
      ap (λ (k : Kept). k.current) (stored_not s (runs calc s o) o none)
      ∙ idle_current s (runs calc s o) o (runs_idle calc s whole.links o value is) free none
]

-- over what is stored of what a current object needs, its inputs are those that are shown
module _ (calc : Calc) (t : State) (whole : IsWhole t) (sound : IsSound calc t) (o : ℕ) (free : held_outcome t o ≡ None)
    (current : (kept_at t o).current ≡ true) where
  last_shown : (x : ℕ) → Among x (needs t.market o) → shows calc t x ≡ last_answer t x
  last_shown x among = elim (sound.current o current) [
    | inl source ↦ absurd ((fits t whole).source o source free)
    | inr priced ↦
        shows_seen t whole.links calc x
        ∙ ready_shows calc t whole.links (fits t whole) sound.current o x free among (priced.ready x among)
  ]

  pub inputs_last : inputs_by (shows calc t) (uses t.market o) ≡ last_inputs t o
  inputs_last = same_inputs (shows calc t) (last_answer t) (uses t.market o) last_shown

-- ---- behind the line of a priced object

module _ (calc : Calc) (q : Standing) (o : ℕ) (terms : Terms) (whole : IsWhole q.state) (sound : IsSound calc q.state)
    (are : terms_at q.state.market o ≡ Some terms) (lazy : is_lazy_at q.state.market o ≡ true)
    (current : (v : Value) → shows calc q.state o ≡ Ok v → held_outcome q.state o ≡ None → (kept_at q.state o).current
    ≡ true) where
  abbrev t : State
  t = q.state

  -- what is written behind the line of an object that is neither frozen nor late
  record Works (text : List ℕ) : Type 0 where
    same : workings_of calc q o terms (shows calc t o) ≡ text
    can : CanWork t o

  worked : is_frozen t o ≡ false → is_late t o ≡ false → (last : Option Value) → (kept_at t o).last ≡ last
      → Shows None last (shows calc t o) → Works (workings_in q o (terms_at t.market o) (kept_at t o).last)
  worked thawed early None is shown = absurd shown
  worked thawed early (Some v) is shown =
      let free = free_held t o thawed early in
      let inputs = inputs_last calc t whole sound o free (current v shown free) in
      let there = inputs_of_shown calc t whole.links o terms v are
      (subst (λ (m : Option Terms). is_lazy (role_of m) ≡ true) are lazy)
      (ap (λ (b : Bool). is_lazy_at t.market o && b) (or_from (is_frozen t o) (is_late t o) thawed early) ∙ none
      (is_lazy_at t.market o)) shown in
      record {
        same = ap (workings_of calc q o terms) shown ∙ ap (workings_by q o terms v) inputs
            ∙ sym (ap (λ (m : Option Terms). workings_in q o m (Some v)) are)
            ∙ sym (ap (workings_in q o (terms_at t.market o)) is);
        can = record {
          inputs = subst (λ (r : Result (List input.Input) Cause). IsOk r) (sym (sym inputs ∙ there.given)) refl;
          last = subst (λ (l : Option Value). IsSome l) (sym is) refl;
        };
      }
    where
      none : (b : Bool) → (b && false) ≡ false
      none true = refl
      none false = refl

  pub record IsBehind (mark : Mark) (cause : Option Cause) : Type 0 where
    pub text : behind calc q o terms ≡ behind_in q o mark cause
    pub can : HasWorkings t o mark cause

  by_flags : (cause : Option Cause) → Shows cause (kept_at t o).last (shows calc t o)
      → (f l c : Bool) → is_frozen t o ≡ f → is_late t o ≡ l
      → ((if f then [] else if l then source_text q o (least_source t o) else workings_of calc q o terms
      (shows calc t o))
      ≡ behind_in q o (if f then Frozen else if l then Late else if c then Fresh else Held) cause)
      × HasWorkings t o (if f then Frozen else if l then Late else if c then Fresh else Held) cause
  by_flags cause shown true l c thawed early = (refl, tt)
  by_flags cause shown false true c thawed early = (refl, tt)
  by_flags None shown false false true thawed early =
      let w = worked thawed early (kept_at t o).last refl shown in (w.same, w.can)
  by_flags None shown false false false thawed early =
      let w = worked thawed early (kept_at t o).last refl shown in (w.same, w.can)
  by_flags (Some cause) shown false false true thawed early = (ap (workings_of calc q o terms) shown, tt)
  by_flags (Some cause) shown false false false thawed early = (ap (workings_of calc q o terms) shown, tt)

  pub behind_is : (mark : Mark) (cause : Option Cause) → mark ≡ mark_of t o
      → Shows cause (kept_at t o).last (shows calc t o) → IsBehind mark cause
  unfolding mark_of
  behind_is mark cause is shown =
      let b = by_flags cause shown (is_frozen t o) (is_late t o) (is_clear t o) refl refl in
      subst (λ (m : Mark). IsBehind m cause) (sym is) (record { text = b.0; can = b.1 })
