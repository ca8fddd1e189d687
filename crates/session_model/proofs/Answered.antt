-- What an ask writes of an object that is clear, frozen or late.
use Rattle.std.proofs.Common.{◌≡◌, ℕ, zero, suc, Bool, true, false, List, [], Some, None, refl, sym, ap, ◌∙◌}
use Rattle.std.specs.Prelude.{if◌then◌else◌, ◌||◌, ◌&&◌, not, length, is_some}
use Rattle.std.proofs.lemmas.Bool.{or_left, or_right, or_parts, not-true, false_from_ne_true, false≢true, or_from}
use Rattle.walks.specs.Walk.{below_by}
use Rattle.walks.proofs.Walks.{any_more}
use Rattle.desk_terms.specs.declared.asked.Mark.{Mark}
use Rattle.desk_terms.specs.declared.asked.Mark.TheVariants.{Frozen, Late}
use Rattle.desk_terms.specs.Reading.{Calc}
use Rattle.desk_model.specs.Market.{edges}
use Rattle.desk_model.specs.Fresh.{answer_by, fresh}
use Rattle.desk_model.specs.State.{State, last_answer, is_frozen, is_source, is_held_back, is_late, is_clear, held_outcome, seen_outcome, mark_of, shows}
use Rattle.desk_model.specs.Unheld.{IsAfresh}
use Rattle.desk_model.specs.Visit.{Visit, is_idle, visit_by, runs}
use Rattle.desk_model.proofs.Marks.{clear_back, clear_thawed, fresh_mark}
use Rattle.session_model.specs.Afresh.{IsAskedAfresh, IsAskedHeld, AnswersOf}
use Rattle.session_model.specs.Resolve.{with_found, resolve}
use Rattle.session_model.specs.Standing.{Standing}
use Rattle.session_model.specs.Turn.{effect_of, turn}

wider_at : (a b c d e f : Bool) → (a ≡ true → d ≡ true) → (b ≡ true → e ≡ true) → (c ≡ true → f ≡ true) → (a || (b && c)) ≡ true
    → (d || (e && f)) ≡ true
wider_at true b c d e f first second third is = or_left d _ (first refl)
wider_at false true true d e f first second third is =
    or_right d _ (ap (λ (x : Bool). x && f) (second refl) ∙ third refl)
wider_at false true false d e f first second third is = absurd (cc)
wider_at false false c d e f first second third is = absurd (cc)

-- a walk that finds and passes more finds whatever the narrower one does
wider_by : (reads : ℕ → List ℕ) (found found2 through through2 : ℕ → Bool) → ((x : ℕ) → found x ≡ true → found2 x ≡ true)
    → ((x : ℕ) → through x ≡ true → through2 x ≡ true) → (n o : ℕ) → below_by reads found through n o ≡ true
    → below_by reads found2 through2 n o ≡ true
unfolding below_by
wider_by reads found found2 through through2 finds passes zero o e = absurd (cc)
wider_by reads found found2 through through2 finds passes (suc n) o e =
    any_more (λ x. found x || (through x && below_by reads found through n x)) (λ x. found2 x || (through2 x && below_by reads found2 through2 n x)) (reads o)
    (λ x. wider_at (found x) (through x) (below_by reads found through n x) (found2 x) (through2 x) (below_by reads found2 through2 n x)
    (finds x) (passes x) (wider_by reads found found2 through through2 finds passes n x)) e

idle_calls : (b : Bool) (v w : Visit) → b ≡ true → (if b then v else w).calls ≡ v.calls
idle_calls true v w is = refl
idle_calls false v w is = absurd (cc)

module _ (s : State) (o : ℕ) where
  clear_beneath : is_clear s o ≡ true → below_by (edges s.market) (is_held_back s) (λ x. true) (suc (length s.market.objects)) o ≡ false
  unfolding is_clear
  clear_beneath clear = (or_parts (is_held_back s o) _ (not-true _ clear)).1

  clear_source : is_clear s o ≡ true → is_source s o ≡ false
  clear_source clear = (or_parts (is_frozen s o) (is_source s o) (clear_back s o clear)).1

  -- a clear object is not late
  clear_early : is_clear s o ≡ true → is_late s o ≡ false
  unfolding is_late
  clear_early clear = or_from (is_source s o) _ (clear_source clear) (false_from_ne_true _ (λ deep. false≢true (sym (clear_beneath clear)
      ∙ wider_by (edges s.market) (is_source s) (is_held_back s) (λ x. not (is_frozen s x)) (λ x. true) (λ x e. or_right (is_frozen s x) (is_source s x) e)
      (λ x e. refl) (suc (length s.market.objects)) o deep)))

  clear_afresh : (calc : Calc) → is_clear s o ≡ true → IsAfresh calc s o
  unfolding shows
  clear_afresh calc clear = record {
    mark = fresh_mark s o clear (clear_early clear);
    value = ap (λ (b : Bool). if b then fresh calc s.market o else seen_outcome calc s o) clear;
  }

  frozen_held : is_frozen s o ≡ true → held_outcome s o ≡ Some (last_answer s o)
  unfolding held_outcome
  frozen_held frozen = ap (λ (b : Bool). if b then Some (last_answer s o) else None) (or_left (is_frozen s o) (is_late s o) frozen)

  late_held : is_late s o ≡ true → held_outcome s o ≡ Some (last_answer s o)
  unfolding held_outcome
  late_held late = ap (λ (b : Bool). if b then Some (last_answer s o) else None) (or_right (is_frozen s o) (is_late s o) late)

  frozen_mark : is_frozen s o ≡ true → mark_of s o ≡ Frozen
  unfolding mark_of
  frozen_mark frozen = rw frozen refl

  late_mark : is_frozen s o ≡ false → is_late s o ≡ true → mark_of s o ≡ Late
  unfolding mark_of
  late_mark thawed late = rw (thawed, late) refl

  frozen_unclear : is_frozen s o ≡ true → is_clear s o ≡ false
  frozen_unclear frozen = false_from_ne_true (is_clear s o) (λ clear. false≢true (sym (clear_thawed s o clear) ∙ frozen))

  late_unclear : is_late s o ≡ true → is_clear s o ≡ false
  late_unclear late = false_from_ne_true (is_clear s o) (λ clear. false≢true (sym (clear_early clear) ∙ late))

  -- what is held shows its last value, and nothing is computed of it
  held_shows : (calc : Calc) → is_clear s o ≡ false → held_outcome s o ≡ Some (last_answer s o) → shows calc s o ≡ last_answer s o
  unfolding shows seen_outcome answer_by
  held_shows calc unclear is = rw (unclear, is) refl

  held_idle : (calc : Calc) → held_outcome s o ≡ Some (last_answer s o) → runs calc s o ≡ []
  unfolding runs visit_by
  held_idle calc is =
      idle_calls (is_idle s [] o) (record { calls = []; outcome = seen_outcome calc s o }) _ (or_left (is_some (held_outcome s o)) _ (ap is_some is))

module _ (calc : Calc) (p : Standing) (name object : ℕ) where
  pub asked_afresh : IsAfresh calc p.state object → IsAskedAfresh calc p name object
  unfolding turn resolve with_found effect_of
  asked_afresh a = record {
    ask = λ is. rw (is, a.value, a.mark) refl;
    df = λ day is. rw (is, a.value, a.mark) refl;
  }

  asked_held : (mark : Mark) → mark_of p.state object ≡ mark → shows calc p.state object ≡ last_answer p.state object
      → runs calc p.state object ≡ [] → IsAskedHeld calc p name object mark
  unfolding turn resolve with_found effect_of
  asked_held mark marked shown idle = record {
    ask = λ is. rw (is, shown, marked, idle) refl;
    df = λ day is. rw (is, shown, marked, idle) refl;
  }

  pub answered : AnswersOf calc p name object
  answered = record {
    clear = λ clear. asked_afresh (clear_afresh p.state object calc clear);
    frozen = λ frozen. let is = frozen_held p.state object frozen in
        asked_held Frozen (frozen_mark p.state object frozen) (held_shows p.state object calc (frozen_unclear p.state object frozen) is)
        (held_idle p.state object calc is);
    late = λ thawed late. let is = late_held p.state object late in
        asked_held Late (late_mark p.state object thawed late) (held_shows p.state object calc (late_unclear p.state object late) is)
        (held_idle p.state object calc is);
  }
